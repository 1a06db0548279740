use Rattle.std.proofs.Common.{ℕ, ◌↔◌, take}
use Rattle.mmdb_blocks.specs.Ranges.{IsAmong}
use Rattle.mmdb_blocks.proofs.ranges.merged.Given as goal

abbrev pub invariant-loop-range : goal.invariant-loop-range
invariant-loop-range l = (address : ℕ) → IsAmong address l.items.items ↔ IsAmong address (take l.range-index l.ranges)
