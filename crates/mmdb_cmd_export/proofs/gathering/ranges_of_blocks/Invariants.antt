use Rattle.std.proofs.Common.{ℕ, ◌↔◌, take}
use Rattle.mmdb_blocks.specs.Blocks.{IsIn}
use Rattle.mmdb_blocks.specs.Ranges.{IsAmong}
use Rattle.mmdb_cmd_export.proofs.gathering.ranges_of_blocks.Given as goal

-- the addresses of the blocks so far
abbrev pub invariant-loop-block : goal.invariant-loop-block
invariant-loop-block l = (address : ℕ) → IsAmong address l.ranges ↔ IsIn address (take l.block-index l.blocks)
