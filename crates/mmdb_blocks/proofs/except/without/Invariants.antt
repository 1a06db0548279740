use Rattle.std.proofs.Common.{ℕ, ◌≤◌, ◌↔◌, take}
use Rattle.mmdb_blocks.specs.Ranges.{IsAmong}
use Rattle.mmdb_blocks.specs.Working.{Begins}
use Rattle.mmdb_blocks.proofs.except.without.Given as goal

abbrev pub invariant-loop-range : goal.invariant-loop-range
invariant-loop-range l = record {
  begins : Begins l.rest;
  same : (address : ℕ) → l.floor ≤ address → IsAmong address l.rest ↔ IsAmong address l.others;
  left : (address : ℕ) → IsAmong address l.left.items
      ↔ (IsAmong address (take l.range-index l.ranges) × ¬ IsAmong address l.others);
}
