use Rattle.std.proofs.Common.{ℕ, ◌≤◌, ◌↔◌, length}
use Rattle.mmdb_blocks.specs.Ranges.{IsAmong}
use Rattle.mmdb_blocks.specs.Working.{Begins}
use Rattle.mmdb_blocks.proofs.except.skip.Given as goal

abbrev pub invariant-loop-range : goal.invariant-loop-range
invariant-loop-range l = record {
  begins : Begins l.rest;
  same : (address : ℕ) → l.from ≤ address → IsAmong address l.rest ↔ IsAmong address l.others;
}

abbrev pub decreases-loop-range : goal.decreases-loop-range
decreases-loop-range l = length l.rest
