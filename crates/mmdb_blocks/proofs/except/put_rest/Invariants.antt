use Rattle.std.proofs.Common.{ℕ, ◌-◌, ◌<◌, ◌≤◌, ◌⊎◌, ◌↔◌}
use Rattle.mmdb_blocks.specs.Ranges.{IsAmong}
use Rattle.mmdb_blocks.specs.Working.{Begins}
use Rattle.mmdb_blocks.proofs.except.put_rest.Given as goal

abbrev pub invariant-loop-other : goal.invariant-loop-other
invariant-loop-other l = record {
  begins : Begins l.rest;
  low : l.first ≤ l.from;
  high : l.from ≤ l.last;
  same : (address : ℕ) → l.from ≤ address → IsAmong address l.rest ↔ IsAmong address l.others;
  left : (address : ℕ) → IsAmong address l.left.items
      ↔ (IsAmong address l.fn.left.items ⊎ ((l.first ≤ address) × (address < l.from) × ¬ IsAmong address l.others));
}

abbrev pub decreases-loop-other : goal.decreases-loop-other
decreases-loop-other l = l.last - l.from
