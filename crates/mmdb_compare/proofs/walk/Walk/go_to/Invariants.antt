use Rattle.std.proofs.Common.{◌≡◌}
use Rattle.mmdb_compare.specs.Coming.{coming_from}
use Rattle.mmdb_compare.specs.Walks.{left_of, steps_left}
use Rattle.mmdb_compare.proofs.walk.Walk.go_to.Given as goal

-- what is left at the address stays the same, of the same database
abbrev pub invariant-loop-self : goal.invariant-loop-self
invariant-loop-self g l = record {
  left : coming_from l.at (left_of l.self) ≡ coming_from l.at (left_of l.initial.self);
  database : l.self.database ≡ l.initial.self.database;
}

abbrev pub decreases-loop-self : goal.decreases-loop-self
decreases-loop-self g l = steps_left l.self
