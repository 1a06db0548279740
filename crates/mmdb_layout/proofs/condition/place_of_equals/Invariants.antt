use Rattle.std.proofs.Common.{◌≡◌, ℕ, ◌<◌, ◌%◌, take, nat_eq}
use Rattle.mmdb_layout.specs.Conditions.{quotes, IsSign}
use Rattle.mmdb_layout.proofs.condition.place_of_equals.Given as goal

abbrev pub invariant-loop-place : goal.invariant-loop-place
invariant-loop-place l = record {
  quoted : l.is_quoted ≡ nat_eq (quotes (take l.place l.text) % 2) 1;
  none : (i : ℕ) → i < l.place → ¬ IsSign l.text i;
}
