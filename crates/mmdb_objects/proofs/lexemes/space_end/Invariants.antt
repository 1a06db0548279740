use Rattle.std.proofs.Common.{◌≡◌, ◌≤◌, ◌-◌, length}
use Rattle.mmdb_objects.specs.Scanned.{lexemes_at}
use Rattle.mmdb_objects.proofs.lexemes.space_end.Given as goal

abbrev pub invariant-loop-at : goal.invariant-loop-at
invariant-loop-at l = record {
  low : l.from ≤ l.at;
  high : l.at ≤ length l.text;
  same : lexemes_at l.text l.at ≡ lexemes_at l.text l.from;
}

abbrev pub decreases-loop-at : goal.decreases-loop-at
decreases-loop-at l = length l.text - l.at
