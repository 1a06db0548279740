use Rattle.std.proofs.Common.{◌≤◌, ◌-◌, length, drop}
use Rattle.mmdb_objects.proofs.ScanLaws.{Goes}
use Rattle.mmdb_objects.proofs.lexemes.escaped_end.Given as goal

abbrev pub invariant-loop-stop : goal.invariant-loop-stop
invariant-loop-stop l = record {
  low : l.from ≤ l.at;
  high : l.at ≤ length l.text;
  goes : Goes (drop l.from l.text) (drop l.at l.text);
}

abbrev pub decreases-loop-stop : goal.decreases-loop-stop
decreases-loop-stop l = length l.text - l.at
