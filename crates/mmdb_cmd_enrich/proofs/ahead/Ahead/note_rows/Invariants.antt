use Rattle.std.proofs.Common.{◌≤◌}
use Rattle.mmdb_cmd_enrich.specs.Ahead.{AreSpelled}
use Rattle.mmdb_cmd_enrich.proofs.ahead.Ahead.note_rows.Given as goal

abbrev pub invariant-loop : goal.invariant-loop
invariant-loop l = record {
  few : l.count ≤ l.counter;
  spelled : AreSpelled l.reading l.self.texts l.self.addresses l.count;
}
