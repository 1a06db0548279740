use Rattle.std.proofs.Common.{◌≡◌}
use Rattle.mmdb_reader.specs.Enumeration.{items_to_come, database_walked}
use Rattle.mmdb_report.proofs.TallyLemmas.{Shares}
use Rattle.mmdb_report.proofs.report.report_on.Given as goal

abbrev pub invariant-loop-item : goal.invariant-loop-item
invariant-loop-item g l = record {
  can : (goal.iterator-loop-item g).can_next l.item-iterator;
  ends : (goal.iterator-loop-item g).is_finite l.item-iterator;
  walked : database_walked l.item-iterator ≡ database_walked l.initial.item-iterator;
  shares : Shares (database_walked l.initial.item-iterator) (items_to_come l.initial.item-iterator) (items_to_come l.item-iterator) l.tally;
}
