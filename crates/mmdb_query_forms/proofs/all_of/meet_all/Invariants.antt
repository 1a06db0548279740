use Rattle.std.proofs.Common.{drop}
use Rattle.mmdb_query_forms.proofs.MetLaws.{ConditionsWay}
use Rattle.mmdb_query_forms.proofs.all_of.meet_all.Given as goal

abbrev pub invariant-loop-condition : goal.invariant-loop-condition
invariant-loop-condition g l = ConditionsWay l.conditions (drop l.condition-index l.conditions) (g.R.ReadAlong.outlines l.found)
