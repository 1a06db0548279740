use Rattle.mmdb_cmd_enrich.proofs.BreakLaws.{BreaksWay}
use Rattle.mmdb_cmd_enrich.proofs.columns.breaks_in.Given as goal

abbrev pub invariant-loop-passed : goal.invariant-loop-passed
invariant-loop-passed l = BreaksWay l.rows l.row l.rest l.passed
