use Rattle.mmdb_cmd_diff.proofs.Gathering.{always-ok, ready-as}
use Rattle.std.proofs.Common.{refl}
use Rattle.mmdb_cmd_diff.proofs.comparison.report_fault.Goals as goal

pub returns-clause-ready : goal.returns-clause-ready
returns-clause-ready g c both ready =
    always-ok c.report_in.result _ (ready-as both c.begin_fault.new.self _ c.report_in.ensures.shown c.report_in.ensures.kept refl (c.in_ok-begin_fault.ensures.ready both ready))
