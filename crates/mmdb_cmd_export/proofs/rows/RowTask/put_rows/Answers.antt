use Rattle.std.proofs.Common.{IfOk, IfErr, subst}
use Rattle.mmdb_cmd_export.specs.Written.{AreWritten, EndRows}
use Rattle.mmdb_cmd_export.proofs.rows.RowTask.put_rows.Goals as goal

pub returns-clause-written : goal.returns-clause-written
returns-clause-written g c =
    let s = g.W.Walk.sections c.args.walk.now in
    let columns = c.args.rows.now.maker.template.now in
    let before = g.O.Write.contents c.args.out.now in
    let after = g.O.Write.contents c.export_rows.new.out in
    subst (λ conditions. IfOk c.export_rows.result (AreWritten (g.W.Walk.comes c.args.walk.now) s conditions columns before after)) c.as_slice.ensures.value c.export_rows.ensures.rows

pub returns-clause-failed : goal.returns-clause-failed
returns-clause-failed g c =
    let s = g.W.Walk.sections c.args.walk.now in
    let columns = c.args.rows.now.maker.template.now in
    let before = g.O.Write.contents c.args.out.now in
    let after = g.O.Write.contents c.export_rows.new.out in
    subst (λ conditions. IfErr c.export_rows.result (EndRows g.W.Walk.comes c.args.walk.now s conditions columns before after)) c.as_slice.ensures.value c.export_rows.ensures.failed
