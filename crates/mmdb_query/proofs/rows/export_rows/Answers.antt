use Rattle.mmdb_query.specs.Ends.{leaves_none}
use Rattle.mmdb_query.specs.Rows.{puts_row, nothing}
use Rattle.mmdb_query.specs.Taking.{asks}
use Rattle.mmdb_query.proofs.TakeLaws.{ended_whole}
use Rattle.mmdb_query.proofs.rows.export_rows.Goals as goal

pub returns-clause-failed : goal.returns-clause-failed
returns-clause-failed g c =
    let template = c.args.rows.now.maker.template.now in
    let a = asks g.C.Conditions.says g.C.Conditions.is_unread (puts_row g.T.Template.front g.T.Template.is_tail) g.T.Template.is_unread leaves_none c.args.conditions.now template (g.W.Walk.sections c.args.walk.now) in
    ended_whole g.W.Walk.comes a (λ had old text e left. left) c.put_each.result c.args.walk.now nothing _ _ c.put_each.ensures.failed
