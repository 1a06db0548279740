use Rattle.std.proofs.Common.{◌∙◌, ◌++◌, ap, sym, subst}
use Rattle.mmdb_query.specs.Rows.{IsRow}
use Rattle.mmdb_query.proofs.RowLaws.{row_of}
use Rattle.mmdb_query.proofs.rows.RowMaker.join_kept.Goals as goal

pub returns : goal.returns
returns g c =
    let front = g.T.Template.front c.args.self.now.template.now in
    let ends = g.T.Template.is_tail c.args.self.now.template.now (g.A.Answer.sections c.args.answer.now) in
    let had = g.A.Answer.had c.args.answer.now in
    let line = c.begin.new.line.items in
    let joined = c.in_ok-extend_from_slice.ensures.items ∙ ap (λ tail. line ++ tail) c.as_slice.ensures.value in
    λ is. subst (IsRow front ends had) (sym joined) (row_of front ends had line c.in-Some.tail.now.items c.in_ok-begin.ensures c.in-Some.ensures)
