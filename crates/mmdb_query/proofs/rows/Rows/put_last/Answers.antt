use Rattle.std.proofs.Common.{◌∙◌, sym, subst}
use Rattle.mmdb_query.specs.Rows.{IsRow, IsBegun}
use Rattle.mmdb_query.proofs.RowLaws.{row_of}
use Rattle.mmdb_query.proofs.rows.Rows.put_last.Goals as goal

pub returns-then-len-gt-MOST_JOINED-clause-done : goal.returns-then-len-gt-MOST_JOINED-clause-done
returns-then-len-gt-MOST_JOINED-clause-done g c =
    let maker = c.args.self.now.maker in
    let front = g.T.Template.front maker.template.now in
    let ends = g.T.Template.is_tail maker.template.now (g.A.Answer.sections c.args.answer.now) in
    let had = g.A.Answer.had c.args.answer.now in
    let line = c.as_slice.result.now in
    let last = c.as_slice-then-len-gt-MOST_JOINED in (
      _,
      row_of front ends had line last.result.now (subst (IsBegun front had) (sym c.as_slice.ensures.value) c.in-Ok.ensures) (subst (ends had.offsets) (sym last.ensures.value) c.requires),
      c.in_ok-write_parts.ensures.written,
    )

pub returns-clause-done : goal.returns-clause-done
returns-clause-done g c =
    let maker = c.args.self.now.maker in
    let front = g.T.Template.front maker.template.now in
    let ends = g.T.Template.is_tail maker.template.now (g.A.Answer.sections c.args.answer.now) in
    let had = g.A.Answer.had c.args.answer.now in
    let row = row_of front ends had c.begin.new.line.items maker.last.items c.in-Ok.ensures c.requires in
    (_, subst (IsRow front ends had) (sym (c.as_slice-2.ensures.value ∙ c.in-Ok-join_last.ensures.line)) row, c.in_ok-write_bytes.ensures.written)
