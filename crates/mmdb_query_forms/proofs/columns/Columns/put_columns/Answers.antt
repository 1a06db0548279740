use Rattle.std.proofs.Common.{rules, ◌≡◌, ◌+◌, ◌∷◌, [], drop, get_or, ap, ◌∙◌, subst, arith}
use Rattle.std.proofs.lemmas.List.{drop_more, drop_all}
use Rattle.mmdb_query_forms.specs.Columns.{readings_of}
use Rattle.mmdb_query_forms.proofs.ColumnLaws.{ColumnsWay, column_put, columns_put}
use Rattle.mmdb_query_forms.proofs.columns.Columns.put_columns.Goals as goal

pub loop-place-preserved : goal.loop-place-preserved
loop-place-preserved g c =
    let form = c.args.self.now.form in
    let readings = readings_of (g.A.Answer.sections c.args.answer.now) (g.A.Answer.had c.args.answer.now).offsets in
    let all = c.args.self.now.columns.items in
    let place = c.loop-place.place in
    let column = c.index-column.result.now in
    let is : get_or all place column ≡ column = search rules in
    let here : drop place all ≡ column ∷ drop (place + 1) all = drop_more all place column (omega arith) ∙ ap (λ r. r ∷ drop (place + 1) all) is in
    let way = subst (λ l. ColumnsWay form readings all l c.args.out.now.items c.loop-place.out.items) here c.loop-place.invariant.0 in (
      column_put form readings all (drop (place + 1) all) column c.args.out.now.items c.loop-place.out.items c.put_noted.new.out.items way c.in_ok-put_noted.ensures.column,
      c.in_ok-put_noted.ensures.fits,
    )

pub returns-clause-columns : goal.returns-clause-columns
returns-clause-columns g c =
    let form = c.args.self.now.form in
    let readings = readings_of (g.A.Answer.sections c.args.answer.now) (g.A.Answer.had c.args.answer.now).offsets in
    let all = c.args.self.now.columns.items in
    let none : drop c.loop-place.place all ≡ [] = drop_all c.loop-place.place all (omega arith) in
    columns_put form readings all c.args.out.now.items c.loop-place.out.items
    (subst (λ l. ColumnsWay form readings all l c.args.out.now.items c.loop-place.out.items) none c.loop-place.invariant.0)
