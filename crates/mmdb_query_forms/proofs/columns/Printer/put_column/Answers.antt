use Rattle.std.proofs.Common.{rules, ◌≡◌, ◌++◌}
use Rattle.std.proofs.lemmas.Result.{on_ok_weaker}
use Rattle.mmdb_query_forms.specs.Columns.{readings_of, label_of}
use Rattle.mmdb_query_forms.proofs.ColumnLaws.{labelled}
use Rattle.mmdb_query_forms.proofs.columns.Printer.put_column.Goals as goal

pub returns-clause-column : goal.returns-clause-column
returns-clause-column g c =
    let readings = readings_of (g.A.Answer.sections c.args.answer.now) (g.A.Answer.had c.args.answer.now).offsets in
    let column = c.args.column.now in
    let old = c.args.out.now.items in
    let now = c.extend_from_slice.new.self.items in
    let put : now ≡ old ++ label_of c.args.self.form column = search rules in
    on_ok_weaker c.put_read.result (labelled c.args.self.form readings column old now c.put_read.new.out.items put) c.put_read.ensures.shown
