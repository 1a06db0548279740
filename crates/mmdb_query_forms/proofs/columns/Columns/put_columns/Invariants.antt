use Rattle.std.proofs.Common.{drop}
use Rattle.mmdb_query_forms.specs.Columns.{readings_of}
use Rattle.mmdb_query_forms.specs.Fitting.{ScratchFits}
use Rattle.mmdb_query_forms.proofs.ColumnLaws.{ColumnsWay}
use Rattle.mmdb_query_forms.proofs.columns.Columns.put_columns.Given as goal

abbrev pub invariant-loop-place : goal.invariant-loop-place
invariant-loop-place g l =
    let readings = readings_of (g.A.Answer.sections l.answer) (g.A.Answer.had l.answer).offsets in
    ColumnsWay l.self.form readings l.self.columns.items (drop l.place l.self.columns.items) l.fn.out.items l.out.items
    × ScratchFits l.self (g.A.Answer.sections l.answer) l.scratch
