use Rattle.std.proofs.Common.{sym, ap, ◌∙◌, arith}
use Rattle.mmdb_filter.specs.declared.rows.RowPosition.TheVariants.{Cell}
use Rattle.mmdb_cmd_enrich.specs.Columns.{cell_length}
use Rattle.mmdb_cmd_enrich.proofs.CellRunLaws.{line_cell, bare_cell}
use Rattle.mmdb_cmd_enrich.proofs.columns.cell_length.Goals as goal

pub returns-in-Lines-clause-length : goal.returns-in-Lines-clause-length
returns-in-Lines-clause-length c = sym (ap (λ r. cell_length r Cell c.args.text.now) c.in-Lines.is ∙ line_cell c.in-Lines.delimiter c.args.text.now c.either_from.result (omega (arith, c.either_from.ensures.value)))

pub returns-in-Csv-2-clause-length : goal.returns-in-Csv-2-clause-length
returns-in-Csv-2-clause-length c =
    let text = c.args.text.now in
    bare_cell c.in-Csv-2.delimiter text c.here_or_from.result (c.begins_with_quote.ensures c.if-begins_with_quote.false) (omega (arith, c.here_or_from.ensures.value))
    ∙ sym (ap (λ r. cell_length r Cell text) c.in-Csv-2.is)
