use Rattle.std.proofs.Common.{rules, ◌<◌, length, ◌∙◌}
use Rattle.mmdb_cmd_enrich.proofs.ColumnLaws.{column_step, cut_twice}
use Rattle.mmdb_cmd_enrich.proofs.columns.far_column_of.Goals as goal

pub loop-preserved : goal.loop-preserved
loop-preserved c =
    let some : c.cell_length-len.result < length c.loop.rest.now = search rules in
    let below : c.loop.counter < c.args.column = search rules in
    c.loop.invariant ∙ column_step c.args.rows c.args.goes_on c.args.column c.loop.counter c.cell_length-len.result c.loop.rest.now _ below c.cell_length-len.ensures.length some (cut_twice c.loop.rest.now c.cell_length-len.result)
