use Rattle.std.proofs.Common.{List}
use Rattle.mmdb_reader.specs.File.{Database}
use Rattle.mmdb_cmd_enrich.specs.Stretches.{AreAsked}
use Rattle.mmdb_cmd_enrich.specs.Tasks.{AreCellsAsked}
use Rattle.mmdb_cmd_enrich.specs.Template.{Template}
use Rattle.mmdb_cmd_enrich.specs.declared.header.Columns.{Columns}
use Rattle.mmdb_cmd_enrich.proofs.CopiedLaws.{rows_copied, on_both}
use Rattle.mmdb_cmd_enrich.proofs.lines.copy_all_rows.Goals as goal

pub returns : goal.returns
returns g c =
    let are : Columns → Template → List Database → Type 0 = λ columns. AreAsked c.args.passage.now.reloads c.args.databases.now.items (AreCellsAsked c.args.arguments.now columns) in
    let input = g.I.Read.remaining c.args.input.now in
    let mid = g.I.Read.remaining c.copy_mark.new.input in
    let next = g.I.Read.remaining c.columns_of_input.new.input in
    let left = g.I.Read.remaining c.copy_columns.new.input.input.now in
    let old = g.O.Write.contents c.args.console.now.out.now.out.now in
    let now = g.O.Write.contents c.copy_mark.new.out.out.now in
    let then = g.O.Write.contents c.columns_of_input.new.out.out.now in
    let new = g.O.Write.contents c.copy_columns.new.console.out.now.out.now in
    on_both c.copy_columns.result
    (rows_copied c.args.passage.now.rows c.args.task.now are c.in_ok-columns.columns input mid next left old now then new c.args.passage.now.counts c.copy_columns.new.passage.counts
    c.in_ok-copy_mark.ensures c.in_ok-columns.ensures.passed c.in_ok-columns.ensures.columns)
    c.copy_columns.ensures.whole c.copy_columns.ensures.end
