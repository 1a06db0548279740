use Rattle.std.proofs.Common.{◌≡◌, refl, sym, ap, ◌∙◌, subst, false, map}
use Rattle.mmdb_filter.specs.Lines.{IsFiltered, IsBegun}
use Rattle.mmdb_cmd_enrich.specs.Stretches.{AreAsked, IsEnriched, additions_of}
use Rattle.mmdb_cmd_enrich.specs.Tasks.{AreCellsAsked}
use Rattle.mmdb_cmd_enrich.specs.Template.{cells, Template}
use Rattle.mmdb_cmd_enrich.proofs.StretchLaws.{none_enriched, enriched_then, enriched_begun, enriched_front, enriched_end, filtered_at, begun_at, on_any_err}
use Rattle.mmdb_cmd_enrich.proofs.TaskLaws.{cells_asked}
use Rattle.mmdb_cmd_enrich.proofs.lines.copy_columns.Goals as goal

pub loop-init : goal.loop-init
loop-init g c = record {
  way = none_enriched c.args.passage.now.rows (AreAsked c.args.passage.now.reloads c.args.databases.now.items (AreCellsAsked c.args.arguments.now c.args.columns)) (g.I.Read.remaining c.args.input.now.input.now) (g.O.Write.contents c.args.console.now.out.now.out.now) c.args.passage.now.counts;
  rows = refl;
  reloads = refl;
  kept = λ no. refl;
}

pub returns-in_err-task-clause-begun : goal.returns-in_err-task-clause-begun
returns-in_err-task-clause-begun g c =
    let rows = c.args.passage.now.rows in
    let are = AreAsked c.args.passage.now.reloads c.args.databases.now.items (AreCellsAsked c.args.arguments.now c.args.columns) in
    let input = g.I.Read.remaining c.args.input.now.input.now in
    let mid = g.I.Read.remaining c.loop.input.input.now in
    let old = g.O.Write.contents c.args.console.now.out.now.out.now in
    let now = g.O.Write.contents c.loop.console.out.now.out.now in
    let new = g.O.Write.contents c.take_new.new.console.out.now.out.now in
    let same : now ≡ new = ap (λ o. g.O.Write.contents o.out.now) (sym c.take_new.ensures.output) in
    let way : IsEnriched rows are input mid old new c.args.passage.now.counts c.loop.passage.counts = subst (λ o. IsEnriched rows are input mid old o c.args.passage.now.counts c.loop.passage.counts) same c.loop.invariant.way in
    on_any_err c.from_residual.result (enriched_front rows are input mid old new c.args.passage.now.counts c.loop.passage.counts way)

pub returns-in_err-enrich_from-clause-begun : goal.returns-in_err-enrich_from-clause-begun
returns-in_err-enrich_from-clause-begun g c =
    let rows = c.args.passage.now.rows in
    let are = AreAsked c.args.passage.now.reloads c.args.databases.now.items (AreCellsAsked c.args.arguments.now c.args.columns) in
    let input = g.I.Read.remaining c.args.input.now.input.now in
    let mid = g.I.Read.remaining c.loop.input.input.now in
    let old = g.O.Write.contents c.args.console.now.out.now.out.now in
    let now = g.O.Write.contents c.loop.console.out.now.out.now in
    let left = g.I.Read.remaining c.enrich_from.new.input.input.now in
    let new = g.O.Write.contents c.enrich_from.new.console.out.now.out.now in
    let same_rows : c.take_new.new.passage.rows ≡ c.args.passage.now.rows = c.take_new.ensures.rows ∙ c.loop.invariant.rows in
    let same_output = ap (λ o. g.O.Write.contents o.out.now) c.take_new.ensures.output in
    let after = c.enrich_from.new.passage.counts in
    let dbs = c.as_slice.result.now in
    let kept : c.args.passage.now.reloads ≡ false → dbs ≡ c.args.databases.now.items =
    λ no. c.as_slice.ensures.value ∙ ap (λ d. d.items) (c.take_new.ensures.kept (c.loop.invariant.reloads ∙ no)) ∙ c.loop.invariant.kept no in
    let what = c.cells_of-what.result in
    let paths = map (λ path. path.items) what.paths.items in
    let template : Template = cells what.rows what.reading what.column what.breaks what.network paths in
    let asked : AreCellsAsked c.args.arguments.now c.args.columns template =
    cells_asked c.args.arguments.now c.args.columns what.rows what.reading what.column what.breaks what.network paths (c.cells_of-what.ensures.rows ∙ c.in_ok-task.ensures.rows) (c.cells_of-what.ensures.reading ∙ c.in_ok-task.ensures.reading)
    c.cells_of-what.ensures.column c.cells_of-what.ensures.breaks (c.cells_of-what.ensures.network ∙ c.in_ok-task.ensures.network) in
    let begun = c.in_err-enrich_from.ensures.begun in
    let then : IsBegun rows (additions_of template dbs) mid now new = begun_at c.take_new.new.passage.rows rows (additions_of template dbs) mid (g.O.Write.contents c.take_new.new.console.out.now.out.now) now new same_rows same_output begun in
    on_any_err c.from_residual-in_err-enrich_from.result (enriched_begun rows are template dbs input mid old now new c.args.passage.now.counts c.loop.passage.counts (asked, kept) c.loop.invariant.way then)

pub returns-then-branch-clause-whole : goal.returns-then-branch-clause-whole
returns-then-branch-clause-whole g c =
    let rows = c.args.passage.now.rows in
    let are = AreAsked c.args.passage.now.reloads c.args.databases.now.items (AreCellsAsked c.args.arguments.now c.args.columns) in
    let input = g.I.Read.remaining c.args.input.now.input.now in
    let mid = g.I.Read.remaining c.loop.input.input.now in
    let old = g.O.Write.contents c.args.console.now.out.now.out.now in
    let now = g.O.Write.contents c.loop.console.out.now.out.now in
    let left = g.I.Read.remaining c.enrich_from.new.input.input.now in
    let new = g.O.Write.contents c.enrich_from.new.console.out.now.out.now in
    let same_rows : c.take_new.new.passage.rows ≡ c.args.passage.now.rows = c.take_new.ensures.rows ∙ c.loop.invariant.rows in
    let same_output = ap (λ o. g.O.Write.contents o.out.now) c.take_new.ensures.output in
    let after = c.enrich_from.new.passage.counts in
    let dbs = c.as_slice.result.now in
    let kept : c.args.passage.now.reloads ≡ false → dbs ≡ c.args.databases.now.items =
    λ no. c.as_slice.ensures.value ∙ ap (λ d. d.items) (c.take_new.ensures.kept (c.loop.invariant.reloads ∙ no)) ∙ c.loop.invariant.kept no in
    let what = c.cells_of-what.result in
    let paths = map (λ path. path.items) what.paths.items in
    let template : Template = cells what.rows what.reading what.column what.breaks what.network paths in
    let asked : AreCellsAsked c.args.arguments.now c.args.columns template =
    cells_asked c.args.arguments.now c.args.columns what.rows what.reading what.column what.breaks what.network paths (c.cells_of-what.ensures.rows ∙ c.in_ok-task.ensures.rows) (c.cells_of-what.ensures.reading ∙ c.in_ok-task.ensures.reading)
    c.cells_of-what.ensures.column c.cells_of-what.ensures.breaks (c.cells_of-what.ensures.network ∙ c.in_ok-task.ensures.network) in
    let whole = c.in_ok-enrich_from.ensures.whole in
    let then : IsFiltered rows (additions_of template dbs) mid left now new c.loop.passage.counts after =
    filtered_at c.take_new.new.passage.rows rows (additions_of template dbs) mid left (g.O.Write.contents c.take_new.new.console.out.now.out.now) now new c.take_new.new.passage.counts c.loop.passage.counts after same_rows same_output c.take_new.ensures.counts whole in
    let way = enriched_then rows are template dbs input mid left old now new c.args.passage.now.counts c.loop.passage.counts after (asked, kept) c.loop.invariant.way then in
    way

pub returns-then-branch-clause-end : goal.returns-then-branch-clause-end
returns-then-branch-clause-end g c =
    let rows = c.args.passage.now.rows in
    let are = AreAsked c.args.passage.now.reloads c.args.databases.now.items (AreCellsAsked c.args.arguments.now c.args.columns) in
    let input = g.I.Read.remaining c.args.input.now.input.now in
    let mid = g.I.Read.remaining c.loop.input.input.now in
    let old = g.O.Write.contents c.args.console.now.out.now.out.now in
    let now = g.O.Write.contents c.loop.console.out.now.out.now in
    enriched_end rows are input mid (g.I.Read.remaining c.enrich_from.new.input.input.now) old now c.args.passage.now.counts c.loop.passage.counts c.loop.invariant.way (c.in_ok-enrich_from.ensures.end c.if-branch.true)

pub loop-preserved : goal.loop-preserved
loop-preserved g c =
    let rows = c.args.passage.now.rows in
    let are = AreAsked c.args.passage.now.reloads c.args.databases.now.items (AreCellsAsked c.args.arguments.now c.args.columns) in
    let input = g.I.Read.remaining c.args.input.now.input.now in
    let mid = g.I.Read.remaining c.loop.input.input.now in
    let old = g.O.Write.contents c.args.console.now.out.now.out.now in
    let now = g.O.Write.contents c.loop.console.out.now.out.now in
    let left = g.I.Read.remaining c.enrich_from.new.input.input.now in
    let new = g.O.Write.contents c.enrich_from.new.console.out.now.out.now in
    let same_rows : c.take_new.new.passage.rows ≡ c.args.passage.now.rows = c.take_new.ensures.rows ∙ c.loop.invariant.rows in
    let same_output = ap (λ o. g.O.Write.contents o.out.now) c.take_new.ensures.output in
    let after = c.enrich_from.new.passage.counts in
    let dbs = c.as_slice.result.now in
    let kept : c.args.passage.now.reloads ≡ false → dbs ≡ c.args.databases.now.items =
    λ no. c.as_slice.ensures.value ∙ ap (λ d. d.items) (c.take_new.ensures.kept (c.loop.invariant.reloads ∙ no)) ∙ c.loop.invariant.kept no in
    let what = c.cells_of-what.result in
    let paths = map (λ path. path.items) what.paths.items in
    let template : Template = cells what.rows what.reading what.column what.breaks what.network paths in
    let asked : AreCellsAsked c.args.arguments.now c.args.columns template =
    cells_asked c.args.arguments.now c.args.columns what.rows what.reading what.column what.breaks what.network paths (c.cells_of-what.ensures.rows ∙ c.in_ok-task.ensures.rows) (c.cells_of-what.ensures.reading ∙ c.in_ok-task.ensures.reading)
    c.cells_of-what.ensures.column c.cells_of-what.ensures.breaks (c.cells_of-what.ensures.network ∙ c.in_ok-task.ensures.network) in
    let whole = c.in_ok-enrich_from.ensures.whole in
    let then : IsFiltered rows (additions_of template dbs) mid left now new c.loop.passage.counts after =
    filtered_at c.take_new.new.passage.rows rows (additions_of template dbs) mid left (g.O.Write.contents c.take_new.new.console.out.now.out.now) now new c.take_new.new.passage.counts c.loop.passage.counts after same_rows same_output c.take_new.ensures.counts whole in
    let way = enriched_then rows are template dbs input mid left old now new c.args.passage.now.counts c.loop.passage.counts after (asked, kept) c.loop.invariant.way then in
    record {
      way = way;
      rows = c.in_ok-enrich_from.ensures.rows ∙ same_rows;
      reloads = c.in_ok-enrich_from.ensures.reloads ∙ c.take_new.ensures.reloads ∙ c.loop.invariant.reloads;
      kept = λ no. ap (λ d. d.items) (c.take_new.ensures.kept (c.loop.invariant.reloads ∙ no)) ∙ c.loop.invariant.kept no;
    }

pub returns-clause-begun : goal.returns-clause-begun
returns-clause-begun g c =
    enriched_front c.args.passage.now.rows (AreAsked c.args.passage.now.reloads c.args.databases.now.items (AreCellsAsked c.args.arguments.now c.args.columns)) (g.I.Read.remaining c.args.input.now.input.now) (g.I.Read.remaining c.loop.input.input.now)
    (g.O.Write.contents c.args.console.now.out.now.out.now) (g.O.Write.contents c.loop.console.out.now.out.now) c.args.passage.now.counts c.loop.passage.counts c.loop.invariant.way
