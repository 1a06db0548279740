use Rattle.std.proofs.Common.{refl, sym, subst, ◌∙◌}
use Rattle.mmdb_filter.specs.Lines.{IsFiltered, IsBegun}
use Rattle.mmdb_cmd_enrich.proofs.StretchLaws.{none_filtered, filtered_then, begun_then, begun_by, end_then, on_any_err}
use Rattle.mmdb_cmd_enrich.proofs.lines.copy_rows.Goals as goal

pub loop-init : goal.loop-init
loop-init g c = record {
  way = none_filtered c.args.passage.now.rows (g.A.Additions.adds c.args.additions.now) (g.I.Read.remaining c.args.input.now.input.now) (g.O.Write.contents c.args.console.now.out.now.out.now) c.args.passage.now.counts;
  rows = refl;
  reloads = refl;
  fits = c.requires;
}

pub returns-in_err-is_end-clause-begun : goal.returns-in_err-is_end-clause-begun
returns-in_err-is_end-clause-begun g c =
    let rows = c.args.passage.now.rows in
    let adds = g.A.Additions.adds c.args.additions.now in
    let input = g.I.Read.remaining c.args.input.now.input.now in
    let mid = g.I.Read.remaining c.loop.input.input.now in
    let old = g.O.Write.contents c.args.console.now.out.now.out.now in
    let now = g.O.Write.contents c.loop.console.out.now.out.now in
    let new = g.O.Write.contents c.filter.new.console.out.now.out.now in
    let then : IsBegun rows adds mid now new = subst (λ r. IsBegun r adds mid now new) c.loop.invariant.rows c.in_err-is_end.ensures.begun in
    on_any_err c.from_residual.result (begun_then rows adds input mid old now new c.args.passage.now.counts c.loop.passage.counts c.loop.invariant.way then)

pub returns-then-is_end-clause-whole : goal.returns-then-is_end-clause-whole
returns-then-is_end-clause-whole g c =
    let rows = c.args.passage.now.rows in
    let adds = g.A.Additions.adds c.args.additions.now in
    let input = g.I.Read.remaining c.args.input.now.input.now in
    let mid = g.I.Read.remaining c.loop.input.input.now in
    let left = g.I.Read.remaining c.filter.new.input.input.now in
    let old = g.O.Write.contents c.args.console.now.out.now.out.now in
    let now = g.O.Write.contents c.loop.console.out.now.out.now in
    let new = g.O.Write.contents c.filter.new.console.out.now.out.now in
    let after = c.filter.new.passage.counts in
    let then : IsFiltered rows adds mid left now new c.loop.passage.counts after = subst (λ r. IsFiltered r adds mid left now new c.loop.passage.counts after) c.loop.invariant.rows c.in_ok-is_end.ensures.whole in
    filtered_then rows adds input mid left old now new c.args.passage.now.counts c.loop.passage.counts after c.loop.invariant.way then

pub returns-then-is_end-clause-end : goal.returns-then-is_end-clause-end
returns-then-is_end-clause-end g c = λ is_end.
    end_then c.args.passage.now.rows (g.A.Additions.adds c.args.additions.now) (g.I.Read.remaining c.args.input.now.input.now) (g.I.Read.remaining c.loop.input.input.now) (g.I.Read.remaining c.filter.new.input.input.now)
    (g.O.Write.contents c.args.console.now.out.now.out.now) (g.O.Write.contents c.loop.console.out.now.out.now) c.args.passage.now.counts c.loop.passage.counts c.loop.invariant.way (c.in_ok-is_end.ensures.end is_end)

pub loop-preserved : goal.loop-preserved
loop-preserved g c =
    let rows = c.args.passage.now.rows in
    let adds = g.A.Additions.adds c.args.additions.now in
    let input = g.I.Read.remaining c.args.input.now.input.now in
    let mid = g.I.Read.remaining c.loop.input.input.now in
    let left = g.I.Read.remaining c.filter.new.input.input.now in
    let old = g.O.Write.contents c.args.console.now.out.now.out.now in
    let now = g.O.Write.contents c.loop.console.out.now.out.now in
    let new = g.O.Write.contents c.filter.new.console.out.now.out.now in
    let after = c.filter.new.passage.counts in
    let then : IsFiltered rows adds mid left now new c.loop.passage.counts after = subst (λ r. IsFiltered r adds mid left now new c.loop.passage.counts after) c.loop.invariant.rows c.in_ok-is_end.ensures.whole in
    let way = filtered_then rows adds input mid left old now new c.args.passage.now.counts c.loop.passage.counts after c.loop.invariant.way then in
    record {
      way = subst (λ n. IsFiltered rows adds input left old (g.O.Write.contents c.check_rows.new.console.out.now.out.now) c.args.passage.now.counts n) (sym c.check_rows.ensures.counts)
          (subst (λ o. IsFiltered rows adds input left old (g.O.Write.contents o.out.now) c.args.passage.now.counts after) (sym c.check_rows.ensures.output) way);
      rows = c.check_rows.ensures.rows ∙ c.in_ok-is_end.ensures.rows ∙ c.loop.invariant.rows;
      reloads = c.check_rows.ensures.reloads ∙ c.in_ok-is_end.ensures.reloads ∙ c.loop.invariant.reloads;
      fits = c.in_ok-is_end.ensures.fits;
    }

pub returns-clause-begun : goal.returns-clause-begun
returns-clause-begun g c =
    begun_by c.args.passage.now.rows (g.A.Additions.adds c.args.additions.now) (g.I.Read.remaining c.args.input.now.input.now) (g.I.Read.remaining c.loop.input.input.now)
    (g.O.Write.contents c.args.console.now.out.now.out.now) (g.O.Write.contents c.loop.console.out.now.out.now) c.args.passage.now.counts c.loop.passage.counts c.loop.invariant.way
