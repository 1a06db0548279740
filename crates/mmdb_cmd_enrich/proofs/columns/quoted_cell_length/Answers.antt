use Rattle.std.proofs.Common.{◌≡◌, ◌+◌, drop, get_or, false, sym, ap, ◌∙◌, subst, arith, ◌==◌, ne_eqb}
use Rattle.std.proofs.lemmas.List.{get_or-drop, drop_all}
use Rattle.mmdb_filter.specs.declared.rows.RowPosition.TheVariants.{Quoted}
use Rattle.mmdb_filter.specs.declared.rows.Rows.TheVariants.{Csv}
use Rattle.mmdb_cmd_enrich.proofs.CellRunLaws.{opened, closed, bare_length}
use Rattle.mmdb_cmd_enrich.proofs.ColumnLaws.{cell_ends}
use Rattle.mmdb_cmd_enrich.proofs.columns.quoted_cell_length.Goals.{then-loop-at-test+then-text-at-eq34+else-delimiter-ne34, then-loop-at-test+else-text-at-eq34, else-loop-at-test}
use Rattle.mmdb_cmd_enrich.proofs.columns.quoted_cell_length.Goals as goal

pub returns-then-quote-text-clause-length : goal.returns-then-quote-text-clause-length
returns-then-quote-text-clause-length c =
    let d = c.args.delimiter in
    let text = c.args.text.now in
    let quote = c.here_or_from-quote.result in
    let other : (34 == d) ≡ false = ne_eqb 34 d (λ e. c.if-delimiter-ne34.true (sym e)) in
    let inside = opened d c.loop-at.at quote text c.loop-at-test.true c.if-text-at-eq34.true other c.here_or_from-quote.ensures.bound c.here_or_from-quote.ensures.value in
    omega (arith, c.loop-at.invariant.rest, inside, cell_ends (Csv d) Quoted text quote c.if-quote-text.true)

pub loop-at-preserved : goal.loop-at-preserved
loop-at-preserved c =
    let d = c.args.delimiter in
    let text = c.args.text.now in
    let quote = c.here_or_from-quote.result in
    let other : (34 == d) ≡ false = ne_eqb 34 d (λ e. c.if-delimiter-ne34.true (sym e)) in
    let inside = opened d c.loop-at.at quote text c.loop-at-test.true c.if-text-at-eq34.true other c.here_or_from-quote.ensures.bound c.here_or_from-quote.ensures.value in
    let behind = closed d (c.loop-at.at + 1) quote text (omega arith) c.here_or_from-quote.ensures.value in
    record {
      rest = omega (arith, c.loop-at.invariant.rest, inside, behind);
      within = omega arith;
    }

pub returns-clause-length : goal.returns-clause-length
returns-clause-length c =
    let d = c.args.delimiter in
    let text = c.args.text.now in
    let at = c.loop-at.at in
    let x = get_or (drop at text) 0 0 in
    let here : at + 0 ≡ at = omega arith in
    let same : x ≡ get_or text at 0 = get_or-drop at text 0 0 ∙ ap (λ k. get_or text k 0) here in
    let bare : (x == d) ≡ false → (x == 34) ≡ false =
    elim c.loop-at-test.branch [
      | then-loop-at-test+then-text-at-eq34+else-delimiter-ne34 w ↦ λ e. subst (λ k. (x == k) ≡ false) w.if-delimiter-ne34.false e
      | then-loop-at-test+else-text-at-eq34 w ↦ λ e. ne_eqb x 34 (λ is. w.if-text-at-eq34.false (sym same ∙ is))
      | else-loop-at-test w ↦ λ e. ap (λ xs. get_or xs 0 0 == 34) (drop_all at text w.loop-at-test.false)
    ] in
    omega (arith, c.loop-at.invariant.rest, c.here_or_from.ensures.value, bare_length d (drop at text) bare)
