use Rattle.std.proofs.Common.{sym, subst, ◌∙◌}
use Rattle.mmdb_query_forms.specs.Fitting.{ScratchFits}
use Rattle.test_forms.proofs.rows.rows_of.Goals as goal

pub export_rows-requires : goal.export_rows-requires
export_rows-requires g c =
    c.in_ok-rows.ensures.fits (g.W.Walk.sections c.args.walk.now)
    (subst (λ s. ScratchFits c.in_ok-columns.columns s c.in_ok-scratch.scratch) (c.in_ok-scratch.ensures.texts ∙ sym c.requires) c.in_ok-scratch.ensures.fits)
