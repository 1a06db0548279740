use Rattle.std.proofs.Common.{arith}
use Rattle.std.proofs.lemmas.Grind.{common_steps}
use Rattle.test_forms.proofs.rows.scratch_of.Goals as goal

pub loop-section-init : goal.loop-section-init
loop-section-init c = record {
  texts = grind (arith, common_steps);
  fits = c.in_ok-scratch.ensures.fits c.in_ok-scratch.scratch.texts.items;
}

pub loop-section-preserved : goal.loop-section-preserved
loop-section-preserved c = record {
  texts = grind (arith, common_steps);
  fits = c.in_ok-add_section.ensures.fits c.args.columns.now c.loop-section.scratch.texts.items c.loop-section.invariant.fits;
}
