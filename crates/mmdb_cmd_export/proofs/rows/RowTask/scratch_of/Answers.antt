use Rattle.std.proofs.Common.{arith}
use Rattle.std.proofs.lemmas.Grind.{common_steps}
use Rattle.mmdb_cmd_export.proofs.rows.RowTask.scratch_of.Goals as goal

pub loop-asked-init : goal.loop-asked-init
loop-asked-init c = record {
  texts = grind (arith, common_steps);
  fits = c.in_ok-scratch.ensures.fits c.in_ok-scratch.scratch.texts.items;
}

pub loop-asked-preserved : goal.loop-asked-preserved
loop-asked-preserved c = record {
  texts = grind (arith, common_steps);
  fits = c.in_ok-add_section.ensures.fits c.args.self.now.columns.now c.loop-asked.scratch.texts.items c.loop-asked.invariant.fits;
}
