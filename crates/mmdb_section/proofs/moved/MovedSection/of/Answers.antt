use Rattle.mmdb_section.proofs.MovedLemmas.{none_moved, all_moved}
use Rattle.mmdb_section.proofs.moved.MovedSection.of.Goals as goal

pub loop-init : goal.loop-init
loop-init c = none_moved c.args.section.now _ c.new.ensures.items c.new-2.ensures.items

pub returns : goal.returns
returns c = all_moved c.args.section.now c.loop.at c.loop.now c.loop.invariant
