use Rattle.std.proofs.Common.{◌↔◌, take, subst, arith}
use Rattle.std.proofs.lemmas.Grind.{common_steps}
use Rattle.mmdb_blocks.specs.Blocks.{IsIn}
use Rattle.mmdb_blocks.specs.Ranges.{IsAmong}
use Rattle.mmdb_cmd_export.proofs.GatheredLaws.{none_in, one_more}
use Rattle.mmdb_cmd_export.proofs.gathering.ranges_of_blocks.Goals as goal

pub loop-block-init : goal.loop-block-init
loop-block-init c = λ address. none_in c.new-ranges.result address c.new-ranges.ensures

pub loop-block-preserved : goal.loop-block-preserved
loop-block-preserved c = λ address. one_more _ _ (take c.loop-block.block-index c.args.blocks.now) _ _ address (grind (arith, common_steps)) (c.in_ok-add_block.ensures.1 address) (c.loop-block.invariant address)

pub returns : goal.returns
returns c = λ address. subst (λ blocks. IsAmong address c.loop-block.ranges ↔ IsIn address blocks) (grind (arith, common_steps)) (c.loop-block.invariant address)
