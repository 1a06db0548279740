use Rattle.std.proofs.Common.{take, arith}
use Rattle.std.proofs.lemmas.Grind.{common_steps}
use Rattle.mmdb_blocks.specs.Lists.{listing_of}
use Rattle.mmdb_cmd_export.proofs.ListedLaws.{was-ok, pushed-more}
use Rattle.mmdb_cmd_export.proofs.adjusted.push_blocks.Goals as goal

pub loop-block-preserved : goal.loop-block-preserved
loop-block-preserved g c =
    pushed-more c.args.kind (take c.loop-block.block-index c.args.blocks.now) _ _ (listing_of c.args.list.now) (listing_of c.loop-block.list) (listing_of c.push.new.self) _ _ _
    (grind (arith, common_steps)) c.loop-block.invariant (was-ok _ c.push.result _ c.in_ok-of_list.ensures c.push.ensures.pushed)
