use Rattle.std.proofs.Common.{take}
use Rattle.mmdb_blocks.specs.Lists.{listing_of, Prints}
use Rattle.mmdb_cmd_export.specs.Listed.{ArePushed}
use Rattle.mmdb_cmd_export.proofs.adjusted.push_blocks.Given as goal

abbrev pub invariant-loop-block : goal.invariant-loop-block
invariant-loop-block g l = Prints (λ text. ArePushed l.kind (take l.block-index l.blocks) (listing_of l.initial.list) text (listing_of l.list))
    (g.O.Write.contents l.initial.out) (g.O.Write.contents l.out)
