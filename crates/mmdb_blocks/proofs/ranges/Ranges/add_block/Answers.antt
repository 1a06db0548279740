use Rattle.std.proofs.Common.{refl}
use Rattle.mmdb_blocks.proofs.RangeLaws.{both-ways, either-right}
use Rattle.mmdb_blocks.proofs.ListedLaws.{block-range}
use Rattle.mmdb_blocks.proofs.ranges.Ranges.add_block.Goals as goal

pub returns : goal.returns
returns c = (c.if-not-is_block.ensures.0 refl, λ a. both-ways (c.in_ok-add.ensures a) (either-right (block-range a c.args.block c.last.result c.last.ensures)))
