use Rattle.std.proofs.Common.{arith}
use Rattle.mmdb_query.proofs.SegmentLaws.{short_block, long_block}
use Rattle.mmdb_query.proofs.segment.numbers_of.Goals as goal

pub returns-then-is_of_ipv4-clause-bits : goal.returns-then-is_of_ipv4-clause-bits
returns-then-is_of_ipv4-clause-bits c =
    let is = c.is_of_ipv4.ensures.0 c.if-is_of_ipv4.true in
    short_block c.args.block.first c.from-prefix.result c.args.block.prefix c.from-prefix.ensures (omega (arith, is.1, c.from-prefix.ensures)) is.2

pub returns-else-is_of_ipv4-clause-bits : goal.returns-else-is_of_ipv4-clause-bits
returns-else-is_of_ipv4-clause-bits c = long_block c.args.block.first c.from-prefix.result c.args.block.prefix c.from-prefix.ensures
