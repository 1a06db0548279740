use Rattle.mmdb_blocks.specs.Lists.{listing_of}
use Rattle.mmdb_query.proofs.ListingLaws.{both_pushed_of, both_broken_of, one_pushed_of, one_broken_of}
use Rattle.mmdb_query.proofs.listing.push_all.Goals as goal

pub returns-then-has_ipv4_part-clause-pushed : goal.returns-then-has_ipv4_part-clause-pushed
returns-then-has_ipv4_part-clause-pushed g c =
    both_pushed_of c.args.is_ipv4 c.args.block c.push_both.result (listing_of c.args.list.now) (listing_of c.push_both.new.list) _ _ c.if-has_ipv4_part.ensures c.push_both.ensures.pushed

pub returns-then-has_ipv4_part-clause-failed : goal.returns-then-has_ipv4_part-clause-failed
returns-then-has_ipv4_part-clause-failed g c =
    both_broken_of c.args.is_ipv4 c.args.block c.push_both.result (listing_of c.args.list.now) _ _ c.if-has_ipv4_part.ensures c.push_both.ensures.failed

pub returns-else-has_ipv4_part-clause-pushed : goal.returns-else-has_ipv4_part-clause-pushed
returns-else-has_ipv4_part-clause-pushed g c =
    one_pushed_of c.args.is_ipv4 c.kind_as.result c.args.block c.push.result (listing_of c.args.list.now) (listing_of c.push.new.list) _ _ c.if-has_ipv4_part.ensures c.kind_as.ensures c.push.ensures.pushed

pub returns-else-has_ipv4_part-clause-failed : goal.returns-else-has_ipv4_part-clause-failed
returns-else-has_ipv4_part-clause-failed g c =
    one_broken_of c.args.is_ipv4 c.kind_as.result c.args.block c.push.result (listing_of c.args.list.now) _ _ c.if-has_ipv4_part.ensures c.kind_as.ensures c.push.ensures.failed
