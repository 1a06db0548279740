use Rattle.mmdb_blocks.specs.Lists.{listing_of}
use Rattle.mmdb_query.proofs.ListingLaws.{all_taken, all_broken, one_broken_of}
use Rattle.mmdb_query.proofs.listing.Listing.take_network.Goals as goal

pub returns-clause-taken : goal.returns-clause-taken
returns-clause-taken g c =
    let old = listing_of c.args.self.now.list in
    let before = g.O.Write.contents c.args.out.now in
    let after = g.O.Write.contents c.take.new.out in
    all_taken c.args.at.is_ipv4 c.kind_as.result c.args.at.block c.take.result old (listing_of c.take.new.list) before after c.if-has_ipv4_part.ensures c.kind_as.ensures c.take.ensures.taken

pub returns-clause-failed : goal.returns-clause-failed
returns-clause-failed g c =
    let old = listing_of c.args.self.now.list in
    let before = g.O.Write.contents c.args.out.now in
    let after = g.O.Write.contents c.take.new.out in
    all_broken c.args.at.is_ipv4 c.args.at.block c.take.result old before after
    (one_broken_of c.args.at.is_ipv4 c.kind_as.result c.args.at.block c.take.result old before after c.if-has_ipv4_part.ensures c.kind_as.ensures c.take.ensures.failed)
