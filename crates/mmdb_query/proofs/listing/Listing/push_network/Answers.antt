use Rattle.mmdb_blocks.specs.Lists.{listing_of}
use Rattle.mmdb_query.proofs.ListingLaws.{all_pushed, all_broken}
use Rattle.mmdb_query.proofs.listing.Listing.push_network.Goals as goal

pub returns-clause-pushed : goal.returns-clause-pushed
returns-clause-pushed g c =
    let old = listing_of c.args.self.now.list in
    let before = g.O.Write.contents c.args.out.now in
    let after = g.O.Write.contents c.push_all.new.out in
    all_pushed c.args.at.is_ipv4 c.args.at.block c.push_all.result old (listing_of c.push_all.new.list) before after c.push_all.ensures.pushed

pub returns-clause-failed : goal.returns-clause-failed
returns-clause-failed g c =
    let old = listing_of c.args.self.now.list in
    let before = g.O.Write.contents c.args.out.now in
    let after = g.O.Write.contents c.push_all.new.out in
    all_broken c.args.at.is_ipv4 c.args.at.block c.push_all.result old before after c.push_all.ensures.failed
