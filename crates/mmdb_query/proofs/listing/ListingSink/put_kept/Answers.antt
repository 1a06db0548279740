use Rattle.mmdb_blocks.specs.Lists.{listing_of}
use Rattle.mmdb_query.specs.Ends.{Leaves}
use Rattle.mmdb_query.specs.Listings.{PutsBits, LeavesBits}
use Rattle.mmdb_query.specs.Taking.{IsDoneOrNot}
use Rattle.mmdb_query.proofs.ListingLaws.{ok_of_had, err_of_had}
use Rattle.mmdb_query.proofs.listing.ListingSink.put_kept.Goals as goal

pub returns-clause-done : goal.returns-clause-done
returns-clause-done g c =
    let old = listing_of c.args.self.now.list in
    let new = listing_of c.take_network.new.self.list in
    let before = g.O.Write.contents c.args.out.now in
    let after = g.O.Write.contents c.take_network.new.out in
    let had = g.A.Answer.had c.args.answer.now in
    ok_of_had c.take_network.result (λ k bits done. IsDoneOrNot (PutsBits k bits) done old new before after) c.block.result.block c.block.result.is_ipv4 had.as_ipv4 had.bits c.block.ensures.kind c.block.ensures.block c.take_network.ensures.taken

pub returns-clause-failed : goal.returns-clause-failed
returns-clause-failed g c =
    let old = listing_of c.args.self.now.list in
    let before = g.O.Write.contents c.args.out.now in
    let after = g.O.Write.contents c.take_network.new.out in
    let had = g.A.Answer.had c.args.answer.now in
    err_of_had c.take_network.result (λ k bits e. Leaves (LeavesBits k bits old) before after e) c.block.result.block c.block.result.is_ipv4 had.as_ipv4 had.bits c.block.ensures.kind c.block.ensures.block c.take_network.ensures.failed
