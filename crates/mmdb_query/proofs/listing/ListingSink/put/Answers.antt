use Rattle.std.proofs.Common.{subst}
use Rattle.mmdb_blocks.specs.Lists.{listing_of, Prints}
use Rattle.mmdb_query.specs.Ends.{Leaves}
use Rattle.mmdb_query.specs.Listings.{PutsBits, LeavesBits}
use Rattle.mmdb_query.proofs.listing.ListingSink.put.Goals as goal

pub returns-in-Ok-clause-done : goal.returns-in-Ok-clause-done
returns-in-Ok-clause-done g c =
    let old = listing_of c.args.self.now.list in
    let new = listing_of c.push_network.new.self.list in
    let before = g.O.Write.contents c.args.out.now in
    let after = g.O.Write.contents c.push_network.new.out in
    let bits = (g.A.Answer.had c.args.answer.now).bits in
    subst (λ k. Prints (λ text. PutsBits k bits old text new) before after) c.block.ensures.kind (c.in-Ok.ensures.pushed bits c.block.ensures.block)

pub returns-in-Err-clause-failed : goal.returns-in-Err-clause-failed
returns-in-Err-clause-failed g c =
    let old = listing_of c.args.self.now.list in
    let before = g.O.Write.contents c.args.out.now in
    let after = g.O.Write.contents c.push_network.new.out in
    let bits = (g.A.Answer.had c.args.answer.now).bits in
    subst (λ k. Leaves (LeavesBits k bits old) before after c.in-Err.error) c.block.ensures.kind (c.in-Err.ensures.failed bits c.block.ensures.block)
