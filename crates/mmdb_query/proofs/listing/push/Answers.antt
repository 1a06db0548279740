use Rattle.std.proofs.Common.{sym, subst}
use Rattle.mmdb_blocks.specs.Lists.{listing_of}
use Rattle.mmdb_query.specs.Ends.{Leaves}
use Rattle.mmdb_query.specs.Listings.{LeavesOne}
use Rattle.mmdb_query.proofs.ListingLaws.{was_pushed, push_broken}
use Rattle.mmdb_query.proofs.listing.push.Goals as goal

pub returns-in-Ok-clause-pushed : goal.returns-in-Ok-clause-pushed
returns-in-Ok-clause-pushed g c = was_pushed c.args.kind c.args.block (listing_of c.args.list.now) (listing_of c.push.new.self) _ _ c.in-Ok.ensures.pushed

pub returns-in-Err-clause-failed : goal.returns-in-Err-clause-failed
returns-in-Err-clause-failed g c =
    let old = listing_of c.args.list.now in
    let before = g.O.Write.contents c.args.out.now in
    let after = g.O.Write.contents c.push.new.out in
    subst (λ e. Leaves (LeavesOne (c.args.kind, c.args.block) old) before after e) (sym c.of_list.ensures) (push_broken c.args.kind c.args.block old before after c.in-Err.error c.in-Err.ensures.failed)
