use Rattle.std.proofs.Common.{[], ◌∷◌, OnOk, IfErr, subst}
use Rattle.mmdb_blocks.specs.Lists.{listing_of, Prints}
use Rattle.mmdb_blocks.specs.declared.kind.BlockKind.TheVariants.{Ipv4, Ipv6}
use Rattle.mmdb_query.specs.Ends.{Leaves}
use Rattle.mmdb_query.specs.Listings.{PutsAll, LeavesAll}
use Rattle.mmdb_query.proofs.ListingLaws.{both_pushed, first_left, second_broken}
use Rattle.mmdb_query.proofs.listing.push_both.Goals as goal

pub returns-in-Ok-clause-pushed : goal.returns-in-Ok-clause-pushed
returns-in-Ok-clause-pushed g c =
    let old = listing_of c.args.list.now in
    let mid = listing_of c.push.new.list in
    let new = listing_of c.push-in-Ok.new.list in
    let before = g.O.Write.contents c.args.out.now in
    let at = g.O.Write.contents c.push.new.out in
    let after = g.O.Write.contents c.push-in-Ok.new.out in
    let r = c.push-in-Ok.result in
    subst (λ b. OnOk r (Prints (λ text. PutsAll ((Ipv4, b) ∷ (Ipv6, c.args.block) ∷ []) old text new) before after)) c.ipv4_part.ensures
    (both_pushed (Ipv4, c.ipv4_part.result) (Ipv6, c.args.block) r old mid new before at after c.in-Ok.ensures.pushed c.push-in-Ok.ensures.pushed)

pub returns-in-Ok-clause-failed : goal.returns-in-Ok-clause-failed
returns-in-Ok-clause-failed g c =
    let old = listing_of c.args.list.now in
    let mid = listing_of c.push.new.list in
    let before = g.O.Write.contents c.args.out.now in
    let at = g.O.Write.contents c.push.new.out in
    let after = g.O.Write.contents c.push-in-Ok.new.out in
    let r = c.push-in-Ok.result in
    subst (λ b. IfErr r (Leaves (LeavesAll ((Ipv4, b) ∷ (Ipv6, c.args.block) ∷ []) old) before after)) c.ipv4_part.ensures
    (second_broken (Ipv4, c.ipv4_part.result) (Ipv6, c.args.block) r old mid before at after c.in-Ok.ensures.pushed c.push-in-Ok.ensures.failed)

pub returns-in-Err-clause-failed : goal.returns-in-Err-clause-failed
returns-in-Err-clause-failed g c =
    let old = listing_of c.args.list.now in
    let before = g.O.Write.contents c.args.out.now in
    let after = g.O.Write.contents c.push.new.out in
    subst (λ b. Leaves (LeavesAll ((Ipv4, b) ∷ (Ipv6, c.args.block) ∷ []) old) before after c.in-Err.error) c.ipv4_part.ensures
    (first_left (Ipv4, c.ipv4_part.result) ((Ipv6, c.args.block) ∷ []) c.in-Err.error old before after c.in-Err.ensures.failed)
