use Rattle.std.proofs.Common.{◌≡◌, sym, subst}
use Rattle.mmdb_blocks.specs.Lists.{listing_of, settled_text}
use Rattle.mmdb_query.specs.Ends.{Leaves}
use Rattle.mmdb_query.specs.Listings.{Begins}
use Rattle.mmdb_query.specs.declared.error.QueryError.TheVariants.{Memory}
use Rattle.mmdb_query.proofs.ListingLaws.{settled_fails}
use Rattle.mmdb_query.proofs.listing.write_settled.Goals as goal

pub returns-in-Err-clause-failed : goal.returns-in-Err-clause-failed
returns-in-Err-clause-failed g c =
    let text = settled_text (listing_of c.args.list.now) in
    let before = g.O.Write.contents c.args.out.now in
    let after = g.O.Write.contents c.write_settled.new.out in
    subst (λ e. Leaves (λ part e. (e ≡ Memory) × Begins part text) before after e) (sym c.of_list.ensures) (settled_fails text before after c.in-Err.error c.in-Err.ensures.failed)
