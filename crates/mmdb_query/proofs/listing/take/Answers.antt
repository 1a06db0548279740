use Rattle.mmdb_blocks.specs.Lists.{listing_of}
use Rattle.mmdb_query.proofs.ListingLaws.{whole_taken, settled_taken, settled_broken}
use Rattle.mmdb_query.proofs.listing.take.Goals as goal

pub returns-in-Whole-clause-taken : goal.returns-in-Whole-clause-taken
returns-in-Whole-clause-taken g c = whole_taken c.taken_is_pushed.ensures c.args.kind c.args.block (listing_of c.args.list.now) (listing_of c.take.new.self) _ c.in-Whole.ensures

pub returns-in-Settled-clause-taken : goal.returns-in-Settled-clause-taken
returns-in-Settled-clause-taken g c =
    settled_taken c.taken_is_pushed.ensures c.args.kind c.args.block (listing_of c.args.list.now) (listing_of c.take.new.self) (listing_of c.write_settled.new.list) c.write_settled.result _ _ c.in-Settled.ensures.0 c.write_settled.ensures.written

pub returns-in-Settled-clause-failed : goal.returns-in-Settled-clause-failed
returns-in-Settled-clause-failed g c =
    settled_broken c.taken_is_pushed.ensures c.args.kind c.args.block (listing_of c.args.list.now) (listing_of c.take.new.self) c.write_settled.result _ _ c.in-Settled.ensures.0 c.write_settled.ensures.failed
