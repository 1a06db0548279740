use Rattle.mmdb_query.specs.Listings.{puts_listed, leaves_listed}
use Rattle.mmdb_query.specs.Rows.{nothing}
use Rattle.mmdb_query.specs.Sets.{needs_nothing}
use Rattle.mmdb_query.specs.Taking.{asks}
use Rattle.mmdb_query.proofs.WholeLaws.{taken_of_all, stopped_of_all}
use Rattle.mmdb_query.proofs.listing.list_part.Goals as goal

pub returns-in-Both-None-clause-listed : goal.returns-in-Both-None-clause-listed
returns-in-Both-None-clause-listed g c =
    let part = c.args.part.now in
    let a = asks g.C.Conditions.says g.C.Conditions.is_unread puts_listed needs_nothing leaves_listed c.args.conditions.now nothing (g.W.Walk.sections part.walk) in
    taken_of_all _ g.W.Walk.comes a c.put_each.result part _ _ _ _ c.in-Both-None.is-0 c.in-Both-None.is-1 c.put_each.ensures.taken

pub returns-in-Both-None-clause-failed : goal.returns-in-Both-None-clause-failed
returns-in-Both-None-clause-failed g c =
    let part = c.args.part.now in
    let a = asks g.C.Conditions.says g.C.Conditions.is_unread puts_listed needs_nothing leaves_listed c.args.conditions.now nothing (g.W.Walk.sections part.walk) in
    stopped_of_all _ g.W.Walk.comes a c.put_each.result part _ _ _ c.in-Both-None.is-0 c.in-Both-None.is-1 c.put_each.ensures.failed
