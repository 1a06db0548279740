use Rattle.mmdb_query.specs.Ends.{leaves_none}
use Rattle.mmdb_query.specs.Rows.{nothing}
use Rattle.mmdb_query.specs.Sets.{puts_addresses, needs_nothing}
use Rattle.mmdb_query.specs.Taking.{asks}
use Rattle.mmdb_query.proofs.PartLaws.{gathered_of_all}
use Rattle.mmdb_query.proofs.addresses.gather_part.Goals as goal

pub returns-in-Both-None : goal.returns-in-Both-None
returns-in-Both-None g c =
    let a = asks g.C.Conditions.says g.C.Conditions.is_unread puts_addresses needs_nothing leaves_none c.args.conditions.now nothing (g.W.Walk.sections c.args.walk) in
    gathered_of_all c.args.kinds c.args.range (g.W.Walk.comes c.args.walk) a c.gather.result c.in-Both-None.is-0 c.in-Both-None.is-1 c.gather.ensures
