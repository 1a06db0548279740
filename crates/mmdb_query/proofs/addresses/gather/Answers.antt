use Rattle.mmdb_query.proofs.SetLaws.{gathered}
use Rattle.mmdb_query.proofs.addresses.gather.Goals as goal

pub returns : goal.returns
returns g c =
    let s = g.W.Walk.sections c.args.walk.now in
    let made = c.new-addresses in
    gathered (g.W.Walk.comes c.args.walk.now) (g.C.Conditions.says c.args.conditions.now s) (g.C.Conditions.is_unread c.args.conditions.now s) s
    made.result c.put_each.new.sink _ _ c.in_ok-unread.unread made.ensures.ipv4 made.ensures.ipv6 c.in_ok-unread.ensures.taken
