use Rattle.std.proofs.Common.{◌≡◌, ◌+◌, ◌*◌, ◌^◌, arith, ◌∙◌}
use Rattle.mmdb_c.proofs.OpenedLemmas.{Reports-v6}
use Rattle.mmdb_c.proofs.db.mmdb_c_lookup_v6.Goals as goal

pub returns-clause-answered : goal.returns-clause-answered
returns-clause-answered c = λ a db same h six.
    let whole : c.args.high * 2 ^ 64 + c.args.low ≡ c.from.result * 2 ^ 64 + c.from-2.result = let a = c.from.ensures in let b = c.from-2.ensures in omega (arith, a, b) in
    let is = c.args.db.now.is_of db h in
    Reports-v6 c.args.db.now.file.now c.args.db.now.facts db h is c.found.result c.found.ensures.status a (c.from.result * 2 ^ 64 + c.from-2.result) c.leaf_ipv6-leaf.result.taken c.leaf_ipv6-leaf.result.number (same ∙ whole) six c.leaf_ipv6-leaf.ensures.reached (c.found.ensures.outcome db is) c.found.ensures.netmask
