use Rattle.std.proofs.Common.{◌+◌, ap, ◌∙◌}
use Rattle.mmdb_c.proofs.OpenedLemmas.{Reports-v4, Reports-none}
use Rattle.mmdb_c.proofs.db.mmdb_c_lookup_v4.Goals as goal

pub returns-then-db : goal.returns-then-db
returns-then-db c = λ a db same h.
    let is = c.args.db.now.is_of db h in
    Reports-none c.args.db.now.file.now c.args.db.now.facts db h is c.found.result c.found.ensures.status a c.if-db.true (c.found.ensures.outcome db is) (c.found.ensures.netmask ∙ c.from.ensures)

pub returns : goal.returns
returns c = λ a db same h.
    let is = c.args.db.now.is_of db h in
    Reports-v4 c.args.db.now.file.now c.args.db.now.facts db h is c.found-2.result c.found-2.ensures.status a c.args.bits c.leaf_ipv4-leaf.result.taken c.leaf_ipv4-leaf.result.number same c.if-db.false c.leaf_ipv4-leaf.ensures.reached (c.found-2.ensures.outcome db is) (c.found-2.ensures.netmask ∙ ap (λ n. n + c.leaf_ipv4-leaf.result.taken) c.before_ipv4.ensures.value)
