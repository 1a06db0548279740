use Rattle.mmdb_query.proofs.ListLaws.{both_kinds}
use Rattle.mmdb_query.proofs.address_blocks.blocks.Goals as goal

pub returns-clause-exact : goal.returns-clause-exact
returns-clause-exact c = both_kinds (record { ipv4 = c.in_ok-ipv4.ipv4; ipv6 = c.in_ok-ipv6.ipv6 }) c.args.chosen.now c.args.also.now c.args.except.now
    (λ a. rw (c.ipv4.ensures, c.ipv4-2.ensures, c.ipv4-3.ensures) at (c.in_ok-ipv4.ensures.exact a))
    (λ a. rw (c.ipv6.ensures, c.ipv6-2.ensures, c.ipv6-3.ensures) at (c.in_ok-ipv6.ensures.exact a))
