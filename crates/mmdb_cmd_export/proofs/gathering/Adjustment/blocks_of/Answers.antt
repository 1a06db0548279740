use Rattle.std.proofs.Common.{◌↔◌, sym, subst}
use Rattle.mmdb_blocks.specs.Blocks.{IsIn}
use Rattle.mmdb_blocks.specs.Ranges.{IsListed}
use Rattle.mmdb_cmd_export.specs.Gathered.{IsMapped, IsListedOf}
use Rattle.mmdb_cmd_export.proofs.GatheredLaws.{listed_beside, read_of}
use Rattle.mmdb_cmd_export.proofs.gathering.Adjustment.blocks_of.Goals as goal

pub returns-in_ok-also-in-Ipv4-clause-exact : goal.returns-in_ok-also-in-Ipv4-clause-exact
returns-in_ok-also-in-Ipv4-clause-exact c = read_of c.listed_blocks.result c.listed_blocks.ensures.exact (λ blocks exact address small.
    let chosen = c.args.chosen.now in
    let adjustment = c.args.self.now in
    subst (λ kind. IsIn address blocks.items ↔ IsListedOf kind chosen adjustment address) (sym c.in-Ipv4.is)
    (listed_beside chosen.ipv4 adjustment.also.ipv4 adjustment.except.ipv4 c.in_ok-also-in-Ipv4.also blocks.items address (IsMapped chosen address)
    (c.in_ok-also-in-Ipv4.ensures address small)
    (subst (λ ranges. IsIn address blocks.items ↔ IsListed address ranges c.in_ok-also-in-Ipv4.also adjustment.except.ipv4) c.ipv4.ensures (exact address))))

pub returns-in-Ipv6-clause-exact : goal.returns-in-Ipv6-clause-exact
returns-in-Ipv6-clause-exact c = read_of c.listed_blocks-in-Ipv6.result c.listed_blocks-in-Ipv6.ensures.exact (λ blocks exact address small.
    let chosen = c.args.chosen.now in
    let adjustment = c.args.self.now in
    subst (λ kind. IsIn address blocks.items ↔ IsListedOf kind chosen adjustment address) (sym c.in-Ipv6.is)
    (subst (λ ranges. IsIn address blocks.items ↔ IsListed address ranges adjustment.also.ipv6 adjustment.except.ipv6) c.ipv6.ensures (exact address)))
