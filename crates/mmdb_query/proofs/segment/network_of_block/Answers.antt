use Rattle.std.proofs.Common.{sym, subst}
use Rattle.mmdb_net.specs.Address.{IsMaskedIp}
use Rattle.mmdb_net.specs.Network.{ip_of}
use Rattle.mmdb_query.proofs.NetworkLaws.{masked_of}
use Rattle.mmdb_query.proofs.segment.network_of_block.Goals as goal

pub returns-clause-masked : goal.returns-clause-masked
returns-clause-masked c =
    let n = c.numbers_of in
    let made = c.network_of in
    let ip = ip_of made.result in
    subst (λ p. IsMaskedIp ip p ip) (sym made.ensures.prefix)
    (masked_of ip n.result.width n.result.prefix n.result.first made.ensures.width made.ensures.bits n.ensures.zeros n.ensures.within)
