use Rattle.std.proofs.lemmas.Result.{err_from_is_err_and}
use Rattle.std.specs.Net.Grammar.{IsIpv6Text}
use Rattle.std.specs.declared.net.ip_addr.IpAddr.TheVariants as Ip
use Rattle.mmdb_net.specs.Network.{ipv6_ip_of, ipv6_prefix_of}
use Rattle.mmdb_net.specs.NetworkText.{IsIpv6TextOf}
use Rattle.mmdb_net.proofs.TextLaws.{network_text-parts, parsed-mapped, ipv6_text-made}
use Rattle.mmdb_net.proofs.SlashLaws.{slashes_spell_none, parts_of, no_prefix_spells_none, read_within, unparsed-mapped, not_ok, parses-from}
use Rattle.mmdb_net.proofs.network.Ipv6NetworkFromStr.from_str.Goals as goal

pub returns-in_err-address : goal.returns-in_err-address
returns-in_err-address c =
    let p = err_from_is_err_and c.from_residual.result c.from_residual.ensures.1 in
    rw p.1 (λ n spelled. slashes_spell_none c.args.text.now (Ip.V6 (ipv6_ip_of n)) (ipv6_prefix_of n) c.in_err-address.ensures.several spelled)

pub returns-in_err-address-2 : goal.returns-in_err-address-2
returns-in_err-address-2 c =
    let p = err_from_is_err_and c.from_residual-in_err-address-2.result c.from_residual-in_err-address-2.ensures.1 in
    let none = unparsed-mapped IsIpv6Text c.in_ok-address.address.now c.from_str.result c.map_err.result _ _ c.from_str.ensures c.map_err.ensures.cases c.in_err-address-2.was in
    rw p.1 (λ n spelled. none (ipv6_ip_of n) (parts_of c.args.text.now c.in_ok-address.address.now c.in_ok-address.prefix (Ip.V6 (ipv6_ip_of n)) (ipv6_prefix_of n) c.in_ok-address.ensures.parts c.in_ok-address.ensures.first spelled).0)

pub returns-in_err-read_prefix : goal.returns-in_err-read_prefix
returns-in_err-read_prefix c =
    let p = err_from_is_err_and c.from_residual-in_err-read_prefix.result c.from_residual-in_err-read_prefix.ensures.1 in
    rw p.1 (λ n spelled. no_prefix_spells_none c.args.text.now c.in_ok-address.address.now c.in_ok-address.prefix (Ip.V6 (ipv6_ip_of n)) (ipv6_prefix_of n) c.in_ok-address.ensures.parts c.in_ok-address.ensures.first c.in_err-read_prefix.ensures.none n.is_prefix spelled)

pub returns : goal.returns
returns c =
    let address = c.in_ok-address-2.address in
    let prefix = c.in_ok-read_prefix.field-0 in
    let is_address = parsed-mapped IsIpv6Text c.in_ok-address.address.now c.from_str.result c.map_err.result address _ c.from_str.ensures c.map_err.ensures.cases c.in_ok-address-2.was in
    let network = network_text-parts c.args.text.now c.in_ok-address.address.now c.in_ok-address.prefix (Ip.V6 address) prefix c.in_ok-address.ensures.parts is_address c.in_ok-read_prefix.ensures.prefix in
    parses-from IsIpv6TextOf c.args.text.now c.new.result (ipv6_text-made c.new.result c.args.text.now address prefix c.new.ensures.ip c.new.ensures.prefix network)
    (λ e was n spelled. not_ok c.new.result e was (c.new.ensures.ok.1 (read_within c.args.text.now c.in_ok-address.address.now c.in_ok-address.prefix (Ip.V6 (ipv6_ip_of n)) (Ip.V6 address) (ipv6_prefix_of n) prefix c.in_ok-address.ensures.parts c.in_ok-address.ensures.first is_address c.in_ok-read_prefix.ensures.prefix n.is_prefix spelled)))
