use Rattle.std.proofs.Common.{◌-◌, arith}
use Rattle.std.specs.Net.Addr.{ipv6_bits}
use Rattle.mmdb_net.specs.Network.{ipv6_ip_of, ipv6_prefix_of}
use Rattle.mmdb_net.proofs.AddressLaws.{same_first_bits-test}
use Rattle.mmdb_net.proofs.network.Ipv6Network.contains.Goals as goal

pub returns : goal.returns
returns c =
    let prefix = ipv6_prefix_of c.args.self.now in
    let first = c.ipv6_first_bits.ensures in
    let second = c.ipv6_first_bits-2.ensures in
    same_first_bits-test prefix (128 - prefix) 128 (ipv6_bits (ipv6_ip_of c.args.self.now)) (ipv6_bits c.args.addr) _ _ (omega arith) first.fits second.fits first.value second.value
