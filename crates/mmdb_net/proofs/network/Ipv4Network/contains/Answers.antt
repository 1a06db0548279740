use Rattle.std.proofs.Common.{◌-◌, arith}
use Rattle.std.specs.Net.Addr.{ipv4_bits}
use Rattle.mmdb_net.specs.Network.{ipv4_ip_of, ipv4_prefix_of}
use Rattle.mmdb_net.proofs.AddressLaws.{same_first_bits-test}
use Rattle.mmdb_net.proofs.network.Ipv4Network.contains.Goals as goal

pub returns : goal.returns
returns c =
    let prefix = ipv4_prefix_of c.args.self.now in
    let first = c.ipv4_first_bits.ensures in
    let second = c.ipv4_first_bits-2.ensures in
    same_first_bits-test prefix (32 - prefix) 32 (ipv4_bits (ipv4_ip_of c.args.self.now)) (ipv4_bits c.args.addr) _ _ (omega arith) first.fits second.fits first.value second.value
