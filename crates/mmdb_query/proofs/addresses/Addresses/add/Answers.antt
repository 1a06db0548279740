use Rattle.std.proofs.Common.{ap}
use Rattle.std.proofs.lemmas.Result.{on_ok_weaker}
use Rattle.std.specs.Net.Addr.{is_ipv4}
use Rattle.mmdb_net.specs.Network.{ip_of}
use Rattle.mmdb_net.specs.declared.network.IpNetwork.{IpNetwork}
use Rattle.mmdb_query.proofs.SetLaws.{v4_added, v6_added}
use Rattle.mmdb_query.proofs.addresses.Addresses.add.Goals as goal

pub returns-in-V4 : goal.returns-in-V4
returns-in-V4 c = on_ok_weaker c.add.result (λ adds. v4_added c.args.network c.args.self.now.ipv4 c.add.new.ranges c.args.self.now.ipv6 (ap (λ (n : IpNetwork). is_ipv4 (ip_of n)) c.in-V4.is) adds) c.add.ensures

pub returns-in-V6 : goal.returns-in-V6
returns-in-V6 c = on_ok_weaker c.add-in-V6.result (λ adds. v6_added c.args.network c.args.self.now.ipv6 c.add-in-V6.new.ranges c.args.self.now.ipv4 (ap (λ (n : IpNetwork). is_ipv4 (ip_of n)) c.in-V6.is) adds) c.add-in-V6.ensures
