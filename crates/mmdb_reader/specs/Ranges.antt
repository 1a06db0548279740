-- The bits of a range in a database ("IPv4 addresses in an IPv6 tree" of the MaxMind DB File Format
-- Specification 2.0).
use Rattle.std.specs.Prelude.{ℕ, ◌+◌, ◌-◌}
use Rattle.mmdb_net.specs.Address.{address_width}
use Rattle.mmdb_net.specs.Network.{ip_of, prefix_of}
use Rattle.mmdb_net.specs.declared.network.IpNetwork.{IpNetwork}

-- how many positions a list over a network reserves: one more than the bits after its prefix
abbrev pub positions_for : IpNetwork → ℕ
positions_for network = address_width (ip_of network) - prefix_of network + 1
