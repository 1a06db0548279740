-- Networks among the addresses of blocks.
use Rattle.std.specs.Prelude.{◌-◌, Bool, List, ◌++◌}
use Rattle.mmdb_net.specs.Bits.{zero_bits}
use Rattle.mmdb_net.specs.Network.{address_width, ip_of, block_of}
use Rattle.mmdb_net.specs.declared.network.IpNetwork.{IpNetwork}

-- The bits that a network's addresses begin with, written with 128 bits: before those of an IPv4 address are 96
-- zeros.
abbrev pub network_bits : IpNetwork → List Bool
network_bits network = zero_bits (128 - address_width (ip_of network)) ++ block_of network
