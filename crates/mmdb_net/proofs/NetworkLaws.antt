-- Networks and their blocks.
use Rattle.std.proofs.Common.{◌≡◌, ◌≤◌, length, arith}
use Rattle.std.proofs.lemmas.List.{length-take-le}
use Rattle.mmdb_net.specs.declared.network.IpNetwork.{IpNetwork}
use Rattle.mmdb_net.specs.declared.network.IpNetwork.TheVariants.{V4, V6}
use Rattle.mmdb_net.specs.Address.{address_width, bits_of_address}
use Rattle.mmdb_net.specs.Network.{ip_of, prefix_of, block_of}
use Rattle.mmdb_net.proofs.AddressLaws.{length-bits_of_address}

-- the prefix is within the address
pub prefix_of-le : (n : IpNetwork) → prefix_of n ≤ address_width (ip_of n)
prefix_of-le (V4 n) = n.is_prefix
prefix_of-le (V6 n) = n.is_prefix

-- so the block has as many bits as the prefix says
pub length-block_of : (n : IpNetwork) → length (block_of n) ≡ prefix_of n
length-block_of n = length-take-le (prefix_of n) (bits_of_address (ip_of n)) (omega (arith, prefix_of-le n, length-bits_of_address (ip_of n)))
