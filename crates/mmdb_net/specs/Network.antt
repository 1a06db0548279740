-- What contracts see of a network: its address as given, its prefix, and its block, which is the bits
-- that all addresses of the network begin with.
use Rattle.std.specs.declared.net.ip_addr.IpAddr.TheVariants as Ip
pub use Rattle.mmdb_net.specs.Address.{address_width, bits_of_address, IsSameKind, IsMaskedIp}
use Rattle.std.specs.Prelude.{ℕ, Bool, List, ◌++◌, take}
use Rattle.std.specs.declared.net.ip_addr.IpAddr.{IpAddr}
use Rattle.std.specs.declared.net.ipv4_addr.Ipv4Addr.{Ipv4Addr}
use Rattle.std.specs.declared.net.ipv6_addr.Ipv6Addr.{Ipv6Addr}
use Rattle.std.specs.Net.Text.{ip_text}
use Rattle.mmdb_net.specs.FullText.{prefix_text, ipv4_full_text, ipv6_full_text}
use Rattle.mmdb_net.specs.declared.network.Ipv4Network.{Ipv4Network}
use Rattle.mmdb_net.specs.declared.network.Ipv6Network.{Ipv6Network}
use Rattle.mmdb_net.specs.declared.network.IpNetwork.{IpNetwork}
use Rattle.mmdb_net.specs.declared.network.IpNetwork.TheVariants.{V4, V6}

-- the address of an IPv4 network as it was given, and how many of its bits the network keeps
abbrev pub ipv4_ip_of : Ipv4Network → Ipv4Addr
ipv4_ip_of n = n.address

abbrev pub ipv4_prefix_of : Ipv4Network → ℕ
ipv4_prefix_of n = n.prefix

-- the same of an IPv6 network
abbrev pub ipv6_ip_of : Ipv6Network → Ipv6Addr
ipv6_ip_of n = n.address

abbrev pub ipv6_prefix_of : Ipv6Network → ℕ
ipv6_prefix_of n = n.prefix

-- the address of a network as it was given
abbrev pub ip_of : IpNetwork → IpAddr
ip_of (V4 n) = Ip.V4 (ipv4_ip_of n)
ip_of (V6 n) = Ip.V6 (ipv6_ip_of n)

-- how many of its bits the network keeps
abbrev pub prefix_of : IpNetwork → ℕ
prefix_of (V4 n) = ipv4_prefix_of n
prefix_of (V6 n) = ipv6_prefix_of n

-- the bits that the addresses of a network begin with
abbrev pub ipv4_block_of : Ipv4Network → List Bool
ipv4_block_of n = take (ipv4_prefix_of n) (bits_of_address (Ip.V4 (ipv4_ip_of n)))

abbrev pub ipv6_block_of : Ipv6Network → List Bool
ipv6_block_of n = take (ipv6_prefix_of n) (bits_of_address (Ip.V6 (ipv6_ip_of n)))

abbrev pub block_of : IpNetwork → List Bool
block_of n = take (prefix_of n) (bits_of_address (ip_of n))

-- the full text of a network
abbrev pub ipv4_full_text_of : Ipv4Network → List ℕ
ipv4_full_text_of n = ipv4_full_text (ipv4_block_of n)

abbrev pub ipv6_full_text_of : Ipv6Network → List ℕ
ipv6_full_text_of n = ipv6_full_text (ipv6_block_of n)

abbrev pub full_text_of : IpNetwork → List ℕ
full_text_of (V4 n) = ipv4_full_text_of n
full_text_of (V6 n) = ipv6_full_text_of n

-- what `Display` writes of a network: its address as std writes it, `/`, and the prefix
abbrev pub ipv4_short_text_of : Ipv4Network → List ℕ
ipv4_short_text_of n = ip_text (Ip.V4 (ipv4_ip_of n)) ++ prefix_text (ipv4_prefix_of n)

abbrev pub ipv6_short_text_of : Ipv6Network → List ℕ
ipv6_short_text_of n = ip_text (Ip.V6 (ipv6_ip_of n)) ++ prefix_text (ipv6_prefix_of n)

abbrev pub short_text_of : IpNetwork → List ℕ
short_text_of n = ip_text (ip_of n) ++ prefix_text (prefix_of n)
