-- The texts that networks are read from.
use Rattle.std.specs.Prelude.{◌≡◌, ℕ, ◌≤◌, ◌⊎◌, List, ◌++◌, length, codes}
use Rattle.std.specs.declared.net.ip_addr.IpAddr.{IpAddr}
use Rattle.std.specs.Net.Grammar.{IsNumber, IsIpText}
use Rattle.std.specs.declared.net.ip_addr.IpAddr.TheVariants as Ip
use Rattle.mmdb_net.specs.Address.{address_width}
use Rattle.mmdb_net.specs.declared.network.Ipv4Network.{Ipv4Network}
use Rattle.mmdb_net.specs.declared.network.Ipv6Network.{Ipv6Network}
use Rattle.mmdb_net.specs.declared.network.IpNetwork.{IpNetwork}
use Rattle.mmdb_net.specs.Network.{ip_of, prefix_of, ipv4_ip_of, ipv4_prefix_of, ipv6_ip_of, ipv6_prefix_of}

-- one to three ASCII digits that write the prefix
abbrev pub IsPrefixText : List ℕ → ℕ → Type 0
IsPrefixText digits prefix = IsNumber 10 digits prefix × (length digits ≤ 3)

-- an address as std reads it, then nothing, where the prefix is its width, or `/` and the digits of
-- the prefix
abbrev pub IsNetworkText : List ℕ → IpAddr → ℕ → Type 0
IsNetworkText text ip prefix = (address : List ℕ) × IsIpText address ip
    × (((text ≡ address) × (prefix ≡ address_width ip))
    ⊎ ((digits : List ℕ) × (text ≡ address ++ codes "/" ++ digits) × IsPrefixText digits prefix))

-- a text of this network
abbrev pub IsTextOf : List ℕ → IpNetwork → Type 0
IsTextOf text n = IsNetworkText text (ip_of n) (prefix_of n)

-- a text of this IPv4 network, and of this IPv6 network
abbrev pub IsIpv4TextOf : List ℕ → Ipv4Network → Type 0
IsIpv4TextOf text n = IsNetworkText text (Ip.V4 (ipv4_ip_of n)) (ipv4_prefix_of n)

abbrev pub IsIpv6TextOf : List ℕ → Ipv6Network → Type 0
IsIpv6TextOf text n = IsNetworkText text (Ip.V6 (ipv6_ip_of n)) (ipv6_prefix_of n)
