-- The kinds of addresses.
use Rattle.std.specs.Prelude.{Bool, true, false, ◌≡◌, ℕ, ◌-◌, ◌%◌, ◌^◌, nat_eq, if◌then◌else◌}
use Rattle.std.specs.declared.net.ip_addr.IpAddr.{IpAddr}
use Rattle.std.specs.declared.net.ip_addr.IpAddr.TheVariants.{V4, V6}
use Rattle.std.specs.Net.Addr.{IsIpv4OfBits, IsIpv6OfBits}
use Rattle.mmdb_net.specs.Network.{ip_of, prefix_of}
use Rattle.mmdb_net.specs.declared.network.IpNetwork.{IpNetwork}
use Rattle.mmdb_blocks.specs.declared.block.Block.{Block}
use Rattle.mmdb_blocks.specs.declared.kind.BlockKind.{BlockKind}
use Rattle.mmdb_blocks.specs.declared.kind.BlockKind.TheVariants.{Ipv4, Ipv6}
use Rattle.mmdb_blocks.specs.declared.kind.Kinds.{Kinds}
use Rattle.mmdb_blocks.specs.declared.kind.Kinds.TheVariants.{Both, One}

-- the kind of addresses of a number of bits, 32 or 128
abbrev pub kind_of : ℕ → BlockKind
kind_of width = if nat_eq width 32 then Ipv4 else Ipv6

-- the kinds that are asked for by two options: both where both are given, or neither
abbrev pub kinds_asked : Bool → Bool → Kinds
kinds_asked true false = One Ipv4
kinds_asked false true = One Ipv6
kinds_asked true true = Both
kinds_asked false false = Both

-- the kind is one of those that are wanted
abbrev pub IsWanted : Kinds → BlockKind → Type 0
IsWanted Both kind = Unit {0}
IsWanted (One one) kind = kind ≡ one

-- an address of the kind is this number, of IPv4 the last 32 bits of it
abbrev pub IsAddressOf : BlockKind → IpAddr → ℕ → Type 0
IsAddressOf Ipv4 (V4 a) first = IsIpv4OfBits a (first % 2 ^ 32)
IsAddressOf Ipv4 (V6 a) first = ⊥
IsAddressOf Ipv6 (V4 a) first = ⊥
IsAddressOf Ipv6 (V6 a) first = IsIpv6OfBits a first

-- how many bits of an address of the kind are of a prefix of 128 bits
abbrev pub prefix_in : BlockKind → ℕ → ℕ
prefix_in Ipv4 prefix = prefix - 96
prefix_in Ipv6 prefix = prefix

-- a network of the kind has the first address of a block, and its prefix
abbrev pub IsNetworkOf : BlockKind → Block → IpNetwork → Type 0
IsNetworkOf kind block network =
    IsAddressOf kind (ip_of network) block.first × (prefix_of network ≡ prefix_in kind block.prefix)
