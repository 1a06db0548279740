-- Addresses of either kind as bit strings, and addresses with their last bits cleared.
use Rattle.std.specs.Prelude.{◌≡◌, ℕ, ◌-◌, Bool, List, ◌++◌, take}
use Rattle.std.specs.declared.net.ip_addr.IpAddr.{IpAddr}
use Rattle.std.specs.declared.net.ip_addr.IpAddr.TheVariants.{V4, V6}
use Rattle.std.specs.Net.Addr.{is_ipv4, ipv4_bits, ipv6_bits}
use Rattle.mmdb_net.specs.Bits.{bits_of, zero_bits}

-- how many bits an address of this kind has
abbrev pub address_width : IpAddr → ℕ
address_width (V4 a) = 32
address_width (V6 a) = 128

-- the bits of an address, the highest first
abbrev pub bits_of_address : IpAddr → List Bool
bits_of_address (V4 a) = bits_of 32 (ipv4_bits a)
bits_of_address (V6 a) = bits_of 128 (ipv6_bits a)

-- both addresses are IPv4, or both are IPv6
abbrev pub IsSameKind : IpAddr → IpAddr → Type 0
IsSameKind a b = is_ipv4 a ≡ is_ipv4 b

-- the masked address has the first `prefix` bits of the address, and zeros after them
pub record IsMaskedIp (address : IpAddr) (prefix : ℕ) (masked : IpAddr) : Type 0 where
  pub same_kind : IsSameKind masked address
  pub bits : bits_of_address masked
      ≡ take prefix (bits_of_address address) ++ zero_bits (address_width address - prefix)
