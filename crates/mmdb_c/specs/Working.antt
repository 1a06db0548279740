-- What contracts of private functions and proofs name.
use Rattle.std.specs.Prelude.{◌≡◌, ◌<◌, ◌≤◌, ℕ, ◌+◌, ◌++◌, List, length, take, drop, Option, Some, true, false, slice_index_or}
use Rattle.mmdb_c.specs.declared.list.ListPart.{ListPart}
use Rattle.std.specs.declared.net.ip_addr.IpAddr.{IpAddr}
use Rattle.std.specs.declared.net.ip_addr.IpAddr.TheVariants.{V4, V6}
use Rattle.std.specs.Net.Addr.{ipv4_bits, ipv6_bits}
use Rattle.mmdb_net.specs.Bits.{bits_of}
use Rattle.mmdb_tree.specs.declared.group.FoundLeaf.{FoundLeaf}
use Rattle.mmdb_tree.specs.Descents.{Walks, Descends}
use Rattle.mmdb_c.specs.declared.db.Facts.{Facts}
use Rattle.mmdb_c.specs.declared.many.Address.{Address}
use Rattle.mmdb_c.specs.Opened.{tree}
use Rattle.mmdb_c.specs.Many.{ipv4_given, ipv6_given}

-- From one place to another the memory has these parts; it is as it was before them and beyond them.
pub record Written (parts : List ListPart) (first after : ℕ) (old new : List ListPart) : Type 0 where
  pub count : after ≡ first + length parts
  pub room : after ≤ length old
  pub len : length new ≡ length old
  pub written : take after new ≡ take first old ++ parts
  pub beyond : drop after new ≡ drop after old

-- the list is there, and it is written
pub record IsListed (found : Option (List ListPart × ℕ)) (first after next : ℕ) (old new : List ListPart) : Type 0 where
  pub parts : List ListPart
  pub found_is : found ≡ Some (parts, next)
  pub written : Written parts first after old new

-- an address of these bits
abbrev pub IsIpOf : Address → IpAddr → Type 0
IsIpOf address (V4 a) = (address.is_ipv6 ≡ false) × (ipv4_bits a ≡ ipv4_given address)
IsIpOf address (V6 a) = (address.is_ipv6 ≡ true) × (ipv6_bits a ≡ ipv6_given address)

abbrev pub AreIpsOf : List Address → List IpAddr → Type 0
AreIpsOf addresses ips =
    (i : ℕ) (a : Address) (d : IpAddr) → i < length addresses → IsIpOf (slice_index_or addresses i a) (slice_index_or ips i d)

-- The walk along an address's own bits, if there is one, has come to a place.
pub record HasBegun (file : List ℕ) (facts : Facts) (address : Address) (leaf : FoundLeaf) : Type 0 where
  pub ipv4 : address.is_ipv6 ≡ false → facts.ipv4_start < facts.node_count → Walks (tree file facts) facts.ipv4_start (bits_of 32 (ipv4_given address)) leaf.taken leaf.number
  pub ipv6 : address.is_ipv6 ≡ true → facts.ip_version ≡ 6 → Walks (tree file facts) 0 (bits_of 128 (ipv6_given address)) leaf.taken leaf.number

-- It ends there.
pub record HasEnded (file : List ℕ) (facts : Facts) (address : Address) (leaf : FoundLeaf) : Type 0 where
  pub ipv4 : address.is_ipv6 ≡ false → facts.ipv4_start < facts.node_count → Descends (tree file facts) facts.ipv4_start (bits_of 32 (ipv4_given address)) leaf.taken leaf.number
  pub ipv6 : address.is_ipv6 ≡ true → facts.ip_version ≡ 6 → Descends (tree file facts) 0 (bits_of 128 (ipv6_given address)) leaf.taken leaf.number

abbrev pub HaveBegun : List ℕ → Facts → List Address → List FoundLeaf → Type 0
HaveBegun file facts addresses leaves =
    (i : ℕ) (a : Address) (d : FoundLeaf) → i < length addresses → HasBegun file facts (slice_index_or addresses i a) (slice_index_or leaves i d)

abbrev pub HaveEnded : List ℕ → Facts → List Address → List FoundLeaf → Type 0
HaveEnded file facts addresses leaves =
    (i : ℕ) (a : Address) (d : FoundLeaf) → i < length addresses → HasEnded file facts (slice_index_or addresses i a) (slice_index_or leaves i d)
