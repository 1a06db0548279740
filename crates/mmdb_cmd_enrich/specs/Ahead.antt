-- What is remembered of rows ahead: the addresses that they have, each with its text; and where their walks end.
use Rattle.std.specs.Prelude.{◌≡◌, ℕ, ◌<◌, ◌≤◌, List, [], ◌∷◌, take, length, Option, Some, None, ⊤, slice_index_or}
use Rattle.std.specs.List.{slice_get}
use Rattle.std.specs.declared.net.ip_addr.IpAddr.{IpAddr}
use Rattle.std.specs.declared.net.ip_addr.IpAddr.TheVariants.{V4, V6}
use Rattle.std.specs.declared.net.ipv6_addr.Ipv6Addr.{Ipv6Addr}
use Rattle.mmdb_tree.specs.declared.group.FoundLeaf.{FoundLeaf}
use Rattle.mmdb_reader.specs.File.{Database}
use Rattle.mmdb_reader.specs.Many.{IsFoundFor}
use Rattle.mmdb_addresses.specs.Addresses.{IsAddressIn}
use Rattle.mmdb_addresses.specs.Spelling.{spelling}
use Rattle.mmdb_addresses.specs.declared.readings.Reading.{Reading}
use Rattle.mmdb_addresses.specs.declared.address_text.AddressText.{AddressText}
use Rattle.mmdb_cmd_enrich.specs.declared.ahead.Ahead.{Ahead}
use Rattle.mmdb_cmd_enrich.specs.declared.ahead.RowAddress.{RowAddress}
use Rattle.mmdb_cmd_enrich.specs.declared.ahead.RowAddress.TheVariants.{Nothing, Short, Long}
use Rattle.mmdb_cmd_enrich.specs.declared.leaves.Leaves.{Leaves}

-- In each of the first texts the address at its index is.
abbrev pub AreSpelled : Reading → List AddressText → List IpAddr → ℕ → Type 0
AreSpelled reading texts addresses count =
    (i : ℕ) (text : AddressText) (address : IpAddr) → i < count → IsAddressIn reading (spelling (slice_index_or texts i text)) (slice_index_or addresses i address)

-- At most 64 addresses are remembered, each with a text that has it.
pub record IsAhead (reading : Reading) (ahead : Ahead) : Type 0 where
  pub few : ahead.count ≤ 64
  pub spelled : AreSpelled reading ahead.texts ahead.addresses ahead.count

abbrev pub ahead_of : Ahead → List IpAddr
ahead_of ahead = take ahead.count ahead.addresses

-- a number, if there is one, is that of this address
abbrev pub IsNumberOf : List IpAddr → Option ℕ → IpAddr → Type 0
IsNumberOf addresses None address = ⊤
IsNumberOf addresses (Some number) address = slice_get addresses number ≡ Some address

-- Each of the first leaves is where the walk of the address at its index ends.
abbrev pub AreFound : Database → List IpAddr → List FoundLeaf → Type 0
AreFound db addresses leaves = (i : ℕ) (address : IpAddr) (leaf : FoundLeaf) → i < length addresses → IsFoundFor db (slice_index_or addresses i address) (slice_index_or leaves i leaf)

-- The same in each of the first databases. Of those after them nothing is known.
abbrev pub AreFoundIn : List Database → List IpAddr → List Leaves → Type 0
AreFoundIn dbs addresses [] = ⊤
AreFoundIn [] addresses (leaves ∷ others) = ⊤
AreFoundIn (db ∷ dbs) addresses (leaves ∷ others) = AreFound db addresses leaves.leaves × AreFoundIn dbs addresses others

-- the address of a row, where one of IPv6 is this one
abbrev pub address_of_row : RowAddress → Ipv6Addr → Option IpAddr
address_of_row Nothing long = None
address_of_row (Short address number) long = Some (V4 address)
address_of_row Long long = Some (V6 long)

-- its number among those ahead, if it has one
abbrev pub number_of_row : RowAddress → Option ℕ
number_of_row Nothing = None
number_of_row (Short address number) = number
number_of_row Long = None

-- a number of an address, where there is one
abbrev pub IsNumbered : List IpAddr → RowAddress → Type 0
IsNumbered addresses Nothing = ⊤
IsNumbered addresses (Short address number) = IsNumberOf addresses number (V4 address)
IsNumbered addresses Long = ⊤
