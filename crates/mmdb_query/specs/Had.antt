-- What databases have for an address or a network, one of them or several.
use Rattle.std.specs.Prelude.{◌≡◌, ℕ, ◌-◌, List, [], ◌∷◌, ◌++◌, get_or, Option, None, Bool, false, ◌||◌, is_some, if◌then◌else◌}
use Rattle.std.specs.declared.convert.AsSlice.{Ghosts}
use Rattle.std.specs.Net.Addr.{is_ipv4}
use Rattle.mmdb_net.specs.Address.{IsMaskedIp, address_width}
use Rattle.mmdb_net.specs.Bits.{zero_bits}
use Rattle.mmdb_net.specs.Network.{ip_of, prefix_of, block_of}
use Rattle.mmdb_net.specs.declared.network.IpNetwork.{IpNetwork}
use Rattle.mmdb_reader.specs.File.{Database, width}
use Rattle.mmdb_reader.specs.Found.{database_asked, section_asked, leaf_of, offset_found, shown_as_ipv4}
use Rattle.mmdb_reader.specs.declared.lookup_result.LookupResult.{LookupResult}

-- A network, by the bits that its addresses begin with, written with 128 bits, and whether it is one of IPv4; and where
-- each database has its record, if it has one.
pub record Had : Type 0 where
  pub bits : List Bool
  pub as_ipv4 : Bool
  pub offsets : List (Option ℕ)

-- the bits that all addresses of a network begin with (as network_bits of mmdb_blocks)
abbrev pub network_bits : IpNetwork → List Bool
network_bits network = zero_bits (128 - address_width (ip_of network)) ++ block_of network

-- the same of a leaf of a database (as shown_bits of mmdb_compare)
abbrev pub shown_bits : Database → List Bool → Bool → List Bool
shown_bits db leaf as_ipv4 = if as_ipv4 then zero_bits (128 - width db) ++ leaf else leaf

-- the network itself
pub record IsNetworkOf (had : Had) (network : IpNetwork) : Type 0 where
  pub kind : is_ipv4 (ip_of network) ≡ had.as_ipv4
  pub bits : network_bits network ≡ had.bits
  pub masked : IsMaskedIp (ip_of network) (prefix_of network) (ip_of network)

-- where the database at a place has its record
abbrev pub offset_at : List (Option ℕ) → ℕ → Option ℕ
offset_at offsets place = get_or offsets place None

-- one of the databases has a record
abbrev pub has_one : List (Option ℕ) → Bool
has_one [] = false
has_one (offset ∷ offsets) = is_some offset || has_one offsets

-- what one database has
module _ {S : Type 0} {G : Ghosts S ℕ} where
  abbrev pub section_alone : LookupResult S G → List (List ℕ)
  section_alone r = section_asked r ∷ []

  abbrev pub had_alone : LookupResult S G → Had
  had_alone r = record {
    bits = shown_bits (database_asked r) (leaf_of r) (shown_as_ipv4 r);
    as_ipv4 = shown_as_ipv4 r;
    offsets = offset_found r ∷ [];
  }
