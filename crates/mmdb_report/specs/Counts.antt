-- What is counted of the items of a list.
use Rattle.std.specs.Prelude.{◌≡◌, ℕ, ◌+◌, ◌≤◌, ◌==◌, nat_eq, Bool, true, false, not, ◌&&◌, List, [], ◌∷◌, length, slice_index, count_by, Option, Some, None, is_some}
use Rattle.std.specs.List.{flat_map}
use Rattle.std.specs.Set.{distinct_count}
use Rattle.std.specs.Net.Addr.{is_ipv4}
use Rattle.mmdb_net.specs.declared.network.IpNetwork.{IpNetwork}
use Rattle.mmdb_net.specs.Network.{ip_of, prefix_of}
use Rattle.mmdb_reader.specs.File.{Database, before_ipv4}
use Rattle.mmdb_reader.specs.Items.{Item, Failure, Network}
use Rattle.mmdb_reader.specs.Shown.{IsShownBy}
use Rattle.mmdb_report.specs.declared.report.Report.{Report}

-- The item is shown as an IPv4 network of this prefix: its leaf has `prefix` bits after the zeros
-- before IPv4.
unfoldable pub is_ipv4_of : Database → ℕ → Item → Bool
is_ipv4_of db prefix (Failure kind) = false
is_ipv4_of db prefix (Network leaf offset as_ipv4) = as_ipv4 && (length leaf == length (before_ipv4 db) + prefix)

-- The item is shown as an IPv6 network of this prefix: its leaf has `prefix` bits.
unfoldable pub is_ipv6_of : ℕ → Item → Bool
is_ipv6_of prefix (Failure kind) = false
is_ipv6_of prefix (Network leaf offset as_ipv4) = not as_ipv4 && (length leaf == prefix)

-- Where a network shows the leaf of an item, the item is counted by that network's kind and prefix.
abbrev pub CountsAreOfNetworks : Type 0
CountsAreOfNetworks =
    (db : Database) (leaf : List Bool) (offset : Option ℕ) (as_ipv4 : Bool) (network : IpNetwork) (prefix : ℕ)
    → IsShownBy db leaf as_ipv4 network
    → (is_ipv4_of db prefix (Network leaf offset as_ipv4) ≡ (is_ipv4 (ip_of network) && (prefix_of network == prefix)))
    × (is_ipv6_of prefix (Network leaf offset as_ipv4) ≡ (not (is_ipv4 (ip_of network)) && (prefix_of network == prefix)))

-- the item is a network without data
unfoldable pub is_without_data : Item → Bool
is_without_data (Failure kind) = false
is_without_data (Network leaf offset as_ipv4) = not (is_some offset)

-- the item is a fault
unfoldable pub is_fault : Item → Bool
is_fault (Failure kind) = true
is_fault (Network leaf offset as_ipv4) = false

-- the offset of the item's value, if it has one
unfoldable pub offsets_at : Item → List ℕ
offsets_at (Failure kind) = []
offsets_at (Network leaf None as_ipv4) = []
offsets_at (Network leaf (Some offset) as_ipv4) = offset ∷ []

-- the offsets of the values of items
abbrev pub offsets_of : List Item → List ℕ
offsets_of items = flat_map offsets_at items

-- The report has the counts of these items.
pub record Counts (db : Database) (items : List Item) (report : Report) : Type 0 where
  pub ipv4 : (prefix : ℕ) → prefix ≤ 32 → slice_index report.by_prefix_v4 prefix ≡ count_by (is_ipv4_of db prefix) items
  pub ipv6 : (prefix : ℕ) → prefix ≤ 128 → slice_index report.by_prefix_v6 prefix ≡ count_by (is_ipv6_of prefix) items
  pub without_data : report.without_data ≡ count_by is_without_data items
  pub faults : report.faults ≡ count_by is_fault items
  pub distinct_offsets : report.distinct_offsets ≡ distinct_count nat_eq (offsets_of items)
