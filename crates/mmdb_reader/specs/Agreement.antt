-- That what a list hands out agrees with the lookups of all addresses inside its network.
use Rattle.std.specs.Prelude.{◌≡◌, ℕ, Bool, List, Option}
use Rattle.std.specs.List.{Contains}
use Rattle.std.specs.declared.net.ip_addr.IpAddr.{IpAddr}
use Rattle.mmdb_net.specs.Bits.{IsPrefix}
use Rattle.mmdb_net.specs.Address.{IsSameKind, bits_of_address}
use Rattle.mmdb_net.specs.Network.{ip_of, block_of}
use Rattle.mmdb_net.specs.declared.network.IpNetwork.{IpNetwork}
use Rattle.mmdb_reader.specs.declared.options.WithinOptions.{WithinOptions}
use Rattle.mmdb_reader.specs.File.{Database}
use Rattle.mmdb_reader.specs.Items.{Network, items_of}
use Rattle.mmdb_reader.specs.Listing.{Listed, IsListing}
use Rattle.mmdb_tree.specs.declared.record.TreeRecord.{TreeRecord}
use Rattle.mmdb_reader.specs.Lookup.{Answers, outcome_at}
use Rattle.mmdb_reader.specs.Shown.{IsShownBy}

-- The network holds the address, as its `contains` tells: both are IPv4 or both IPv6, and the address begins
-- with the network's bits.
abbrev pub Holds : IpNetwork → IpAddr → Type 0
Holds network address = IsSameKind address (ip_of network) × IsPrefix (block_of network) (bits_of_address address)

-- The address may be asked for, and its one answer is this leaf with this outcome.
pub record HasAnswer (db : Database) (address : IpAddr) (leaf : List Bool) (outcome : TreeRecord) : Type 0 where
  pub answers : Answers db address leaf outcome
  pub only : (other : List Bool) (found : TreeRecord) → Answers db address other found → (other ≡ leaf) × (found ≡ outcome)

-- An item of the list of a range that is no error, and the network that shows it: the answer for each address
-- that the network holds is the item's leaf with the item's offset, or with no data where it has none.
abbrev pub ItemsAgree : Type 0
ItemsAgree =
    (db : Database) (options : WithinOptions) (range : List Bool) (list : List Listed) (leaf : List Bool) (offset : Option ℕ) (as_ipv4 : Bool) (network : IpNetwork) (address : IpAddr) →
    IsListing db options range list → Contains (items_of db list) (Network leaf offset as_ipv4) → IsShownBy db leaf as_ipv4 network → Holds network address → HasAnswer db address leaf (outcome_at offset)
