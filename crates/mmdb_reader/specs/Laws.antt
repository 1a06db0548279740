-- Laws of leaves and answers.
use Rattle.std.specs.Prelude.{◌≡◌, ℕ, ◌≤◌, Bool, true, false, List, length}
use Rattle.std.specs.declared.net.ip_addr.IpAddr.{IpAddr}
use Rattle.std.specs.declared.net.ip_addr.IpAddr.TheVariants.{V4}
use Rattle.std.specs.declared.net.ipv4_addr.Ipv4Addr.{Ipv4Addr}
use Rattle.mmdb_net.specs.Bits.{IsPrefix}
use Rattle.mmdb_net.specs.Bits.{zero_bits}
use Rattle.mmdb_net.specs.Address.{address_width}
use Rattle.mmdb_net.specs.Network.{ip_of, prefix_of}
use Rattle.mmdb_net.specs.declared.network.IpNetwork.{IpNetwork}
use Rattle.mmdb_reader.specs.Shown.{has_ipv4_subtree, IsIpv4Depth, block_in, ShowsAnswer}
use Rattle.mmdb_reader.specs.File.{Database, has_ipv6, width, tree_of}
use Rattle.mmdb_tree.specs.Tree.{walk}
use Rattle.mmdb_reader.specs.Leaves.{IsLeaf}
use Rattle.mmdb_tree.specs.declared.record.TreeRecord.{TreeRecord}
use Rattle.mmdb_reader.specs.Lookup.{Answers, CanAsk, address_bits, outcome_of}

-- No leaf begins another leaf: the blocks of addresses that begin with them are disjoint.
abbrev pub LeavesAreDisjoint : Type 0
LeavesAreDisjoint = (db : Database) (a b : List Bool) → IsLeaf db a → IsLeaf db b → IsPrefix a b → a ≡ b

-- the leaf with which the bits begin, and no other leaf
pub record IsOnlyLeafOn (db : Database) (bits leaf : List Bool) : Type 0 where
  pub is_leaf : IsLeaf db leaf
  pub on_bits : IsPrefix leaf bits
  pub only : (other : List Bool) → IsLeaf db other → IsPrefix other bits → other ≡ leaf

-- Each full address begins with exactly one leaf.
abbrev pub EachAddressHasOneLeaf : Type 0
EachAddressHasOneLeaf = (db : Database) (bits : List Bool) → length bits ≡ width db → (leaf : List Bool) × IsOnlyLeafOn db bits leaf

-- An address that the database may be asked for has an answer: what the number means to which the walk of all its bits
-- leads.
abbrev pub EachAddressIsAnswered : Type 0
EachAddressIsAnswered =
    (db : Database) (address : IpAddr) → CanAsk db address → (leaf : List Bool) × Answers db address leaf (outcome_of db (walk (tree_of db) (address_bits db address)))

-- An address has one answer.
abbrev pub AnswersAreUnique : Type 0
AnswersAreUnique =
    (db : Database) (address : IpAddr) (a b : List Bool) (x y : TreeRecord) → Answers db address a x → Answers db address b y → (a ≡ b) × (x ≡ y)

-- Two addresses of one leaf have the same answer.
abbrev pub SameLeafSameAnswer : Type 0
SameLeafSameAnswer =
    (db : Database) (address other : IpAddr) (leaf : List Bool) (outcome : TreeRecord) → Answers db address leaf outcome → CanAsk db other → IsPrefix leaf (address_bits db other) → Answers db other leaf outcome

-- the network's block is a beginning of the address's bits, and its prefix is one of its kind
pub record HoldsAddress (db : Database) (address : IpAddr) (network : IpNetwork) : Type 0 where
  pub holds : IsPrefix (block_in db network) (address_bits db address)
  pub prefix_fits : prefix_of network ≤ address_width (ip_of network)

-- The network that is shown for an answer holds the address.
abbrev pub NetworkHoldsAddress : Type 0
NetworkHoldsAddress =
    (db : Database) (address : IpAddr) (leaf : List Bool) (outcome : TreeRecord) (network : IpNetwork) → Answers db address leaf outcome → ShowsAnswer db address leaf network → HoldsAddress db address network

-- the network `::/depth`
pub record IsZeroNetwork (db : Database) (depth : ℕ) (network : IpNetwork) : Type 0 where
  pub zeros : block_in db network ≡ zero_bits depth
  pub prefix_is : prefix_of network ≡ depth

-- Without an IPv4 subtree it is `::/k` for each IPv4 address, k being the depth at which the walk of zero
-- bits left the nodes.
abbrev pub Ipv4WithoutSubtree : Type 0
Ipv4WithoutSubtree =
    (db : Database) (a : Ipv4Addr) (leaf : List Bool) (outcome : TreeRecord) (network : IpNetwork) (depth : ℕ) → has_ipv6 db ≡ true → has_ipv4_subtree db ≡ false → IsIpv4Depth db depth → Answers db (V4 a) leaf outcome → ShowsAnswer db (V4 a) leaf network → IsZeroNetwork db depth network
