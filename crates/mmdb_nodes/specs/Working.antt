-- What contracts of private functions and proofs name.
use Rattle.std.specs.Prelude.{◌≡◌, ℕ, zero, suc, ◌+◌, ◌-◌, ◌*◌, ◌%◌, ◌^◌, ◌<◌, ◌≤◌, ◌⊎◌, Bool, true, false, List, [], ◌∷◌, ◌++◌, length, take, set, Option, Some, None, IfSome, if◌then◌else◌, slice_get}
use Rattle.mmdb_blocks.specs.Blocks.{end}
use Rattle.mmdb_net.specs.Bits.{bits_of}
use Rattle.mmdb_tree.specs.Tree.{node_bytes, child}
use Rattle.mmdb_nodes.specs.declared.entry.NodeEntry.{NodeEntry}
use Rattle.mmdb_nodes.specs.declared.entry.IpVersion.{IpVersion}
use Rattle.mmdb_nodes.specs.declared.node.Node.{Node as SpecNode}
use Rattle.mmdb_nodes.specs.declared.node.NodeRecord.{NodeRecord}
use Rattle.mmdb_nodes.specs.declared.node.NodeRecord.TheVariants.{Node, Empty, Data}
use Rattle.mmdb_nodes.specs.Entries.{width, block_of, offset_after, offset_in}
use Rattle.mmdb_nodes.specs.Trees.{all_same, splits, nodes_for}

-- ---- entries of a block of `2 ^ free` addresses

-- how many bits its addresses differ in
abbrev pub free_bits : NodeEntry → ℕ
free_bits entry = 128 - entry.prefix

-- it begins where a block of its size may, and lies within a larger one
pub record IsInside (first free : ℕ) (entry : NodeEntry) : Type 0 where
  pub from : first ≤ entry.first
  pub to : end (block_of entry) ≤ first + 2 ^ free
  pub small : free_bits entry ≤ free
  pub aligned : entry.first % 2 ^ free_bits entry ≡ 0
  pub prefix : entry.prefix ≤ 128

abbrev pub IsSmaller : ℕ → NodeEntry → Type 0
IsSmaller free entry = free_bits entry < free

abbrev pub Precedes : ℕ → NodeEntry → Type 0
Precedes middle entry = entry.first < middle

abbrev pub Follows : ℕ → NodeEntry → Type 0
Follows middle entry = middle ≤ entry.first

abbrev pub IsUnder : ℕ → ℕ → Type 0
IsUnder bound offset = offset < bound

abbrev pub HasOffsetBelow : ℕ → NodeEntry → Type 0
HasOffsetBelow bound entry = IfSome entry.offset (IsUnder bound)

-- ---- where bits lead over nodes in memory

-- the record of an offset, or of none
abbrev pub leaf : Option ℕ → NodeRecord
leaf None = Empty
leaf (Some offset) = Data offset

-- what a node has for a bit; where there is no node, no data
abbrev pub side : Option SpecNode → Bool → NodeRecord
side None right = Empty
side (Some node) right = if right then node.right else node.left

abbrev pub step : List SpecNode → NodeRecord → Bool → NodeRecord
step nodes Empty right = Empty
step nodes (Data offset) right = Data offset
step nodes (Node n) right = side (slice_get nodes n) right

-- where bits lead from a record, the first bit first
unfoldable pub lead : List SpecNode → NodeRecord → List Bool → NodeRecord
lead nodes r [] = r
lead nodes r (x ∷ bits) = lead nodes (step nodes r x) bits

-- these nodes have, from a number on, what is there
abbrev pub Keeps : ℕ → List SpecNode → List SpecNode → Type 0
Keeps from nodes all = (k : ℕ) → from ≤ k → k < length nodes → slice_get all k ≡ slice_get nodes k

-- Over all nodes that keep those from a number on, a record leads from the bits of each address of a block to what
-- the entries say of it.
pub record Leads (from : ℕ) (nodes : List SpecNode) (r : NodeRecord) (first free : ℕ) (found : Option ℕ) (entries : List NodeEntry) : Type 0 where
  pub to : (all : List SpecNode) → Keeps from nodes all → (a : ℕ) → a < 2 ^ free → lead all r (bits_of free a) ≡ leaf (offset_after found entries (first + a))

-- it leads to one of `count` nodes, or to an offset below a bound
abbrev pub IsBelow : ℕ → ℕ → NodeRecord → Type 0
IsBelow count bound (Node n) = n < count
IsBelow count bound Empty = Unit {0}
IsBelow count bound (Data offset) = offset < bound

-- Each node from a number on leads to nodes that are there, and to offsets below a bound.
abbrev pub IsSound : ℕ → ℕ → List SpecNode → Type 0
IsSound from bound nodes = (k : ℕ) (right : Bool) → from ≤ k → k < length nodes → IsBelow (length nodes) bound (side (slice_get nodes k) right)

-- None of them has the same leaf for both bits.
abbrev pub HasNoTwins : ℕ → List SpecNode → Type 0
HasNoTwins from nodes = (k : ℕ) (v : Option ℕ) → from ≤ k → k < length nodes → side (slice_get nodes k) false ≡ leaf v → side (slice_get nodes k) true ≡ leaf v → ⊥

-- Each node from a number on leads to later ones alone, and one to which a bit leads says from which and by which bit.
pub record IsForest (from : ℕ) (nodes : List SpecNode) : Type 0 where
  pub parent : ℕ → ℕ × Bool
  pub onward : (k n : ℕ) (right : Bool) → from ≤ k → k < length nodes → side (slice_get nodes k) right ≡ Node n → (k < n) × (n < length nodes)
  pub own : (k n : ℕ) (right : Bool) → from ≤ k → k < length nodes → side (slice_get nodes k) right ≡ Node n → parent n ≡ (k, right)

-- ---- the record for two halves

-- they have not both the same leaf
abbrev pub IsKept : NodeRecord → NodeRecord → Type 0
IsKept left right = (v : Option ℕ) → left ≡ leaf v → right ≡ leaf v → ⊥

pub record IsSame (place : ℕ) (left right : NodeRecord) (old new : List SpecNode) (r : NodeRecord) : Type 0 where
  pub value : Option ℕ
  pub left_is : left ≡ leaf value
  pub right_is : right ≡ leaf value
  pub result_is : r ≡ leaf value
  pub nodes : new ≡ take place old

pub record IsNode (place : ℕ) (left right : NodeRecord) (old new : List SpecNode) (r : NodeRecord) : Type 0 where
  pub differ : IsKept left right
  pub result_is : r ≡ Node place
  pub nodes : new ≡ set old place (record { left = left; right = right })

abbrev pub IsJoined : ℕ → NodeRecord → NodeRecord → List SpecNode → List SpecNode → NodeRecord → Type 0
IsJoined place left right old new r = IsSame place left right old new r ⊎ IsNode place left right old new r

-- ---- how many leaves and nodes

-- the leaves below a record, at most a number of bits down
abbrev pub ends : List SpecNode → NodeRecord → ℕ → ℕ
ends nodes r zero = 1
ends nodes Empty (suc left) = 1
ends nodes (Data offset) (suc left) = 1
ends nodes (Node n) (suc left) = ends nodes (side (slice_get nodes n) false) left + ends nodes (side (slice_get nodes n) true) left

-- There are no more leaves than nodes from a number on, and one.
pub record HasFewEnds (from : ℕ) (nodes : List SpecNode) (r : NodeRecord) (free : ℕ) : Type 0 where
  pub few : (all : List SpecNode) → Keeps from nodes all → ends all r free + from ≤ 1 + length nodes

-- A block has as many nodes as blocks that differ; where its record is a node, it is one of those.
pub record HasAsMany (from to : ℕ) (r : NodeRecord) (first free : ℕ) (found : Option ℕ) (entries : List NodeEntry) : Type 0 where
  pub count : to ≡ from + splits (offset_after found entries) first free
  pub differs : (n : ℕ) → r ≡ Node n → all_same (offset_after found entries) first (2 ^ free) ≡ false

-- A block that differs has, with the nodes before it, more nodes than records of 32 bits can name.
pub record NeedsTooMany (from first free : ℕ) (found : Option ℕ) (entries : List NodeEntry) : Type 0 where
  pub differs : all_same (offset_after found entries) first (2 ^ free) ≡ false
  pub many : 2 ^ 32 < from + splits (offset_after found entries) first free

-- one node, which has the same leaf for both bits
abbrev pub IsLone : List SpecNode → Type 0
IsLone nodes = (v : Option ℕ) × (nodes ≡ (record { left = leaf v; right = leaf v }) ∷ [])

-- the nodes of a whole tree, from node 0 on
pub record AreNodesOf (version : IpVersion) (entries : List NodeEntry) (data_len : ℕ) (nodes : List SpecNode) : Type 0 where
  pub leads : (a : ℕ) → a < 2 ^ width version → lead nodes (Node 0) (bits_of (width version) a) ≡ leaf (offset_in entries a)
  pub some : 0 < length nodes
  pub sound : IsSound 0 data_len nodes
  pub few : ends nodes (Node 0) (width version) ≤ 1 + length nodes
  pub reduced : HasNoTwins 0 nodes ⊎ IsLone nodes
  pub forest : IsForest 0 nodes
  pub count : length nodes ≡ nodes_for version entries

-- ---- nodes as bytes

-- a node with these numbers follows the bytes
pub record AddsNode (record_size left right : ℕ) (old new : List ℕ) : Type 0 where
  pub more : List ℕ
  pub grown : new ≡ old ++ more
  pub len : length more ≡ node_bytes record_size
  pub left_is : child more record_size 0 false ≡ left
  pub right_is : child more record_size 0 true ≡ right

-- The number of a record, in a tree of `count` nodes.
abbrev pub number_in : ℕ → NodeRecord → ℕ
number_in count (Node n) = n
number_in count Empty = count
number_in count (Data offset) = count + 16 + offset

-- the bytes have these nodes and nothing else
pub record AreNodes (record_size : ℕ) (nodes : List SpecNode) (bytes : List ℕ) : Type 0 where
  pub len : length bytes ≡ length nodes * node_bytes record_size
  pub each : (k : ℕ) (right : Bool) → k < length nodes → child bytes record_size k right ≡ number_in (length nodes) (side (slice_get nodes k) right)
