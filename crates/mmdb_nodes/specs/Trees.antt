-- Search trees of entries ("Binary Search Tree Section" of the MaxMind DB File Format Specification 2.0).
use Rattle.std.specs.Prelude.{◌≡◌, ℕ, zero, suc, ◌+◌, ◌^◌, ◌<◌, ◌≤◌, ◌⊎◌, ◌==◌, ◌&&◌, max, Bool, true, false, List, [], ◌++◌, length, Option, Some, None, if◌then◌else◌}
use Rattle.mmdb_net.specs.Bits.{bits_of, IsPrefix}
use Rattle.mmdb_tree.specs.Tree.{step, walk, search_tree, SearchTree as SpecTree}
use Rattle.mmdb_tree.specs.Records.{record_of}
use Rattle.mmdb_tree.specs.Stops.{WalkedTree, IsClean}
use Rattle.mmdb_tree.specs.declared.record.TreeRecord.{TreeRecord}
use Rattle.mmdb_tree.specs.declared.record.TreeRecord.TheVariants.{Empty, Data}
use Rattle.mmdb_nodes.specs.declared.entry.NodeEntry.{NodeEntry}
use Rattle.mmdb_nodes.specs.declared.entry.IpVersion.{IpVersion}
use Rattle.mmdb_nodes.specs.declared.size.RecordSize.{RecordSize}
use Rattle.mmdb_nodes.specs.declared.size.RecordSize.TheVariants.{Bits24, Bits28, Bits32}
use Rattle.mmdb_nodes.specs.declared.tree.SearchTree.{SearchTree}
use Rattle.mmdb_nodes.specs.Entries.{width, Gives, offset_in}

-- how many bits a record has ("Node Layout")
abbrev pub bits_in : RecordSize → ℕ
bits_in Bits24 = 24
bits_in Bits28 = 28
bits_in Bits32 = 32

-- The numbers of a tree: those of its nodes, 16 for no data and the rest of the separator, and one for each offset.
abbrev pub numbers_of : ℕ → ℕ → ℕ
numbers_of node_count data_len = node_count + 16 + data_len

-- Records of that size have that many numbers, and those of no smaller size have.
pub record IsLeastSize (numbers : ℕ) (size : RecordSize) : Type 0 where
  pub fits : numbers ≤ 2 ^ bits_in size
  pub least : (other : RecordSize) → numbers ≤ 2 ^ bits_in other → bits_in size ≤ bits_in other

-- the size that was asked for, or else the least
abbrev pub IsSizeFor : Option RecordSize → ℕ → RecordSize → Type 0
IsSizeFor None numbers size = IsLeastSize numbers size
IsSizeFor (Some asked) numbers size = (size ≡ asked) × (numbers ≤ 2 ^ bits_in size)

-- how many numbers there are room for
abbrev pub most_numbers : Option RecordSize → ℕ
most_numbers None = 2 ^ 32
most_numbers (Some asked) = 2 ^ bits_in asked

-- the tree in the bytes of a file, in which others follow its nodes
abbrev pub tree_in : SearchTree → List ℕ → SpecTree
tree_in tree behind = search_tree (tree.bytes.items ++ behind) tree.node_count (bits_in tree.record_size)

-- where the tree leads an address with this offset, or with none
abbrev pub leaf_of : Option ℕ → TreeRecord
leaf_of None = Empty
leaf_of (Some offset) = Data offset

-- The bits of each address lead to the offset of its longest prefix, or to no data, whatever follows the nodes.
abbrev pub LeadsByPrefix : IpVersion → ℕ → List NodeEntry → SearchTree → Type 0
LeadsByPrefix version data_len entries tree =
    (behind : List ℕ) (address : ℕ) → address < 2 ^ width version → (found : Option ℕ) × Gives entries address found
    × (record_of tree.node_count data_len (walk (tree_in tree behind) (bits_of (width version) address)) ≡ leaf_of found)

-- what a walk of the whole tree rests on
abbrev pub walked_in : IpVersion → ℕ → Option ℕ → List ℕ → SearchTree → WalkedTree
walked_in version data_len ipv4_start behind tree = record { tree = tree_in tree behind; width = width version; ipv4_start = ipv4_start; data_length = data_len }

-- A walk of the whole tree meets no faulty leaf, and stops at most three times for each node, wherever aliases lead and
-- whatever follows the nodes.
abbrev pub IsAlwaysClean : IpVersion → ℕ → SearchTree → Type 0
IsAlwaysClean version data_len tree = (ipv4_start : Option ℕ) (behind : List ℕ) → IsClean (walked_in version data_len ipv4_start behind tree)

-- No node leads both bits to the same leaf, unless it is the only one.
abbrev pub HasNoEqualLeaves : SearchTree → Type 0
HasNoEqualLeaves tree =
    (behind : List ℕ) (node : ℕ) → node < tree.node_count → step (tree_in tree behind) node false ≡ step (tree_in tree behind) node true
    → (step (tree_in tree behind) node false < tree.node_count) ⊎ (tree.node_count ≡ 1)

-- ---- blocks whose addresses differ

-- Of two addresses that begin with these bits the one has another offset than the other, or one of them has none.
pub record IsSplit (version : IpVersion) (entries : List NodeEntry) (bits : List Bool) : Type 0 where
  pub one : ℕ
  pub other : ℕ
  pub fits : one < 2 ^ width version
  pub other_fits : other < 2 ^ width version
  pub in_block : IsPrefix bits (bits_of (width version) one)
  pub other_in_block : IsPrefix bits (bits_of (width version) other)
  pub differ : ¬ (offset_in entries one ≡ offset_in entries other)

-- Each node but the first is that of a block whose addresses differ.
abbrev pub HasSplitNodes : IpVersion → List NodeEntry → SearchTree → Type 0
HasSplitNodes version entries tree = (behind : List ℕ) (bits : List Bool) → ¬ (bits ≡ []) → length bits ≤ width version
    → walk (tree_in tree behind) bits < tree.node_count → IsSplit version entries bits

-- No two bit strings lead to one node.
abbrev pub HasOneWayToEach : SearchTree → Type 0
HasOneWayToEach tree = (behind : List ℕ) (one other : List Bool) → walk (tree_in tree behind) one < tree.node_count
    → walk (tree_in tree behind) one ≡ walk (tree_in tree behind) other → one ≡ other

-- ---- how many nodes

abbrev pub is_same : Option ℕ → Option ℕ → Bool
is_same None None = true
is_same None (Some other) = false
is_same (Some offset) None = false
is_same (Some offset) (Some other) = offset == other

-- whether a number of addresses from one on have what that one has
unfoldable pub all_same : (ℕ → Option ℕ) → ℕ → ℕ → Bool
all_same at first zero = true
all_same at first (suc more) = is_same (at (first + more)) (at first) && all_same at first more

-- how many blocks of a block of `2 ^ free` addresses, itself included, have addresses that differ
unfoldable pub splits : (ℕ → Option ℕ) → ℕ → ℕ → ℕ
splits at first zero = 0
splits at first (suc half) = (if all_same at first (2 ^ suc half) then 0 else 1) + (splits at first half + splits at (first + 2 ^ half) half)

-- A node for each block whose addresses have not all the same offset, and one where there is none.
abbrev pub nodes_for : IpVersion → List NodeEntry → ℕ
nodes_for version entries = max 1 (splits (offset_in entries) 0 (width version))
