-- What contracts of private functions and proofs name.
use Rattle.std.specs.Prelude.{◌≡◌, ◌≤◌, ◌<◌, ◌+◌, ◌⊎◌, Bool, ℕ, true, List, [], ◌∷◌, ◌++◌, ◌*◌, length, Option, Some}
use Rattle.mmdb_format.specs.Unfolding.{Tree, Pairs, is_keyed, value_count, payload, levels}
use Rattle.mmdb_section.specs.declared.value.SectionPart.{SectionPart}
use Rattle.mmdb_section.specs.Known.{AreKnown, PairsAreKnown, IsKnownPart, KnowsAll, HasEachOnce}
use Rattle.mmdb_section.specs.Sections.{Tile, IsPart, AreParts, ArePairs, SectionView, most_size}
use Rattle.mmdb_value.specs.AnyValue.{trees_of, pairs_of}
use Rattle.mmdb_nodes.specs.Trees.{bits_in, numbers_of, IsSizeFor, LeadsByPrefix, HasSplitNodes, HasOneWayToEach}
use Rattle.mmdb_nodes.specs.declared.tree.SearchTree.{SearchTree}
use Rattle.mmdb_writer.specs.declared.options.Options.{Options}
use Rattle.std.specs.List.{AllByRecursion, filter}
use Rattle.mmdb_tree.specs.Tree.{node_bytes}
use Rattle.mmdb_nodes.specs.declared.entry.NodeEntry.{NodeEntry}
use Rattle.mmdb_nodes.specs.declared.entry.IpVersion.{IpVersion}
use Rattle.mmdb_nodes.specs.Entries.{IsEntry, IsOrdered}
use Rattle.mmdb_writer.specs.declared.error.WriteError.{WriteError}
use Rattle.mmdb_writer.specs.declared.error.WriteError.TheVariants as errors
use Rattle.mmdb_writer.specs.declared.limits.Room.{Room}
use Rattle.mmdb_writer.specs.declared.limits.ValueError.{ValueError}
use Rattle.mmdb_writer.specs.declared.limits.ValueError.TheVariants.{TooManyValues, TooManyBytes, TooDeep, KeyTwice}
use Rattle.mmdb_writer.specs.Limits.{PairsHaveKeyTwice}
use Rattle.mmdb_writer.specs.Errors.{IsGeneral}
use Rattle.mmdb_writer.specs.Making.{is_same_block, AreOrdered, IsCertified, BeginsWith}
use Rattle.mmdb_format.specs.declared.error.MaxMindDbError.{MaxMindDbError}
use Rattle.mmdb_format.specs.declared.error.MaxMindDbError.TheVariants.{Memory}
use Rattle.mmdb_nodes.specs.declared.tree.TreeError.{TreeError}
use Rattle.mmdb_nodes.specs.declared.tree.TreeError.TheVariants as trees
use Rattle.mmdb_section.specs.declared.section.SectionError.{SectionError}
use Rattle.mmdb_section.specs.declared.section.SectionError.TheVariants as sections

-- ---- values that are put into a section

-- The section has these values, and perhaps more, each once, and the part stands for the tree.
pub record HoldsOnce (tiles : List Tile) (v : Tree) (section : SectionView) (part : SectionPart) : Type 0 where
  pub more : List Tile
  pub once : HasEachOnce (tiles ++ more) section
  pub is_part : IsPart (tiles ++ more) part v

-- whatever values it had
abbrev pub HoldsBeside : Tree → SectionView → SectionView → SectionPart → Type 0
HoldsBeside v old new part = (tiles : List Tile) → HasEachOnce tiles old → HoldsOnce tiles v new part

-- The part stands for the tree, which is known now.
pub record Puts (v : Tree) (old new : SectionView) (part : SectionPart) : Type 0 where
  pub known : IsKnownPart new v part
  pub stay : KnowsAll old new
  pub holds : HoldsBeside v old new part

-- the section has the values that it had, and perhaps more, each once
abbrev pub Keeps : SectionView → SectionView → Type 0
Keeps old new = (tiles : List Tile) → HasEachOnce tiles old → (more : List Tile) × HasEachOnce (tiles ++ more) new

-- The section has these values, and perhaps more, each once, and the parts stand for the trees, or pairs of them.
pub record HoldsParts (tiles : List Tile) (vs : List Tree) (section : SectionView) (parts : List SectionPart) : Type 0 where
  pub more : List Tile
  pub once : HasEachOnce (tiles ++ more) section
  pub are : AreParts (tiles ++ more) parts (trees_of vs)

pub record HoldsPairs (tiles : List Tile) (vs : List (List ℕ × Tree)) (section : SectionView) (parts : List (SectionPart × SectionPart)) : Type 0 where
  pub more : List Tile
  pub once : HasEachOnce (tiles ++ more) section
  pub are : ArePairs (tiles ++ more) parts (pairs_of vs)

-- The parts stand for the trees, or pairs of them, which are known now.
pub record PutsParts (vs : List Tree) (old new : SectionView) (parts : List SectionPart) : Type 0 where
  pub known : AreKnown new (trees_of vs) parts
  pub stay : KnowsAll old new
  pub holds : (tiles : List Tile) → HasEachOnce tiles old → HoldsParts tiles vs new parts

pub record PutsPairs (vs : List (List ℕ × Tree)) (old new : SectionView) (parts : List (SectionPart × SectionPart)) : Type 0 where
  pub known : PairsAreKnown new (pairs_of vs) parts
  pub stay : KnowsAll old new
  pub holds : (tiles : List Tile) → HasEachOnce tiles old → HoldsPairs tiles vs new parts

-- the value has no more values and bytes than a header can say
abbrev pub IsWithin : Tree → Type 0
IsWithin v = (value_count v ≤ most_size) × (payload v ≤ most_size)

-- ---- limits of values

-- A value of at most `most` levels, whose values and bytes were taken.
pub record TakesRoom (most : ℕ) (v : Tree) (old new : Room) : Type 0 where
  pub keyed : is_keyed v ≡ true
  pub values : value_count v + new.values ≡ old.values
  pub bytes : payload v + new.bytes ≡ old.bytes
  pub shallow : levels v ≤ most

-- which of these limits it exceeds
abbrev pub ExceedsRoom : ℕ → Tree → Room → ValueError → Type 0
ExceedsRoom most v room TooManyValues = room.values < value_count v
ExceedsRoom most v room TooManyBytes = room.bytes < payload v
ExceedsRoom most v room TooDeep = most < levels v
ExceedsRoom most v room KeyTwice = ⊥

-- ---- keys

-- one of the keys was seen
abbrev pub HasSeen : (List ℕ → Bool) → List (List ℕ × Tree) → Type 0
HasSeen seen [] = ⊥
HasSeen seen (x ∷ xs) = (seen x.0 ≡ true) ⊎ HasSeen seen xs

-- Pairs have a key twice exactly where those that are left do, or have one that was seen.
pub record AreLeft (all : Pairs) (seen : List ℕ → Bool) (left : List (List ℕ × Tree)) : Type 0 where
  pub to : PairsHaveKeyTwice all → PairsHaveKeyTwice (pairs_of left) ⊎ HasSeen seen left
  pub from : PairsHaveKeyTwice (pairs_of left) ⊎ HasSeen seen left → PairsHaveKeyTwice all

-- ---- entries of rows

-- it has an index that is none of `count`
abbrev pub IsMissing : ℕ → Option ℕ → Type 0
IsMissing count value = (index : ℕ) × (value ≡ Some index) × (count ≤ index)

-- Entries in the order that a tree wants, in which those of one block are in the order that was given.
pub record AreInOrder (version : IpVersion) (data_len : ℕ) (given entries : List NodeEntry) : Type 0 where
  pub ordered : IsOrdered entries
  pub fit : AllByRecursion (IsEntry version data_len) entries
  pub stable : (e : NodeEntry) → filter (is_same_block e) entries ≡ filter (is_same_block e) given

-- ---- the parts of a file

-- in the order that a tree wants they are not all entries of the tree
pub record HasNoFit (version : IpVersion) (data_len : ℕ) (given : List NodeEntry) : Type 0 where
  pub entries : List NodeEntry
  pub order : AreOrdered given entries
  pub no_fit : ¬ AllByRecursion (IsEntry version data_len) entries

-- A file of a data section and a tree of these entries, which was read back.
pub record IsFileOf (options : Options) (section : List ℕ) (given : List NodeEntry) (file : List ℕ) : Type 0 where
  pub entries : List NodeEntry
  pub order : AreInOrder options.ip_version (length section) given entries
  pub tree : SearchTree
  pub leads : LeadsByPrefix options.ip_version (length section) entries tree
  pub split : HasSplitNodes options.ip_version entries tree
  pub one_way : HasOneWayToEach tree
  pub serves : IsSizeFor options.record_size (numbers_of tree.node_count (length section)) tree.record_size
  pub len : length tree.bytes.items ≡ tree.node_count * node_bytes (bits_in tree.record_size)
  pub begins : BeginsWith tree.bytes.items section file
  pub certified : IsCertified file options tree (length section)

-- ---- errors

-- The error that another one becomes.
pub record IsOfSection (error : SectionError) (e : WriteError) : Type 0 where
  pub general : IsGeneral e
  pub too_large : e ≡ errors.TooLarge → error ≡ sections.TooLarge
  pub meant : ¬ (e ≡ errors.NotAsMeant)

pub record IsOfTree (error : TreeError) (e : WriteError) : Type 0 where
  pub general : IsGeneral e
  pub too_large : e ≡ errors.TooLarge → error ≡ trees.TooLarge
  pub meant : ¬ (e ≡ errors.NotAsMeant)

pub record IsOfReader (error : MaxMindDbError) (e : WriteError) : Type 0 where
  pub general : IsGeneral e
  pub fits : ¬ (e ≡ errors.TooLarge)
  pub unread : e ≡ errors.NotAsMeant → ¬ (error ≡ Memory)
