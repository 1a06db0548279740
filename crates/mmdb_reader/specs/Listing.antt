-- The leaves of a range that are listed, ascending ("Binary Search Tree Section" and "IPv4 addresses in an
-- IPv6 tree" of the MaxMind DB File Format Specification 2.0).
use Rattle.std.specs.Prelude.{◌≡◌, ℕ, ◌+◌, ◌<◌, ◌⊎◌, ◌↔◌, zero, suc, Bool, true, false, not, ◌&&◌, List, [], ◌∷◌, ◌++◌, map, Option, Some, None, if◌then◌else◌, nat_lt}
use Rattle.std.specs.List.{Contains}
use Rattle.mmdb_net.specs.Bits.{IsPrefix}
use Rattle.mmdb_reader.specs.declared.options.WithinOptions.{WithinOptions}
use Rattle.mmdb_reader.specs.File.{Database, tree_of, width, separator, data_length, data_section}
use Rattle.mmdb_tree.specs.Tree.{walk}
use Rattle.mmdb_reader.specs.Leaves.{IsLeaf}
use Rattle.mmdb_tree.specs.declared.record.TreeRecord.{TreeRecord}
use Rattle.mmdb_tree.specs.declared.record.TreeRecord.TheVariants.{Data, Empty, Invalid, Node}
use Rattle.mmdb_reader.specs.Lookup.{record_at}
use Rattle.mmdb_reader.specs.Alias.{IsAlias, is_alias}
use Rattle.mmdb_decode.specs.Peeking.{empty_at}
use Rattle.mmdb_reader.specs.Empty.{IsUnreadable, IsEmptyContainer}
use Rattle.mmdb_reader.specs.Options.{includes_aliased, includes_without_data, skips_empty}

-- A leaf that is listed, with what it is listed with: no data, the offset of its value in the data section, or a fault.
pub record Listed : Type 0 where
  pub leaf : List Bool
  pub finding : TreeRecord

abbrev pub listed_with : List Bool → TreeRecord → Listed
listed_with leaf finding = record { leaf = leaf; finding = finding }

-- ---- which leaves are listed, in the words of the format

-- The leaf's value is at this offset of the data section: the leaf leads to the number that is the offset more than the
-- number of nodes and the separator's length.
pub record HasValueAt (db : Database) (leaf : List Bool) (offset : ℕ) : Type 0 where
  pub leads : walk (tree_of db) leaf ≡ db.metadata.node_count + separator + offset
  pub inside : offset < data_length db

-- The leaf leads past the nodes, but to no place of the data section.
pub record LeadsNowhere (db : Database) (leaf : List Bool) : Type 0 where
  pub past : db.metadata.node_count < walk (tree_of db) leaf
  pub nowhere : (offset : ℕ) → ¬ HasValueAt db leaf offset

-- The leaf is a full address on a node.
abbrev pub StandsOnNode : Database → List Bool → Type 0
StandsOnNode db leaf = walk (tree_of db) leaf < db.metadata.node_count

-- The leaf has a value whose header can't be read.
pub record HasUnreadableValue (db : Database) (leaf : List Bool) : Type 0 where
  pub offset : ℕ
  pub value : HasValueAt db leaf offset
  pub unreadable : IsUnreadable (data_section db) offset

-- A leaf is faulty that leads to no place of the data section, or is on a node; and, where empty values are left out,
-- one whose value's header can't be read.
abbrev pub IsFaulty : Database → WithinOptions → List Bool → Type 0
IsFaulty db options leaf =
    LeadsNowhere db leaf ⊎ (StandsOnNode db leaf ⊎ ((skips_empty options ≡ true) × HasUnreadableValue db leaf))

-- Where empty values are left out, the value at the offset is none.
abbrev pub IsKept : Database → WithinOptions → ℕ → Type 0
IsKept db options offset = skips_empty options ≡ true → ¬ IsEmptyContainer (data_section db) offset

-- A faulty leaf is listed with a fault, one without data where such are asked for, and any other with the
-- offset of its value, unless it is empty and such are left out.
abbrev pub IsListedWith : Database → WithinOptions → List Bool → TreeRecord → Type 0
IsListedWith db options leaf (Node number) = ⊥
IsListedWith db options leaf Invalid = IsFaulty db options leaf
IsListedWith db options leaf Empty = (walk (tree_of db) leaf ≡ db.metadata.node_count) × (includes_without_data options ≡ true)
IsListedWith db options leaf (Data offset) = HasValueAt db leaf offset × (¬ IsFaulty db options leaf × IsKept db options offset)

-- no beginning of the leaf, and not the leaf itself, is an alias
abbrev pub IsClear : Database → List Bool → Type 0
IsClear db leaf = (beginning : List Bool) → IsPrefix beginning leaf → ¬ IsAlias db beginning

-- The leaf is listed for a range of bits, with that finding: it begins with the range's bits, or they
-- begin with it; and it is below no alias, unless aliased networks are asked for.
pub record IsListed (db : Database) (options : WithinOptions) (range leaf : List Bool) (finding : TreeRecord) : Type 0 where
  pub is_leaf : IsLeaf db leaf
  pub in_range : IsPrefix range leaf ⊎ IsPrefix leaf range
  pub clear : (includes_aliased options ≡ true) ⊎ IsClear db leaf
  pub found : IsListedWith db options leaf finding

-- the first bit at which the leaves differ is 0 in the one and 1 in the other
pub record ComesBefore (a b : List Bool) : Type 0 where
  pub shared : List Bool
  pub rest_of_a : List Bool
  pub rest_of_b : List Bool
  pub low : a ≡ shared ++ false ∷ rest_of_a
  pub high : b ≡ shared ++ true ∷ rest_of_b

-- each leaf comes before all that follow it, and so is there once
abbrev pub Ascends : List (List Bool) → Type 0
Ascends [] = Unit {0}
Ascends (leaf ∷ leaves) = ((other : List Bool) → Contains leaves other → ComesBefore leaf other) × Ascends leaves

-- the leaves of a list
abbrev pub leaves_of : List Listed → List (List Bool)
leaves_of list = map (λ m. m.leaf) list

-- The list of a range: exactly the leaves that are listed for it, ascending, each once.
pub record IsListing (db : Database) (options : WithinOptions) (range : List Bool) (list : List Listed) : Type 0 where
  pub ascends : Ascends (leaves_of list)
  pub exact : (m : Listed) → Contains list m ↔ IsListed db options range m.leaf m.finding

-- ---- the list as a function

-- the bits are an alias, below which nothing is listed
abbrev pub is_hidden : Database → WithinOptions → List Bool → Bool
is_hidden db options bits = not (includes_aliased options) && is_alias db bits

-- where empty values are left out
abbrev pub finding_unless_empty : Option Bool → ℕ → Option TreeRecord
finding_unless_empty None offset = Some Invalid
finding_unless_empty (Some empty) offset = if empty then None else Some (Data offset)

-- what a leaf is listed with, by where its number leads
abbrev pub finding_of : Database → WithinOptions → TreeRecord → Option TreeRecord
finding_of db options (Data offset) =
    if skips_empty options then finding_unless_empty (empty_at (data_section db) offset) offset else Some (Data offset)
finding_of db options (Node number) = Some Invalid
finding_of db options Empty = if includes_without_data options then Some Empty else None
finding_of db options Invalid = Some Invalid

-- what a leaf is listed with that leads to this number, if it is listed
unfoldable pub finding_at : Database → WithinOptions → ℕ → Option TreeRecord
finding_at db options number = finding_of db options (record_at db number)

abbrev pub list_if : List Bool → Option TreeRecord → List Listed
list_if leaf None = []
list_if leaf (Some finding) = listed_with leaf finding ∷ []

-- the list of a leaf alone
abbrev pub listed_at : Database → WithinOptions → List Bool → List Listed
listed_at db options leaf = list_if leaf (finding_at db options (walk (tree_of db) leaf))

-- the leaves that begin with these bits, where this many bits are left to a full address
unfoldable pub listed_below : Database → WithinOptions → ℕ → List Bool → List Listed
listed_below db options zero bits = if is_hidden db options bits then [] else listed_at db options bits
listed_below db options (suc left) bits =
    if is_hidden db options bits then []
    else (if nat_lt (walk (tree_of db) bits) db.metadata.node_count
    then listed_below db options left (bits ++ false ∷ []) ++ listed_below db options left (bits ++ true ∷ [])
    else listed_at db options bits)

-- the same, of the leaves that go on along a range as far as it has bits
unfoldable pub listed_along : Database → WithinOptions → List Bool → ℕ → List Bool → List Listed
listed_along db options [] left bits = listed_below db options left bits
listed_along db options (x ∷ range) zero bits = listed_below db options zero bits
listed_along db options (x ∷ range) (suc left) bits =
    if is_hidden db options bits then []
    else (if nat_lt (walk (tree_of db) bits) db.metadata.node_count
    then listed_along db options range left (bits ++ x ∷ [])
    else listed_at db options bits)

-- the list of a range
abbrev pub listed : Database → WithinOptions → List Bool → List Listed
listed db options range = listed_along db options range (width db) []
