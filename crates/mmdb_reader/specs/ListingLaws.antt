-- Laws of lists of networks.
use Rattle.std.specs.Prelude.{◌≡◌, ◌↔◌, ⊤, Bool, true, false, List, []}
use Rattle.std.specs.List.{Contains}
use Rattle.std.specs.declared.net.ip_addr.IpAddr.{IpAddr}
use Rattle.mmdb_net.specs.Bits.{IsPrefix}
use Rattle.mmdb_reader.specs.declared.options.WithinOptions.{WithinOptions}
use Rattle.mmdb_reader.specs.File.{Database}
use Rattle.mmdb_reader.specs.Leaves.{IsLeaf}
use Rattle.mmdb_tree.specs.declared.record.TreeRecord.{TreeRecord}
use Rattle.mmdb_tree.specs.declared.record.TreeRecord.TheVariants.{Node, Empty, Data, Invalid}
use Rattle.mmdb_reader.specs.Lookup.{Answers, CanAsk, address_bits}
use Rattle.mmdb_reader.specs.Listing.{Listed, IsListing, IsListed, Ascends, leaves_of, listed}
use Rattle.mmdb_reader.specs.Options.{includes_aliased, includes_without_data, skips_empty}

-- The list of a range, as a function, has exactly the leaves that are listed for it, ascending.
abbrev pub RangeWalkLists : Type 0
RangeWalkLists = (db : Database) (options : WithinOptions) (range : List Bool) → IsListing db options range (listed db options range)

-- A range has one list.
abbrev pub ListingsAreUnique : Type 0
ListingsAreUnique =
    (db : Database) (options : WithinOptions) (range : List Bool) (a b : List Listed) → IsListing db options range a → IsListing db options range b → a ≡ b

-- every leaf, ascending, each once
pub record AreAllLeaves (db : Database) (leaves : List (List Bool)) : Type 0 where
  pub ascends : Ascends leaves
  pub exact : (leaf : List Bool) → Contains leaves leaf ↔ IsLeaf db leaf

-- Over the whole space, aliased networks and those without data included and empty values kept, the list
-- is all leaves.
abbrev pub WholeWalkListsAll : Type 0
WholeWalkListsAll =
    (db : Database) (options : WithinOptions) → includes_aliased options ≡ true → includes_without_data options ≡ true → skips_empty options ≡ false → AreAllLeaves db (leaves_of (listed db options []))

-- the answer of a lookup is no data, or that offset; of a fault nothing is said
abbrev pub AgreesWith : Database → IpAddr → List Bool → TreeRecord → Type 0
AgreesWith db address leaf Invalid = ⊤
AgreesWith db address leaf (Node number) = ⊤
AgreesWith db address leaf Empty = Answers db address leaf Empty
AgreesWith db address leaf (Data offset) = Answers db address leaf (Data offset)

-- What is listed of a leaf agrees with the answer for each address that begins with it.
abbrev pub ListedAgrees : Type 0
ListedAgrees =
    (db : Database) (options : WithinOptions) (range leaf : List Bool) (finding : TreeRecord) (address : IpAddr) → IsListed db options range leaf finding → CanAsk db address → IsPrefix leaf (address_bits db address) → AgreesWith db address leaf finding
