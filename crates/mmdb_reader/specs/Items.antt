-- What contracts see of an item of a list.
use Rattle.std.specs.Prelude.{◌≡◌, ℕ, Bool, List, map, Option, Some, None, Result, Ok, Err, IfSome, IfOk}
use Rattle.std.specs.declared.convert.AsSlice.{Ghosts}
use Rattle.mmdb_format.specs.Error.{Kind, OfDatabase, kind_of}
use Rattle.mmdb_format.specs.declared.error.MaxMindDbError.{MaxMindDbError}
use Rattle.mmdb_reader.specs.declared.lookup_result.LookupResult.{LookupResult}
use Rattle.mmdb_reader.specs.File.{Database}
use Rattle.mmdb_reader.specs.Found.{database_asked, leaf_of, offset_found, shown_as_ipv4}
use Rattle.mmdb_tree.specs.declared.record.TreeRecord.{TreeRecord}
use Rattle.mmdb_tree.specs.declared.record.TreeRecord.TheVariants.{Node, Empty, Data, Invalid}
use Rattle.mmdb_reader.specs.Listing.{Listed}
use Rattle.mmdb_reader.specs.ShownLeaf.{is_leaf_shown_as_ipv4}

-- an error of some kind, or a leaf, with the offset of its value, if it has one, and whether it is shown as
-- an IPv4 network
pub data Item : Type 0 where
  Failure : Kind → Item
  Network : List Bool → Option ℕ → Bool → Item

-- how a leaf is handed out: a faulty one as an error that says so of the database
abbrev pub item_of_leaf : Database → List Bool → TreeRecord → Item
item_of_leaf db leaf Invalid = Failure OfDatabase
item_of_leaf db leaf (Node number) = Failure OfDatabase
item_of_leaf db leaf Empty = Network leaf None (is_leaf_shown_as_ipv4 db leaf)
item_of_leaf db leaf (Data offset) = Network leaf (Some offset) (is_leaf_shown_as_ipv4 db leaf)

abbrev pub item_of : Database → Listed → Item
item_of db m = item_of_leaf db m.leaf m.finding

-- the items of a list
abbrev pub items_of : Database → List Listed → List Item
items_of db list = map (item_of db) list

module _ {S : Type 0} {G : Ghosts S ℕ} where
  -- what an item shows
  abbrev pub item_view : Result (LookupResult S G) MaxMindDbError → Item
  item_view (Ok r) = Network (leaf_of r) (offset_found r) (shown_as_ipv4 r)
  item_view (Err e) = Failure (kind_of e)

  -- an item that is no error is of this database
  abbrev pub IsItemOf : Database → Option (Result (LookupResult S G) MaxMindDbError) → Type 0
  IsItemOf db item = IfSome item (λ i. IfOk i (λ r. database_asked r ≡ db))
