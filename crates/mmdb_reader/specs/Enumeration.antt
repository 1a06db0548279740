-- What an enumeration has still to give.
use Rattle.std.specs.Prelude.{◌≡◌, ℕ, Bool, List, Option, Result}
use Rattle.std.specs.Iterator.{YieldsFirstBy}
use Rattle.std.specs.Vec.{vec_capacity}
use Rattle.std.specs.declared.convert.AsSlice.{Ghosts}
use Rattle.mmdb_format.specs.declared.error.MaxMindDbError.{MaxMindDbError}
use Rattle.mmdb_reader.specs.declared.lookup_result.LookupResult.{LookupResult}
use Rattle.mmdb_reader.specs.declared.options.WithinOptions.{WithinOptions}
use Rattle.mmdb_reader.specs.declared.within.Within.{Within}
use Rattle.mmdb_reader.specs.File.{Database}
use Rattle.mmdb_reader.specs.Items.{Item, items_of, item_view, IsItemOf}
use Rattle.mmdb_reader.specs.Listing.{Listed, IsListing}
use Rattle.mmdb_reader.specs.Positions.{listed_of_stack}

module _ {S : Type 0} {G : Ghosts S ℕ} where
  -- the database that is walked
  abbrev pub database_walked : Within S G → Database
  database_walked w = w.walker.reader.now

  -- how many positions an enumeration has memory for
  abbrev pub positions_reserved : Within S G → ℕ
  positions_reserved w = vec_capacity w.stack

  -- the items that an enumeration has still to give
  unfoldable pub items_to_come : Within S G → List Item
  items_to_come w = items_of w.walker.reader.now (listed_of_stack w.walker.reader.now w.options w.stack.items)

  -- one step: the first of the items to come, of the same database; the positions reserved stay all that there are
  abbrev pub YieldsItem : Within S G → Option (Result (LookupResult S G) MaxMindDbError) → Within S G → Type 0
  YieldsItem s r t =
      YieldsFirstBy item_view items_to_come s r t
      × ((database_walked t ≡ database_walked s) × IsItemOf (database_walked s) r × (positions_reserved t ≡ positions_reserved s))

  -- What comes are the items of the list of a range.
  pub record ListsRange (w : Within S G) (options : WithinOptions) (range : List Bool) : Type 0 where
    pub list : List Listed
    pub is_listing : IsListing (database_walked w) options range list
    pub comes : items_to_come w ≡ items_of (database_walked w) list
