-- Items of leaves.
use Rattle.std.proofs.Common.{◌≡◌, List, ◌∷◌, ◌++◌, Bool, Option, Some, None, option_map, sym, ap}
use Rattle.mmdb_reader.specs.File.{Database}
use Rattle.mmdb_tree.specs.declared.record.TreeRecord.{TreeRecord}
use Rattle.mmdb_reader.specs.Listing.{Listed, list_if}
use Rattle.mmdb_reader.specs.Items.{Item, item_of_leaf, items_of}

-- the item of a leaf comes first
pub items-first : (db : Database) (leaf : List Bool) (found : Option TreeRecord) (view : Item) (ms : List Listed) → Some view ≡ option_map (item_of_leaf db leaf) found → items_of db (list_if leaf found ++ ms) ≡ view ∷ items_of db ms
items-first db leaf None view ms e = cc
items-first db leaf (Some finding) view ms e = let same : view ≡ item_of_leaf db leaf finding = cc in ap (λ (i : Item). i ∷ items_of db ms) (sym same)
