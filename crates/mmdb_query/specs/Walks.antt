-- What walks hand out.
use Rattle.std.specs.Prelude.{◌≡◌, ℕ, List, [], ◌∷◌, ◌++◌, map, Option, Some, None, Result, Ok, Err}
use Rattle.std.specs.declared.convert.AsSlice.{Ghosts}
use Rattle.mmdb_format.specs.Error.{MemoryApart}
use Rattle.mmdb_format.specs.declared.error.MaxMindDbError.{MaxMindDbError}
use Rattle.mmdb_reader.specs.File.{Database, data_section}
use Rattle.mmdb_reader.specs.Items.{Item as Listed}
use Rattle.mmdb_reader.specs.Items.Item.{Failure, Network}
use Rattle.mmdb_reader.specs.Enumeration.{database_walked, items_to_come}
use Rattle.mmdb_reader.specs.declared.within.Within.{Within}
use Rattle.mmdb_query.specs.Had.{Had, shown_bits}

-- a network with what databases have for it, or one that can't be read
pub data Item : Type 0 where
  Found : Had → Item
  Unread : Item

-- of a walk these items come, and then what comes of a later one
abbrev pub Goes : {W : Type 0} → (W → List Item → Type 0) → W → List Item → W → Type 0
Goes comes old items new = (rest : List Item) → comes new rest → comes old (items ++ rest)

-- one step: the next item; or nothing more comes. Where memory is out nothing is said.
abbrev pub IsStep : {W A : Type 0} → (W → List Item → Type 0) → (A → Had) → W → Option (Result A MaxMindDbError) → W → Type 0
IsStep comes had old None new = comes old []
IsStep comes had old (Some (Ok answer)) new = Goes comes old (Found (had answer) ∷ []) new
IsStep comes had old (Some (Err e)) new = MemoryApart e (Goes comes old (Unread ∷ []) new)

-- ---- one database

-- an item of its list
abbrev pub item_listed : Database → Listed → Item
item_listed db (Failure kind) = Unread
item_listed db (Network leaf offset as_ipv4) =
    Found (record { bits = shown_bits db leaf as_ipv4; as_ipv4 = as_ipv4; offsets = offset ∷ [] })

module _ {S : Type 0} {G : Ghosts S ℕ} where
  abbrev pub section_walked : Within S G → List (List ℕ)
  section_walked w = data_section (database_walked w) ∷ []

  -- exactly the items that are listed come
  abbrev pub comes_alone : Within S G → List Item → Type 0
  comes_alone w items = items ≡ map (item_listed (database_walked w)) (items_to_come w)
