-- Which files are whole: what a verification accepts.
use Rattle.std.specs.Prelude.{◌≡◌, ◌≢◌, ℕ, ◌+◌, ◌≤◌, ◌<◌, Bool, List, [], ◌∷◌, ◌++◌, length, slice_index}
use Rattle.std.specs.List.{Contains}
use Rattle.mmdb_check.specs.Checking.{CanAdd, CanAddAll, none}
use Rattle.mmdb_costs.specs.Readable.{IsReadable}
use Rattle.mmdb_reader.specs.File.{Database, metadata_section, tree_len, separator, data_section}
use Rattle.mmdb_reader.specs.Leaves.{IsLeaf}
use Rattle.mmdb_reader.specs.Alias.{IsAlias}
use Rattle.mmdb_reader.specs.Listing.{IsClear, IsFaulty}
use Rattle.mmdb_reader.specs.Options.{default_options}
use Rattle.mmdb_tree.specs.Stops.{offsets}
use Rattle.mmdb_reader.specs.Stops.{stops, most_stops}

-- A leaf is walked if no beginning of it is an alias.
pub record IsWalked (db : Database) (leaf : List Bool) : Type 0 where
  pub is_leaf : IsLeaf db leaf
  pub clear : IsClear db leaf

-- An alias is topmost if no shorter beginning of it is one.
pub record IsTopmost (db : Database) (bits : List Bool) : Type 0 where
  pub alias : IsAlias db bits
  pub clear : (c : List Bool) (x : Bool) (d : List Bool) → bits ≡ c ++ x ∷ d → ¬ IsAlias db c

-- No walked leaf leads to no place of the data section, or is on a node.
abbrev pub HasNoFault : Database → Type 0
HasNoFault db = (leaf : List Bool) → IsWalked db leaf → ¬ IsFaulty db default_options leaf

-- No walked leaf is faulty, and there are at most three walked leaves and topmost aliases for each node.
pub record HasWholeTree (db : Database) : Type 0 where
  pub faultless : HasNoFault db
  pub few : length (stops db) ≤ most_stops db

-- The bytes between the tree and the data are zero.
abbrev pub HasZeroSeparator : Database → Type 0
HasZeroSeparator db = (j : ℕ) → j < separator → slice_index db.bytes (tree_len db + j) ≡ 0

-- The metadata name the type of the database and describe it, and they unfold: their texts are UTF-8, they
-- are not too deep, and what they reach costs no more than their section allows.
pub record HasWholeMetadata (db : Database) : Type 0 where
  pub unfolds : CanAdd (metadata_section db.bytes db.marker) none 0
  pub typed : db.metadata.database_type ≢ []
  pub described : db.metadata.description ≢ []

-- Metadata, tree and separator are whole, and the values of all walked leaves unfold in the same way, and
-- cost together no more than the data section allows.
pub record IsWhole (db : Database) : Type 0 where
  pub metadata : HasWholeMetadata db
  pub tree : HasWholeTree db
  pub separated : HasZeroSeparator db
  pub values : CanAddAll (data_section db) none (offsets (stops db))

-- A `Value` can be read at the offset of each value of a walked leaf, within the limits of a reading.
abbrev pub HasReadableRecords : Database → Type 0
HasReadableRecords db = (offset : ℕ) → Contains (offsets (stops db)) offset → IsReadable (data_section db) offset
