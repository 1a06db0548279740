-- The positions of a tree that a list has still to go to.
use Rattle.std.specs.Prelude.{◌≡◌, ℕ, ◌+◌, ◌-◌, ◌≤◌, ◌<◌, ◌^◌, Bool, List, [], ◌∷◌, ◌++◌, take, not, ◌&&◌, ◌==◌, nat_le, slice_index_or, length}
use Rattle.mmdb_net.specs.Bits.{bits_of, number_of}
use Rattle.mmdb_reader.specs.declared.options.WithinOptions.{WithinOptions}
use Rattle.mmdb_reader.specs.declared.positions.Position.{Position}
use Rattle.mmdb_reader.specs.File.{Database, tree_of, width}
use Rattle.mmdb_tree.specs.Tree.{walk}
use Rattle.mmdb_reader.specs.Alias.{is_alias_at}
use Rattle.mmdb_reader.specs.Listing.{Listed, listed_below}
use Rattle.mmdb_reader.specs.Options.{includes_aliased}

-- the bits that lead to a position
abbrev pub bits_to : Database → Position → List Bool
bits_to db p = take p.prefix (bits_of (width db) p.address)

-- The position is where its bits lead, and its address is those bits with zeros after them.
pub record IsAt (db : Database) (p : Position) : Type 0 where
  pub within : p.prefix ≤ width db
  pub reached : p.number ≡ walk (tree_of db) (bits_to db p)
  pub filled : p.address ≡ number_of (width db) (bits_to db p)

-- the leaves that are listed below a position
abbrev pub listed_from : Database → WithinOptions → Position → List Listed
listed_from db options p = listed_below db options (width db - p.prefix) (bits_to db p)

-- the leaves below the positions, those of the last position first
unfoldable pub listed_of_stack : Database → WithinOptions → List Position → List Listed
listed_of_stack db options [] = []
listed_of_stack db options (p ∷ below) = listed_of_stack db options below ++ listed_from db options p

-- the position is where its bits lead, and there is room for what it can grow into
pub record IsPlaced (db : Database) (capacity index : ℕ) (p : Position) : Type 0 where
  pub at : IsAt db p
  pub room : index < capacity
  pub room_below : p.number < db.metadata.node_count → index + (width db - p.prefix) < capacity

-- each position is placed
abbrev pub IsStack : Database → ℕ → List Position → Type 0
IsStack db capacity stack =
    (index : ℕ) (d : Position) → index < length stack → IsPlaced db capacity index (slice_index_or stack index d)

-- the position is this node, reached by bits that are an address of 2^32 or more
abbrev pub is_high_at : Position → ℕ → Bool
is_high_at p number = p.number == number && nat_le (2 ^ 32) p.address

-- of the nodes that a walk meets exactly the one with this number, reached by such bits, is an alias that hides
-- what lies below it
abbrev pub HidesAliases : Database → WithinOptions → ℕ → Type 0
HidesAliases db options hidden =
    (p : Position) → p.number < db.metadata.node_count
    → is_high_at p hidden ≡ (not (includes_aliased options) && is_alias_at db p.number p.address)
