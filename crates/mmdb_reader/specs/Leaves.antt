-- The leaves of a search tree ("Binary Search Tree Section" of the MaxMind DB File Format Specification 2.0).
use Rattle.std.specs.Prelude.{◌≡◌, ◌≤◌, ◌<◌, ◌⊎◌, Bool, List, ◌∷◌, ◌++◌, length}
use Rattle.mmdb_reader.specs.File.{Database, tree_of, width}
use Rattle.mmdb_tree.specs.Tree.{walk}

-- A shortest bit string whose walk leaves the nodes, or a full address whose walk is still on one: each
-- proper beginning walks to a node, and the whole to none, or it has all bits.
pub record IsLeaf (db : Database) (leaf : List Bool) : Type 0 where
  pub inner : (c : List Bool) (x : Bool) (d : List Bool) → leaf ≡ c ++ x ∷ d → walk (tree_of db) c < db.metadata.node_count
  pub short : length leaf ≤ width db
  pub ended : (db.metadata.node_count ≤ walk (tree_of db) leaf) ⊎ (length leaf ≡ width db)
