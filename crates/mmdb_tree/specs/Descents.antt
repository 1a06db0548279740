-- How far a walk along bits has come.
use Rattle.std.specs.Prelude.{◌≡◌, ℕ, ◌<◌, ◌≤◌, Bool, List, length, take}
use Rattle.mmdb_tree.specs.Tree.{SearchTree, walk_from}

-- The walk from `start` along the first `taken` bits met nodes alone before it came to `number`.
pub record Walks (tree : SearchTree) (start : ℕ) (bits : List Bool) (taken number : ℕ) : Type 0 where
  pub within : taken ≤ length bits
  pub reached : number ≡ walk_from tree start (take taken bits)
  pub on_nodes : (k : ℕ) → k < taken → walk_from tree start (take k bits) < tree.node_count

-- It also ended there: it left the nodes, unless all bits are taken.
pub record Descends (tree : SearchTree) (start : ℕ) (bits : List Bool) (taken number : ℕ) : Type 0 where
  pub walks : Walks tree start bits taken number
  pub ends : taken < length bits → tree.node_count ≤ number
