-- Descents in the tree that nodes are of ("Search Lookup Algorithm" of the MaxMind DB File Format Specification 2.0).
use Rattle.std.specs.Prelude.{◌≡◌, ℕ, ◌-◌, Bool, List}
use Rattle.mmdb_tree.specs.declared.nodes.Nodes.{Nodes}
use Rattle.mmdb_tree.specs.declared.nodes.Descent.{Descent}
use Rattle.mmdb_tree.specs.Tree.{SearchTree, search_tree}
use Rattle.mmdb_tree.specs.Descents.{Descends}
use Rattle.mmdb_tree.specs.Table.{IsFull}

-- the tree that nodes are of
abbrev pub tree_in : Nodes → SearchTree
tree_in nodes = search_tree nodes.bytes.now nodes.node_count nodes.record_size

-- The walk along these bits ends as the descent says.
abbrev pub EndsAt : SearchTree → ℕ → List Bool → Descent → Type 0
EndsAt tree start bits descent = Descends tree start bits descent.taken descent.number

-- The same of each walk whose first sixteen bits lead where the table says.
abbrev pub EndsByTable : SearchTree → List ℕ → List ℕ → List Bool → Descent → Type 0
EndsByTable tree numbers depths bits descent = (start : ℕ) → IsFull tree start numbers depths → EndsAt tree start bits descent

-- It read a node for each bit that it took after the sixteenth.
abbrev pub ReadsByTable : SearchTree → List ℕ → List ℕ → Descent → Type 0
ReadsByTable tree numbers depths descent = (start : ℕ) → IsFull tree start numbers depths → descent.read ≡ descent.taken - 16
