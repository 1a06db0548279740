-- Tables of the first sixteen bits of addresses.
use Rattle.std.specs.Prelude.{◌≡◌, ℕ, ◌<◌, ◌≤◌, List, [], length, slice_index}
use Rattle.mmdb_net.specs.Bits.{bits_of}
use Rattle.mmdb_tree.specs.declared.table.Table.{Table}
use Rattle.mmdb_tree.specs.Tree.{SearchTree}
use Rattle.mmdb_tree.specs.Descents.{Descends}

-- For each string of sixteen bits, at the number that it gives: where the walk from `start` along it ends, and
-- after how many bits.
pub record IsFull (tree : SearchTree) (start : ℕ) (numbers depths : List ℕ) : Type 0 where
  pub numbers_size : length numbers ≡ 65536
  pub depths_size : length depths ≡ 65536
  pub each : (i : ℕ) → i < 65536 → Descends tree start (bits_of 16 i) (slice_index depths i) (slice_index numbers i)

-- The table of the walks from `start`: full where that is a node, and else empty.
pub record IsTable (tree : SearchTree) (start : ℕ) (table : Table) : Type 0 where
  pub on_node : start < tree.node_count → IsFull tree start table.numbers.items table.depths.items
  pub off_nodes : tree.node_count ≤ start → (table.numbers.items ≡ []) × (table.depths.items ≡ [])
