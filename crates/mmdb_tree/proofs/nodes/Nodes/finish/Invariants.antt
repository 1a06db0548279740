use Rattle.std.proofs.Common.{ℕ}
use Rattle.mmdb_net.specs.Address.{bits_of_address}
use Rattle.mmdb_tree.specs.Tree.{search_tree}
use Rattle.mmdb_tree.specs.Descents.{Walks}
use Rattle.mmdb_tree.proofs.nodes.Nodes.finish.Given as goal

abbrev pub invariant-loop-taken : goal.invariant-loop-taken
invariant-loop-taken l =
    let tree = search_tree l.self.bytes.now l.self.node_count l.self.record_size in
    (start : ℕ) → Walks tree start (bits_of_address l.address) l.fn.leaf.taken l.fn.leaf.number → Walks tree start (bits_of_address l.address) l.taken l.number
