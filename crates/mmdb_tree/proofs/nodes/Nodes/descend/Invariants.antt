use Rattle.std.proofs.Common.{◌<◌, ◌^◌}
use Rattle.mmdb_tree.specs.Tree.{search_tree}
use Rattle.mmdb_tree.specs.Descents.{Walks}
use Rattle.mmdb_net.specs.Bits.{bits_of}
use Rattle.mmdb_tree.proofs.nodes.Nodes.descend.Given as goal

abbrev pub invariant-loop-taken : goal.invariant-loop-taken
invariant-loop-taken l =
    let tree = search_tree l.self.bytes.now l.self.node_count l.self.record_size in Walks tree l.start (bits_of l.width l.address) l.taken l.number × (l.start < 2 ^ 32 → l.number < 2 ^ 32)
