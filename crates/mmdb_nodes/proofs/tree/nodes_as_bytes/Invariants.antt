use Rattle.mmdb_nodes.specs.Trees.{bits_in}
use Rattle.mmdb_nodes.proofs.ByteLemmas.{HasNodes}
use Rattle.mmdb_nodes.proofs.tree.nodes_as_bytes.Given as goal

-- the bytes have the nodes so far
abbrev pub invariant-loop-node : goal.invariant-loop-node
invariant-loop-node l = HasNodes (bits_in l.size) l.node-index l.nodes l.bytes.items
