use Rattle.std.proofs.Common.{◌≤◌}
use Rattle.mmdb_tree.specs.Tree.{search_tree}
use Rattle.mmdb_tree.specs.Working.{AllWalkOn, IsBitsOf}
use Rattle.mmdb_tree.proofs.nodes.Nodes.walk_group.Given as goal

abbrev pub invariant-loop-taken : goal.invariant-loop-taken
invariant-loop-taken l =
    let tree = search_tree l.self.bytes.now l.self.node_count l.self.record_size in
    record {
      few : l.count ≤ 64;
      goes : AllWalkOn (IsBitsOf l.addresses) tree l.fn.leaves l.leaves;
    }
