use Rattle.std.proofs.Common.{◌≡◌, ◌≤◌, [], ◌∷◌, ◌++◌, length}
use Rattle.std.specs.Vec.{vec_capacity}
use Rattle.mmdb_offsets.specs.OffsetSet.{holds}
use Rattle.mmdb_tree.specs.Walked.{walked_by}
use Rattle.mmdb_tree.proofs.Sweeps.{IsSwept, AreNodes}
use Rattle.mmdb_tree.proofs.walked.Walker.sweep_nodes.Given as goal

abbrev pub invariant-loop-nodes : goal.invariant-loop-nodes
invariant-loop-nodes l = record {
  are : AreNodes (walked_by l.self) (l.stack.items ++ l.point ∷ []);
  kept : vec_capacity l.stack ≡ vec_capacity l.initial.stack;
  room : l.self.width ≤ vec_capacity l.stack;
  set : length l.set ≡ l.self.data_len;
  swept : IsSwept (walked_by l.self) (l.stack.items ++ l.point ∷ []) l.nodes (holds l.set);
}
