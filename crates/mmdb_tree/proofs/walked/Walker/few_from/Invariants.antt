use Rattle.std.proofs.Common.{◌≤◌, [], ◌∷◌, ◌++◌}
use Rattle.std.specs.Vec.{vec_capacity}
use Rattle.mmdb_tree.specs.Walked.{walked_by}
use Rattle.mmdb_tree.proofs.Sweeps.{AreNodes}
use Rattle.mmdb_tree.proofs.Counts.{IsCounted, count_below}
use Rattle.mmdb_tree.proofs.walked.Walker.few_from.Given as goal

abbrev pub invariant-loop-nodes : goal.invariant-loop-nodes
invariant-loop-nodes l = record {
  are : AreNodes (walked_by l.self) (l.stack.items ++ l.point ∷ []);
  room : l.self.width ≤ vec_capacity l.stack;
  counted : IsCounted (walked_by l.self) (l.stack.items ++ l.point ∷ []) l.nodes (count_below (walked_by l.self) l.fn.start);
}
