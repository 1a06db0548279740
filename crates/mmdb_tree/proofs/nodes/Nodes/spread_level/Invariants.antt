use Rattle.std.proofs.Common.{◌^◌, ◌≤◌}
use Rattle.mmdb_tree.specs.Nodes.{tree_in}
use Rattle.mmdb_tree.proofs.LevelLemmas.{IsSpread}
use Rattle.mmdb_tree.proofs.nodes.Nodes.spread_level.Given as goal

abbrev pub invariant-loop-left : goal.invariant-loop-left
invariant-loop-left l = record {
  spread : IsSpread (tree_in l.self) l.taken l.left l.fn.numbers l.fn.depths l.numbers l.depths;
  few : l.left ≤ 2 ^ l.taken;
}

abbrev pub decreases-loop-left : goal.decreases-loop-left
decreases-loop-left l = l.left
