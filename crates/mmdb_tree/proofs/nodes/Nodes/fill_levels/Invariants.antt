use Rattle.std.proofs.Common.{◌≡◌, length}
use Rattle.mmdb_tree.specs.Nodes.{tree_in}
use Rattle.mmdb_tree.specs.Working.{HasLevel}
use Rattle.mmdb_tree.proofs.nodes.Nodes.fill_levels.Given as goal

abbrev pub invariant-loop-taken : goal.invariant-loop-taken
invariant-loop-taken l = record {
  level : HasLevel (tree_in l.self) l.start l.taken l.numbers l.depths;
  numbers_size : length l.numbers ≡ 65536;
  depths_size : length l.depths ≡ 65536;
}
