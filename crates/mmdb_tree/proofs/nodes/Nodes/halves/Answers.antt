use Rattle.std.proofs.Common.{true, false, ◌∙◌}
use Rattle.mmdb_tree.specs.Nodes.{tree_in}
use Rattle.mmdb_tree.proofs.LevelLemmas.{Follows-node}
use Rattle.mmdb_tree.proofs.nodes.Nodes.halves.Goals as goal

pub returns-clause-lower : goal.returns-clause-lower
returns-clause-lower c = Follows-node (tree_in c.args.self.now) c.args.taken false c.args.entry c.new-lower.result c.if-node-self.false (c.new-lower.ensures.0 ∙ c.left.ensures.value) c.new-lower.ensures.1

pub returns-clause-upper : goal.returns-clause-upper
returns-clause-upper c = Follows-node (tree_in c.args.self.now) c.args.taken true c.args.entry c.new-upper.result c.if-node-self.false (c.new-upper.ensures.0 ∙ c.right.ensures.value) c.new-upper.ensures.1
