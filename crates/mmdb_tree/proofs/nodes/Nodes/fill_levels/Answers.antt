use Rattle.std.proofs.Common.{arith, ◌∙◌}
use Rattle.std.proofs.lemmas.List.{length-set}
use Rattle.mmdb_tree.specs.Nodes.{tree_in}
use Rattle.mmdb_tree.proofs.LevelLemmas.{HasLevel-first}
use Rattle.mmdb_tree.proofs.nodes.Nodes.fill_levels.Goals as goal

pub loop-taken-init : goal.loop-taken-init
loop-taken-init c =
    let numbers = c.requires.numbers in
    let depths = c.requires.depths in
    record {
      level = HasLevel-first (tree_in c.args.self.now) c.args.start c.args.numbers.now c.args.depths.now (omega (arith, numbers)) (omega (arith, depths));
      numbers_size = length-set c.args.numbers.now 0 _ ∙ numbers;
      depths_size = length-set c.args.depths.now 0 _ ∙ depths;
    }

pub loop-taken-preserved : goal.loop-taken-preserved
loop-taken-preserved c = record {
  level = c.spread_level.ensures.level c.args.start c.loop-taken.invariant.level;
  numbers_size = c.spread_level.ensures.numbers;
  depths_size = c.spread_level.ensures.depths;
}
