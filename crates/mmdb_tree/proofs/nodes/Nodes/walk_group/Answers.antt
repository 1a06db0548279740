use Rattle.std.proofs.Common.{arith}
use Rattle.mmdb_tree.proofs.GroupLemmas.{AllWalkOn-then, AllWalkOn-words}
use Rattle.mmdb_tree.proofs.nodes.Nodes.walk_group.Goals as goal

pub loop-taken-preserved : goal.loop-taken-preserved
loop-taken-preserved c =
    let few = c.loop-taken.invariant.few in
    let kept = c.step_words-count.ensures.kept in
    record {
      few = omega (arith, few, kept);
      goes = AllWalkOn-then _ _ c.args.leaves.now c.loop-taken.leaves c.step_words-count.new.leaves c.loop-taken.invariant.goes
          (AllWalkOn-words _ c.args.addresses.now c.args.words.now _ _ c.requires.words c.step_words-count.ensures.walks);
    }
