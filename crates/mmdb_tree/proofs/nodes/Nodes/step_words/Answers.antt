use Rattle.std.proofs.Common.{arith}
use Rattle.mmdb_tree.proofs.GroupLemmas.{AllWalkOn-set}
use Rattle.mmdb_tree.proofs.nodes.Nodes.step_words.Goals as goal
use Rattle.mmdb_tree.proofs.nodes.Nodes.step_words.Goals.{then-number-self, else-number-self}

pub loop-j-preserved : goal.loop-j-preserved
loop-j-preserved c =
    let few = c.loop-j.invariant.few in
    let long = c.loop-j.invariant.long in
    let lane = c.from-i.ensures in
    elim c.if-number-self.branch [
      | then-number-self w ↦ record {
        few = omega (arith, few, w.kept-is);
        long = c.if-number-self.array_long;
        goes = rw w.leaves-is (AllWalkOn-set _ _ c.args.leaves.now c.loop-j.leaves c.from-i.result _ w.step_word.result (omega (arith, long, lane)) c.loop-j.invariant.goes w.step_word.ensures);
      }
      | else-number-self w ↦ record {
        few = omega (arith, few, w.kept-is);
        long = c.if-number-self.array_long;
        goes = rw w.leaves-is c.loop-j.invariant.goes;
      }
    ]
