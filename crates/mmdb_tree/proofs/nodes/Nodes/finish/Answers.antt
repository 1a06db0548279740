use Rattle.std.proofs.Common.{arith, refl}
use Rattle.mmdb_tree.proofs.GroupLemmas.{Walks-step, Walks-all}
use Rattle.mmdb_tree.proofs.nodes.Nodes.finish.Goals as goal

pub loop-taken-preserved : goal.loop-taken-preserved
loop-taken-preserved c start w =
    Walks-step _ start _ c.loop-taken.taken _ _ _ _ refl c.if-number-self.false c.in-Some.ensures.0 c.in-Some.ensures.1 c.child-number.ensures.value (c.loop-taken.invariant start w)

pub returns-then-number-self : goal.returns-then-number-self
returns-then-number-self c start w = record { walks = c.loop-taken.invariant start w; ends = λ _. c.if-number-self.true }

pub returns : goal.returns
returns c start w = Walks-all _ start c.args.address c.loop-taken.taken _ (omega arith) (c.loop-taken.invariant start w)
