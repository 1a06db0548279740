use Rattle.std.proofs.Common.{◌<◌, ap, sym, ◌∙◌, arith}
use Rattle.mmdb_tree.specs.Tree.{child}
use Rattle.mmdb_net.proofs.BitLaws.{length-bits_of, get_or-bits_of}
use Rattle.mmdb_tree.proofs.WalkLemmas.{Walks-start, Walks-more, Descends-all, step-child}
use Rattle.mmdb_tree.proofs.nodes.Nodes.descend.Goals as goal

pub loop-taken-init : goal.loop-taken-init
loop-taken-init c = (Walks-start _ _ _, λ small. small)

pub loop-taken-preserved : goal.loop-taken-preserved
loop-taken-preserved c =
    let width = c.args.width in
    let address = c.args.address in
    let more : c.loop-taken.taken < width = omega arith in
    let len = length-bits_of width address in (
      Walks-more _ _ _ _ _ _ c.loop-taken.invariant.0 (omega arith) c.if-number-self.false
          (c.child-number.ensures.value ∙ step-child _ _ _ c.if-number-self.false ∙ ap (child c.args.self.now.bytes.now c.args.self.now.record_size c.loop-taken.number) (sym (get_or-bits_of width address c.loop-taken.taken _ more))),
      λ _. c.child-number.ensures.bound,
    )

pub returns-clause-reached : goal.returns-clause-reached
returns-clause-reached c =
    Descends-all _ _ _ _ _ _ c.loop-taken.invariant.0 (omega arith) (length-bits_of c.args.width c.args.address)

pub returns-then-number-self-clause-reached : goal.returns-then-number-self-clause-reached
returns-then-number-self-clause-reached c = record { walks = c.loop-taken.invariant.0; ends = λ _. c.if-number-self.true }
