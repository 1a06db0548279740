use Rattle.std.proofs.Common.{◌≡◌, arith, sym}
use Rattle.mmdb_tree.proofs.GroupLemmas.{Walks-step}
use Rattle.mmdb_tree.proofs.nodes.Nodes.step_word.Goals as goal

pub returns : goal.returns
returns c bits b start w =
    let at : c.args.leaf.taken ≡ c.args.taken = omega (arith, c.if-leaf-taken.false) in
    let here = b c.args.taken c.requires in
    Walks-step _ start bits c.args.taken _ _ _ _ at c.if-number-self.false here.0 (sym here.1) c.child.ensures.value w
