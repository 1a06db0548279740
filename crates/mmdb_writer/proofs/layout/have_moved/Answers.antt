use Rattle.std.proofs.Common.{◌≡◌, ◌+◌, ◌++◌, [], ◌∷◌, take, get_or, sym, subst}
use Rattle.std.specs.List.{AllByRecursion}
use Rattle.std.proofs.lemmas.List.{take_more, take_all}
use Rattle.mmdb_writer.specs.Layout.{HasMoved}
use Rattle.mmdb_writer.proofs.LayoutLemmas.{all_more, some_moves}
use Rattle.mmdb_writer.proofs.layout.have_moved.Goals as goal

pub loop-offset-preserved : goal.loop-offset-preserved
loop-offset-preserved c =
    let xs = c.args.offsets.now in
    let i = c.loop-offset.offset-index in
    let at : take (i + 1) xs ≡ take i xs ++ get_or xs i 0 ∷ [] = take_more xs i 0 c.loop-offset-test.true in
    subst (AllByRecursion (HasMoved c.args.moved.now)) (sym at)
    (all_more (HasMoved c.args.moved.now) (take i xs) (get_or xs i 0) c.loop-offset.invariant (some_moves c.args.moved.now (get_or xs i 0) c.offset.result c.offset.ensures.moves c.if-is_none.ensures))

pub returns : goal.returns
returns c = λ h. subst (AllByRecursion (HasMoved c.args.moved.now)) (take_all c.loop-offset.offset-index c.args.offsets.now c.loop-offset-test.false) c.loop-offset.invariant
