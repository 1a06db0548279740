use Rattle.std.proofs.Common.{◌≡◌, [], drop, refl, sym, subst, arith}
use Rattle.std.proofs.lemmas.List.{drop_all, append-nil}
use Rattle.mmdb_cmd_show.specs.Answers.{AreAnswers}
use Rattle.mmdb_cmd_show.proofs.databases.answers_of.Goals as goal

pub returns : goal.returns
returns c =
    let all = c.args.databases.now in
    let i = c.loop-shown.shown-index in
    let none : drop i all ≡ [] = drop_all i all (omega arith) in
    simp append-nil at (c.loop-shown.invariant [] [] (subst (λ xs. AreAnswers all xs c.args.address [] []) (sym none) refl))
