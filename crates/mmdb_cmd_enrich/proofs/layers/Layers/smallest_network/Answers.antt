use Rattle.std.proofs.Common.{◌≡◌, ◌+◌, [], ◌∷◌, drop, sym, ap, ◌∙◌, subst, arith}
use Rattle.std.proofs.lemmas.List.{drop_more, drop_all}
use Rattle.mmdb_cmd_enrich.proofs.NetworkLaws.{SmallestWay, one_smaller, smallest_done}
use Rattle.mmdb_cmd_enrich.proofs.layers.Layers.smallest_network.Goals as goal

pub loop-answer-preserved : goal.loop-answer-preserved
loop-answer-preserved g c =
    let answers = c.args.self.now.answers.items in
    let items = c.deref-answer-items.result.now in
    let i = c.loop-answer.answer-index in
    let answer = c.answer-item.result in
    let at : drop i items ≡ answer ∷ drop (i + 1) items = drop_more items i answer (omega arith) ∙ ap (λ y. y ∷ drop (i + 1) items) (sym c.answer-item.is) in
    let here : drop i answers ≡ answer ∷ drop (i + 1) answers = subst (λ l. drop i l ≡ answer ∷ drop (i + 1) l) c.deref-answer-items.ensures.value at in
    let way = subst (λ left. SmallestWay answers left c.loop-answer.smallest) here c.loop-answer.invariant in
    one_smaller answers (drop (i + 1) answers) answer c.loop-answer.smallest c.smaller-smallest.result c.network_of.result way c.network_of.ensures c.smaller-smallest.ensures

pub returns : goal.returns
returns g c =
    let answers = c.args.self.now.answers.items in
    let items = c.deref-answer-items.result.now in
    let i = c.loop-answer.answer-index in
    let none : drop i answers ≡ [] = subst (λ l. drop i l ≡ []) c.deref-answer-items.ensures.value (drop_all i items (omega arith)) in
    smallest_done answers c.loop-answer.smallest (subst (λ left. SmallestWay answers left c.loop-answer.smallest) none c.loop-answer.invariant)
