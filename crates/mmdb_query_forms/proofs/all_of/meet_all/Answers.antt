use Rattle.std.proofs.Common.{◌≡◌, ◌+◌, ◌∷◌, drop, sym, ap, ◌∙◌, arith}
use Rattle.std.proofs.lemmas.List.{drop_more}
use Rattle.mmdb_query_forms.proofs.MetLaws.{not_met}
use Rattle.mmdb_query_forms.proofs.all_of.meet_all.Goals as goal

pub returns-then-not-branch-clause-met : goal.returns-then-not-branch-clause-met
returns-then-not-branch-clause-met g c =
    let conditions = c.args.conditions.now in
    let i = c.loop-condition.condition-index in
    let here : drop i conditions ≡ c.condition-item.result ∷ drop (i + 1) conditions = drop_more conditions i c.condition-item.result (omega arith) ∙ ap (λ y. y ∷ drop (i + 1) conditions) (sym c.condition-item.is) in
    not_met conditions (drop i conditions) (drop (i + 1) conditions) c.condition-item.result (g.R.ReadAlong.outlines c.args.found.now) c.in_ok-holds.field-0 c.loop-condition.invariant here c.in_ok-holds.ensures.met c.if-not-branch.true
