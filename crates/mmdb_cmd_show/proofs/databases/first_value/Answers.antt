use Rattle.std.proofs.Common.{◌≡◌, ◌+◌, ◌∷◌, inl, inr, drop, Ok, Err, sym, ap, ◌∙◌, subst, arith}
use Rattle.std.proofs.lemmas.List.{drop_more}
use Rattle.std.proofs.lemmas.Result.{err_from_is_err_and}
use Rattle.mmdb_value.specs.Values.{value_tree}
use Rattle.std.proofs.Common.{option_map}
use Rattle.mmdb_cmd_show.specs.Asked.{FindsAmong}
use Rattle.mmdb_cmd_show.proofs.AskedLaws.{of_name, finds_some, has_none}
use Rattle.mmdb_cmd_show.proofs.databases.first_value.Goals as goal

pub returns-in_err-value-clause-unread : goal.returns-in_err-value-clause-unread
returns-in_err-value-clause-unread c =
    let all = c.args.databases.now in
    let i = c.loop-shown.shown-index in
    let x = c.shown-item.result in
    let here : drop i all ≡ x ∷ drop (i + 1) all = drop_more all i x (omega arith) ∙ ap (λ y. y ∷ drop (i + 1) all) (sym c.shown-item.is) in
    let p = err_from_is_err_and c.from_residual.result c.from_residual.ensures.1 in
    rw (p.1, p.2) (of_name c.in_err-value.field-0.0 (λ name h. c.loop-shown.invariant (Err name) (subst (λ xs. FindsAmong all xs c.args.address c.args.path.now (Err name)) (sym here) (inr (inr (h.1, ap Err h.0))))) c.in_err-value.ensures.unread)

pub returns-then-is_some-clause-value : goal.returns-then-is_some-clause-value
returns-then-is_some-clause-value c =
    let all = c.args.databases.now in
    let i = c.loop-shown.shown-index in
    let x = c.shown-item.result in
    let here : drop i all ≡ x ∷ drop (i + 1) all = drop_more all i x (omega arith) ∙ ap (λ y. y ∷ drop (i + 1) all) (sym c.shown-item.is) in
    let found = Ok (option_map value_tree c.in_ok-value.value) in
    c.loop-shown.invariant found (subst (λ xs. FindsAmong all xs c.args.address c.args.path.now found) (sym here) (finds_some all (drop (i + 1) all) x c.args.address c.args.path.now c.in_ok-value.value c.if-is_some.ensures c.in_ok-value.ensures.value))

pub loop-shown-preserved : goal.loop-shown-preserved
loop-shown-preserved c =
    let all = c.args.databases.now in
    let i = c.loop-shown.shown-index in
    let x = c.shown-item.result in
    let here : drop i all ≡ x ∷ drop (i + 1) all = drop_more all i x (omega arith) ∙ ap (λ y. y ∷ drop (i + 1) all) (sym c.shown-item.is) in
    λ found rest. c.loop-shown.invariant found (subst (λ xs. FindsAmong all xs c.args.address c.args.path.now found) (sym here) (inl (has_none all x c.args.address c.args.path.now c.in_ok-value.value c.if-is_some.ensures c.in_ok-value.ensures.value, rest)))
