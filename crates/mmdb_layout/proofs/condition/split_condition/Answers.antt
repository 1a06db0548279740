use Rattle.std.proofs.Common.{rules, arith, sym, ap, subst, ◌∙◌, ◌≡◌, ◌+◌, ◌-◌, ◌++◌, [], ◌∷◌, List, take, drop, length, ℕ}
use Rattle.std.proofs.lemmas.List.{take_all, length-drop}
use Rattle.std.proofs.lemmas.Str.{IsCharBoundary-start, IsCharBoundary-end, IsCharBoundary-before_ascii, IsCharBoundary-after_ascii}
use Rattle.mmdb_layout.specs.Conditions.{IsSign}
use Rattle.mmdb_layout.proofs.SignLaws.{around, length-front}
use Rattle.mmdb_layout.proofs.condition.split_condition.Goals as goal

pub returns-in_err-place : goal.returns-in_err-place
returns-in_err-place c =
    let none = rw c.as_bytes.ensures.value at c.in_err-place.ensures in
    rw c.from_residual.ensures none

pub returns-in_err-path : goal.returns-in_err-path
returns-in_err-path c =
    let found = rw c.as_bytes.ensures.value at c.in_ok-place.ensures in
    let sign = found.0 in
    let start = IsCharBoundary-start c.args.text.now c.utf8.text in
    let here = IsCharBoundary-before_ascii c.args.text.now c.in_ok-place.place sign.within (omega (arith, sign.sign)) in
    absurd (search (rules, c.in_err-path.ensures.cases, start, here))

pub returns-in_err-value : goal.returns-in_err-value
returns-in_err-value c =
    let found = rw c.as_bytes.ensures.value at c.in_ok-place.ensures in
    let sign = found.0 in
    let behind = IsCharBoundary-after_ascii c.args.text.now c.in_ok-place.place c.utf8.text sign.within (omega (arith, sign.sign)) in
    let end = IsCharBoundary-end c.args.text.now in
    absurd (search (rules, c.in_err-value.ensures.cases, behind, end, sign.within))

pub returns : goal.returns
returns c =
    let found = rw c.as_bytes.ensures.value at c.in_ok-place.ensures in
    let sign = found.0 in
    let bytes : List ℕ = c.args.text.now in
    let k : ℕ = c.in_ok-place.place in
    let from_start : k - 0 ≡ k = omega arith in
    let path : c.in_ok-path.path.now ≡ take k bytes = c.in_ok-path.ensures.cases.0 ∙ ap (λ n. take n bytes) from_start in
    let rest = take_all (length bytes - (k + 1)) (drop (k + 1) bytes) (omega (arith, length-drop (k + 1) bytes, sign.within)) in
    let value : c.in_ok-value.value.now ≡ drop (k + 1) bytes = c.in_ok-value.ensures.cases.0 ∙ rest in
    let long : length c.in_ok-path.path.now ≡ k = ap length path ∙ length-front bytes k sign.within in
    let whole : bytes ≡ take k bytes ++ (61 ∷ []) ++ drop (k + 1) bytes = around bytes k sign.within ∙ ap (λ b. take k bytes ++ (b ∷ []) ++ drop (k + 1) bytes) sign.sign in
    let parts : bytes ≡ c.in_ok-path.path.now ++ (61 ∷ []) ++ c.in_ok-value.value.now = rw (path, value) whole in
    (parts, subst (IsSign bytes) (sym long) sign, λ place below. found.1 place (omega (arith, below, long)))
