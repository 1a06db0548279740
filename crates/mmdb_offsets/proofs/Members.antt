-- The offsets of a set are its members, one after another.
use Rattle.std.proofs.Common.{◌≡◌, ℕ, zero, suc, ◌+◌, ◌-◌, ◌<◌, ◌≤◌, List, [], ◌∷◌, length, drop, get_or, Bool, true, false, ◌==◌, ◌⊎◌, refl, ◌∙◌, ap, subst, inl, inr, arith, add-one, drop-cons}
use Rattle.std.specs.List.{list_any}
use Rattle.std.proofs.lemmas.Bool.{or_cases, or_left, or_right, eqb-true, eq-eqb}
use Rattle.std.proofs.lemmas.List.{drop_all}
use Rattle.mmdb_offsets.specs.OffsetSet.{holds, offsets_from, HasNoneFrom, IsNext}

-- ---- membership

abbrev pub In : ℕ → List ℕ → Type 0
In q [] = ⊥
In q (p ∷ ps) = (p ≡ q) ⊎ In q ps

pub any-in : (q : ℕ) (ps : List ℕ) → list_any (λ o. o == q) ps ≡ true → In q ps
any-in q [] h = absurd (cc)
any-in q (p ∷ ps) h = elim (or_cases (p == q) (list_any (λ o. o == q) ps) h) [ inl e ↦ inl (eqb-true p q e) | inr r ↦ inr (any-in q ps r) ]

pub in-any : (q : ℕ) (ps : List ℕ) → In q ps → list_any (λ o. o == q) ps ≡ true
in-any q [] h = absurd h
in-any q (p ∷ ps) (inl e) = or_left (p == q) (list_any (λ o. o == q) ps) (eq-eqb p q e)
in-any q (p ∷ ps) (inr h) = or_right (p == q) (list_any (λ o. o == q) ps) (in-any q ps h)

-- ---- the offsets of a set

none_before : (set : List Bool) (first q : ℕ) → q < first → In q (offsets_from first set) → ⊥
none_before [] first q low h = absurd h
none_before (true ∷ set) first q low (inl e) = omega (arith, e, low)
none_before (true ∷ set) first q low (inr h) = none_before set (suc first) q (omega arith) h
none_before (false ∷ set) first q low h = none_before set (suc first) q (omega arith) h

pub from-holds : (set : List Bool) (first q : ℕ) → holds set q ≡ true → In (first + q) (offsets_from first set)
from-holds [] first q h = absurd (cc)
from-holds (true ∷ set) first zero h = inl (omega arith)
from-holds (false ∷ set) first zero h = absurd (cc)
from-holds (true ∷ set) first (suc q) h = inr (subst (λ n. In n (offsets_from (suc first) set)) (omega arith) (from-holds set (suc first) q h))
from-holds (false ∷ set) first (suc q) h = subst (λ n. In n (offsets_from (suc first) set)) (omega arith) (from-holds set (suc first) q h)

pub holds-from : (set : List Bool) (first q : ℕ) → In (first + q) (offsets_from first set) → holds set q ≡ true
holds-from [] first q h = absurd h
holds-from (true ∷ set) first zero h = refl
holds-from (false ∷ set) first zero h = absurd (none_before set (suc first) (first + 0) (omega arith) h)
holds-from (true ∷ set) first (suc q) (inl e) = absurd (omega (arith, e))
holds-from (true ∷ set) first (suc q) (inr h) = holds-from set (suc first) q (subst (λ n. In n (offsets_from (suc first) set)) (omega arith) h)
holds-from (false ∷ set) first (suc q) h = holds-from set (suc first) q (subst (λ n. In n (offsets_from (suc first) set)) (omega arith) h)

-- ---- one offset after another

next-marked : (set : List Bool) (i : ℕ) → i < length set → get_or set i false ≡ true → offsets_from i (drop i set) ≡ i ∷ offsets_from (i + 1) (drop (i + 1) set)
next-marked set i l h = rw (add-one, drop-cons set i false l, h) refl

next-unmarked : (set : List Bool) (i : ℕ) → i < length set → get_or set i false ≡ false → offsets_from i (drop i set) ≡ offsets_from (i + 1) (drop (i + 1) set)
next-unmarked set i l h = rw (add-one, drop-cons set i false l, h) refl

-- none are between
past-unmarked : (set : List Bool) (i n : ℕ) → i + n ≤ length set → ((q : ℕ) → i ≤ q → q < i + n → holds set q ≡ false) → offsets_from i (drop i set) ≡ offsets_from (i + n) (drop (i + n) set)
past-unmarked set i zero l none = ap (λ j. offsets_from j (drop j set)) (omega arith)
past-unmarked set i (suc n) l none =
    next-unmarked set i (omega arith) (none i (omega arith) (omega arith)) ∙ past-unmarked set (i + 1) n (omega arith) (λ q from below. none q (omega arith) (omega arith))
    ∙ ap (λ j. offsets_from j (drop j set)) (omega arith)

-- the next one is the first of those that are left
pub next-first : (set : List Bool) (i p : ℕ) → p < length set → IsNext set i p → offsets_from i (drop i set) ≡ p ∷ offsets_from (p + 1) (drop (p + 1) set)
next-first set i p l next =
    let after = next.after in
    let e : i + (p - i) ≡ p = omega (arith, after) in
    past-unmarked set i (p - i) (omega (arith, l, e)) (λ q from below. next.least q from (omega (arith, below, e)))
    ∙ ap (λ j. offsets_from j (drop j set)) e ∙ next-marked set p l next.is

pub none-left : (set : List Bool) (i : ℕ) → i ≤ length set → HasNoneFrom set i → offsets_from i (drop i set) ≡ []
none-left set i l none =
    let n : ℕ = length set - i in
    past-unmarked set i n (omega arith) (λ q from below. none q from) ∙ ap (offsets_from (i + n)) (drop_all (i + n) set (omega arith))
