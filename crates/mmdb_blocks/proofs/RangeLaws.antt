-- What ranges have.
use Rattle.std.proofs.Common.{◌≡◌, ℕ, zero, suc, ◌+◌, ◌-◌, ◌<◌, ◌≤◌, ◌⊎◌, ◌↔◌, List, [], ◌∷◌, ◌++◌, length, get_or, take, refl, ap, arith, sym, inl, inr, subst, max}
use Rattle.std.proofs.lemmas.Bool.{cases_lt}
use Rattle.std.proofs.lemmas.List.{take_more}
use Rattle.std.proofs.lemmas.List.Sorted.{Contains-permutation, IsPermutation-sym}
use Rattle.std.specs.List.Sorted.{IsPermutation, IsNonDecreasingBy}
use Rattle.mmdb_blocks.specs.declared.ranges.BlockRange.{BlockRange}
use Rattle.mmdb_blocks.specs.Ranges.{IsOfRange, IsAmong}
use Rattle.mmdb_blocks.specs.Working.{BeginFrom, Begins, Reaches, BeginsAfter, BeginsWith, TakesReached}

-- ---- either way

pub either-map : {A B C D : Type 0} → (A → C) → (B → D) → A ⊎ B → C ⊎ D
either-map f g (inl a) = inl (f a)
either-map f g (inr b) = inr (g b)

pub either-same : {A B C : Type 0} → (A ↔ B) → (A ⊎ C) ↔ (B ⊎ C)
either-same e = ((λ h. either-map e.0 (λ c. c) h), (λ h. either-map e.1 (λ c. c) h))

pub both-ways : {A B C : Type 0} → (A ↔ B) → (B ↔ C) → A ↔ C
both-ways e f = ((λ h. f.0 (e.0 h)), (λ h. e.1 (f.1 h)))

-- ---- lists of ranges one after another

pub among-cases : (a : ℕ) (xs ys : List BlockRange) → IsAmong a (xs ++ ys) → IsAmong a xs ⊎ IsAmong a ys
among-cases a [] ys h = inr h
among-cases a (x ∷ xs) ys (inl h) = inl (inl h)
among-cases a (x ∷ xs) ys (inr h) = either-map (λ g. inr g) (λ g. g) (among-cases a xs ys h)

pub among-front : (a : ℕ) (xs ys : List BlockRange) → IsAmong a xs → IsAmong a (xs ++ ys)
among-front a [] ys h = absurd h
among-front a (x ∷ xs) ys (inl h) = inl h
among-front a (x ∷ xs) ys (inr h) = inr (among-front a xs ys h)

pub among-back : (a : ℕ) (xs ys : List BlockRange) → IsAmong a ys → IsAmong a (xs ++ ys)
among-back a [] ys h = h
among-back a (x ∷ xs) ys h = inr (among-back a xs ys h)

among-join : (a : ℕ) (xs ys : List BlockRange) → IsAmong a xs ⊎ IsAmong a ys → IsAmong a (xs ++ ys)
among-join a xs ys (inl h) = among-front a xs ys h
among-join a xs ys (inr h) = among-back a xs ys h

pub among-append : (a : ℕ) (xs ys : List BlockRange) → IsAmong a (xs ++ ys) ↔ (IsAmong a xs ⊎ IsAmong a ys)
among-append a xs ys = (among-cases a xs ys, among-join a xs ys)

pub among-one : (a : ℕ) (r : BlockRange) → IsAmong a (r ∷ []) ↔ IsOfRange a r
among-one a r = (to, λ h. inl h)
  where
    to : IsAmong a (r ∷ []) → IsOfRange a r
    to (inl h) = h
    to (inr h) = absurd h

pub among-more : (a : ℕ) (xs : List BlockRange) (r : BlockRange) → IsAmong a (xs ++ r ∷ []) ↔ (IsAmong a xs ⊎ IsOfRange a r)
among-more a xs r = (
  (λ h. either-map (λ g. g) (among-one a r).0 (among-cases a xs (r ∷ []) h)),
  (λ h. among-join a xs (r ∷ []) (either-map (λ g. g) (among-one a r).1 h)),
)

-- one range more of a list
pub among-taken : (a : ℕ) (xs : List BlockRange) (i : ℕ) (d : BlockRange) → i < length xs → IsAmong a (take (i + 1) xs) ↔ (IsAmong a (take i xs) ⊎ IsOfRange a (get_or xs i d))
among-taken a xs i d h = let P : List BlockRange → Type 0 = λ ys. IsAmong a ys ↔ (IsAmong a (take i xs) ⊎ IsOfRange a (get_or xs i d)) in
    subst P (sym (take_more xs i d h)) (among-more a (take i xs) (get_or xs i d))

-- ---- ranges in another order

some-has : (a : ℕ) (xs : List BlockRange) → IsAmong a xs → (r : BlockRange) × ((k : ℕ) × (k < length xs) × (get_or xs k r ≡ r)) × IsOfRange a r
some-has a [] h = absurd h
some-has a (x ∷ xs) (inl h) = (x, (zero, omega arith, refl), h)
some-has a (x ∷ xs) (inr h) = let s = some-has a xs h in (s.0, (suc s.1.0, omega (arith, s.1.1), s.1.2), s.2)

has-some : (a : ℕ) (xs : List BlockRange) (r : BlockRange) (k : ℕ) → k < length xs → get_or xs k r ≡ r → IsOfRange a r → IsAmong a xs
has-some a [] r k lt e h = absurd (omega arith)
has-some a (x ∷ xs) r zero lt e h = inl (subst (λ (y : BlockRange). IsOfRange a y) (sym e) h)
has-some a (x ∷ xs) r (suc k) lt e h = inr (has-some a xs r k (omega arith) e h)

among-permuted : (a : ℕ) (xs ys : List BlockRange) → IsPermutation xs ys → IsAmong a xs → IsAmong a ys
among-permuted a xs ys p h =
    let s = some-has a xs h in
    let t = Contains-permutation xs ys s.0 p s.1 in
    has-some a ys s.0 t.0 t.1 t.2 s.2

pub among-sorted : (xs ys : List BlockRange) → IsPermutation xs ys → (a : ℕ) → IsAmong a ys ↔ IsAmong a xs
among-sorted xs ys p a = (among-permuted a ys xs (IsPermutation-sym xs ys p), among-permuted a xs ys p)

-- ---- ranges that begin in order

begin-all : (from : ℕ) (xs : List BlockRange) → ((k : ℕ) (d : BlockRange) → k < length xs → from ≤ (get_or xs k d).first) → BeginFrom from xs
begin-all from [] h = tt
begin-all from (x ∷ xs) h = (h zero x (omega arith), begin-all from xs (λ k d lt. h (suc k) d (omega arith)))

pub begins-sorted : (xs : List BlockRange) → IsNonDecreasingBy (λ range. range.first) xs → Begins xs
begins-sorted [] h = tt
begins-sorted (x ∷ xs) h = (
  begin-all x.first xs (λ k d lt. h zero (suc k) d (omega arith) (omega arith)),
  begins-sorted xs (λ i j d le lt. h (suc i) (suc j) d (omega arith) (omega arith)),
)

among-from : (a from : ℕ) (xs : List BlockRange) → BeginFrom from xs → IsAmong a xs → from ≤ a
among-from a from [] b h = absurd h
among-from a from (x ∷ xs) b (inl h) = omega (arith, b.0, h.0)
among-from a from (x ∷ xs) b (inr h) = among-from a from xs b.1 h

-- what begins with a range begins no earlier
pub among-begins : (a : ℕ) (r : BlockRange) (xs : List BlockRange) → Begins xs → BeginsWith r xs → IsAmong a xs → r.first ≤ a
among-begins a r [] b w h = absurd h
among-begins a r (x ∷ xs) b w (inl h) = omega (arith, ap (λ (y : BlockRange). y.first) w, h.0)
among-begins a r (x ∷ xs) b w (inr h) = omega (arith, ap (λ (y : BlockRange). y.first) w, among-from a x.first xs b.0 h)

pub among-after : (a last : ℕ) (xs : List BlockRange) → Begins xs → BeginsAfter last xs → IsAmong a xs → last < a
among-after a last [] b w h = absurd h
among-after a last (x ∷ xs) b w (inl h) = omega (arith, w, h.0)
among-after a last (x ∷ xs) b w (inr h) = omega (arith, w, among-from a x.first xs b.0 h)

pub among-first : (a : ℕ) (r : BlockRange) (xs : List BlockRange) → BeginsWith r xs → IsOfRange a r → IsAmong a xs
among-first a r [] w h = absurd w
among-first a r (x ∷ xs) w h = inl (subst (λ (y : BlockRange). IsOfRange a y) w h)

pub reaches-first : (from : ℕ) (r : BlockRange) (xs : List BlockRange) → BeginsWith r xs → Reaches from xs → (from ≤ r.last) × (r.first ≤ r.last)
reaches-first from r [] w h = absurd w
reaches-first from r (x ∷ xs) w h = subst (λ (y : BlockRange). (from ≤ y.last) × (y.first ≤ y.last)) (sym w) h

-- ---- one range is two that meet

pub joined-of : (a : ℕ) (last range joined : BlockRange) → last.first ≤ range.first → range.first ≤ last.last + 1 → joined.first ≡ last.first → joined.last ≡ max last.last range.last
    → IsOfRange a joined ↔ (IsOfRange a last ⊎ IsOfRange a range)
joined-of a last range joined le meets f l = (λ h. to h, from)
  where
    to : IsOfRange a joined → IsOfRange a last ⊎ IsOfRange a range
    to h = elim (cases_lt last.last a) [
      | inl lt ↦ inr (omega (arith, h.0, h.1, f, l), omega (arith, h.1, l))
      | inr ge ↦ inl (omega (arith, h.0, f), ge)
    ]

    from : IsOfRange a last ⊎ IsOfRange a range → IsOfRange a joined
    from (inl h) = (omega (arith, h.0, f), omega (arith, h.1, l))
    from (inr h) = (omega (arith, h.0, f), omega (arith, h.1, l))

pub other-way : {A B : Type 0} → (A ↔ B) → B ↔ A
other-way i = (i.1, i.0)

pub either-assoc : {A B C D : Type 0} → ((B ⊎ C) ↔ D) → ((A ⊎ B) ⊎ C) ↔ (A ⊎ D)
either-assoc {A} {B} {C} {D} e = (to, from)
  where
    to : ((A ⊎ B) ⊎ C) → (A ⊎ D)
    to (inl (inl a)) = inl a
    to (inl (inr b)) = inr (e.0 (inl b))
    to (inr c) = inr (e.0 (inr c))

    apart : (B ⊎ C) → ((A ⊎ B) ⊎ C)
    apart (inl b) = inl (inr b)
    apart (inr c) = inr c

    from : (A ⊎ D) → ((A ⊎ B) ⊎ C)
    from (inl a) = inl (inl a)
    from (inr d) = apart (e.1 d)

pub either-right : {A B C : Type 0} → (B ↔ C) → (A ⊎ B) ↔ (A ⊎ C)
either-right e = ((λ h. either-map (λ a. a) e.0 h), (λ h. either-map (λ a. a) e.1 h))

pub either-none : {A B : Type 0} → (B → ⊥) → (A ⊎ B) ↔ A
either-none {A} {B} never = (to, λ a. inl a)
  where
    to : (A ⊎ B) → A
    to (inl a) = a
    to (inr b) = absurd (never b)

pub both-same : {A B C : Type 0} → (A ↔ B) → (A × C) ↔ (B × C)
both-same e = ((λ h. (e.0 h.0, h.1)), (λ h. (e.1 h.0, h.1)))

pub among-reached : (a : ℕ) (old new : List BlockRange) (range joined : BlockRange) → TakesReached old new range joined → IsAmong a (new ++ joined ∷ []) ↔ (IsAmong a old ⊎ IsOfRange a range)
among-reached a old new range joined t =
    rw t.old_is (both-ways (among-more a new joined) (both-ways (other-way (either-assoc (other-way (joined-of a t.last range joined t.in_order t.meets t.first_is t.last_is)))) (either-same (other-way (among-more a new t.last)))))

-- ---- ranges without the first one

pub skip-first : (a from : ℕ) (x : BlockRange) (xs : List BlockRange) → from ≤ a → ((x.last < from) ⊎ (x.last < x.first)) → IsAmong a (x ∷ xs) → IsAmong a xs
skip-first a from x xs le (inl e) (inl h) = absurd (omega (arith, h.1))
skip-first a from x xs le (inr e) (inl h) = absurd (omega (arith, h.0, h.1))
skip-first a from x xs le e (inr h) = h

pub begins-behind : (x : BlockRange) (behind rest : List BlockRange) → rest ≡ x ∷ behind → Begins rest → Begins behind
begins-behind x behind rest e h = (subst (λ (ys : List BlockRange). Begins ys) e h).1

pub same-behind : (a from : ℕ) (x : BlockRange) (behind rest others : List BlockRange) → from ≤ a → rest ≡ x ∷ behind → ((x.last < from) ⊎ (x.last < x.first)) → (IsAmong a rest ↔ IsAmong a others) → IsAmong a behind ↔ IsAmong a others
same-behind a from x behind rest others le e passed same =
    let P : List BlockRange → Type 0 = λ ys. IsAmong a ys ↔ IsAmong a others in
    let here : IsAmong a (x ∷ behind) ↔ IsAmong a others = subst P e same in
    ((λ h. here.0 (inr h)), (λ h. skip-first a from x behind le passed (here.1 h)))

-- ---- what is put before the next range

pub before-last : (a first end : ℕ) → first < end → ((first ≤ a) × (a ≤ end - 1)) ↔ ((first ≤ a) × (a < end))
before-last a first end lt = ((λ h. (h.0, omega (arith, h.1, lt))), (λ h. (h.0, omega (arith, h.1, lt))))

pub up-to : (a first last : ℕ) → ((first ≤ a) × (a ≤ last)) ↔ ((first ≤ a) × (a < last + 1))
up-to a first last = ((λ h. (h.0, omega (arith, h.1))), (λ h. (h.0, omega (arith, h.1))))

pub up-to-free : {T : Type 0} (a first last : ℕ) → ((first ≤ a) × (a < last + 1) × T) ↔ ((first ≤ a) × (a ≤ last) × T)
up-to-free a first last = ((λ h. (h.0, omega (arith, h.1), h.2)), (λ h. (h.0, omega (arith, h.1), h.2)))

-- what is added up to where the next range begins, of what none of them has
pub put-up-to : {N C O T : Type 0} (a first from end next : ℕ) → first ≤ from → from ≤ next → end ≤ next
    → (from ≤ a → a < end → T → ⊥) → (end ≤ a → from ≤ a → a < next → T)
    → N ↔ (C ⊎ ((from ≤ a) × (a < end))) → C ↔ (O ⊎ ((first ≤ a) × (a < from) × ¬ T))
    → N ↔ (O ⊎ ((first ≤ a) × (a < next) × ¬ T))
put-up-to {N} {C} {O} {T} a first from end next low high within free taken new cur = ((λ n. to (new.0 n)), back)
  where
    kept : O ⊎ ((first ≤ a) × (a < from) × ¬ T) → O ⊎ ((first ≤ a) × (a < next) × ¬ T)
    kept (inl o) = inl o
    kept (inr h) = inr (h.0, omega (arith, h.1, high), h.2)

    to : C ⊎ ((from ≤ a) × (a < end)) → O ⊎ ((first ≤ a) × (a < next) × ¬ T)
    to (inl c) = kept (cur.0 c)
    to (inr h) = inr (omega (arith, h.0, low), omega (arith, h.1, within), free h.0 h.1)

    late : from ≤ a → a < next → ¬ T → N
    late ge lt none = elim (cases_lt a end) [
      | inl below ↦ new.1 (inr (ge, below))
      | inr above ↦ absurd (none (taken above ge lt))
    ]

    back : O ⊎ ((first ≤ a) × (a < next) × ¬ T) → N
    back (inl o) = new.1 (inl (cur.1 (inl o)))
    back (inr h) = elim (cases_lt a from) [
      | inl below ↦ new.1 (inl (cur.1 (inr (h.0, below, h.2))))
      | inr above ↦ late above h.1 h.2
    ]

-- ---- one range more without others

pub more-without : {L X T U : Type 0} (a first last : ℕ) → L ↔ (X × ¬ U) → ((first ≤ a) → (T ↔ U))
    → (L ⊎ ((first ≤ a) × (a ≤ last) × ¬ T)) ↔ ((X ⊎ ((first ≤ a) × (a ≤ last))) × ¬ U)
more-without {L} {X} {T} {U} a first last left same = (to, (λ h. back h.0 h.1))
  where
    of-left : X × ¬ U → (X ⊎ ((first ≤ a) × (a ≤ last))) × ¬ U
    of-left h = (inl h.0, h.1)

    to : (L ⊎ ((first ≤ a) × (a ≤ last) × ¬ T)) → ((X ⊎ ((first ≤ a) × (a ≤ last))) × ¬ U)
    to (inl l) = of-left (left.0 l)
    to (inr h) = (inr (h.0, h.1), λ u. h.2 ((same h.0).1 u))

    back : (X ⊎ ((first ≤ a) × (a ≤ last))) → ¬ U → (L ⊎ ((first ≤ a) × (a ≤ last) × ¬ T))
    back (inl x) none = inl (left.1 (x, none))
    back (inr h) none = inr (h.0, h.1, λ t. none ((same h.0).0 t))

-- ---- what a list has

pub listed-exact : {I L J A C O E X Z : Type 0} → I ↔ L → L ↔ (J × ¬ E) → J ↔ A → A ↔ (C ⊎ O) → E ↔ (X ⊎ Z) → (Z → ⊥) → I ↔ ((C ⊎ O) × ¬ X)
listed-exact in' left joined all excepted never = (
  (λ i. let h = left.0 (in'.0 i) in (all.0 (joined.0 h.0), λ x. h.1 (excepted.1 (inl x)))),
  (λ h. in'.1 (left.1 (joined.1 (all.1 h.0), λ e. h.1 ((either-none never).0 (excepted.0 e))))),
)
