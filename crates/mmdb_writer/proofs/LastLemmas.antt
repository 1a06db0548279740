-- The last element of a list for which a test holds stays it where a list is put in another order that keeps the order of
-- those elements.
use Rattle.std.proofs.Common.{◌≡◌, ◌⊎◌, inl, inr, ℕ, zero, suc, ◌≤◌, Bool, true, false, cond, List, [], ◌∷◌, Option, Some, None, refl, ap, sym, ◌∙◌, arith}
use Rattle.std.specs.List.{slice_get, filter}
use Rattle.std.proofs.lemmas.Bool.{false≢true}

module _ {X : Type 0} (t : X → Bool) where
  last_by : Option X → List X → Option X
  last_by found [] = found
  last_by found (x ∷ xs) = last_by (cond (t x) (Some x) found) xs

  filter_last : (found : Option X) (xs : List X) → last_by found (filter t xs) ≡ last_by found xs
  unfolding last_by
  filter_last found [] = refl
  filter_last found (x ∷ xs) = by (t x) refl (filter_last (Some x) xs) (filter_last found xs)
    where
      by : (b : Bool) → t x ≡ b → last_by (Some x) (filter t xs) ≡ last_by (Some x) xs → last_by found (filter t xs) ≡ last_by found xs → last_by found (cond b (x ∷ filter t xs) (filter t xs)) ≡ last_by (cond b (Some x) found) xs
      by true is here out = ap (λ (c : Bool). last_by (cond c (Some x) found) (filter t xs)) is ∙ here
      by false is here out = out

  -- it is the last one at this place
  pub record IsLastAt (xs : List X) (place : ℕ) (x : X) : Type 0 where
    pub at : slice_get xs place ≡ Some x
    pub holds : t x ≡ true
    pub last : (j : ℕ) (y : X) → slice_get xs j ≡ Some y → t y ≡ true → j ≤ place

  abbrev HasNoneIn : List X → Type 0
  HasNoneIn xs = (j : ℕ) (y : X) → slice_get xs j ≡ Some y → t y ≡ true → ⊥

  none_last : (found : Option X) (xs : List X) → HasNoneIn xs → last_by found xs ≡ found
  unfolding last_by
  none_last found [] none = refl
  none_last found (x ∷ xs) none =
      let out : t x ≡ false = not_true (t x) (none zero x refl) in
      ap (λ (c : Bool). last_by (cond c (Some x) found) xs) out ∙ none_last found xs (λ j y at h. none (suc j) y at h)
    where
      not_true : (b : Bool) → (b ≡ true → ⊥) → b ≡ false
      not_true true h = absurd (h refl)
      not_true false h = refl

  last_is : (found : Option X) (xs : List X) (place : ℕ) (x : X) → IsLastAt xs place x → last_by found xs ≡ Some x
  unfolding last_by
  last_is found [] place x h = let at = h.at in absurd (cc)
  last_is found (y ∷ ys) zero x h =
      let same : y ≡ x = (let at = h.at in cc) in
      let here : t y ≡ true = ap t same ∙ h.holds in
      ap (λ (c : Bool). last_by (cond c (Some y) found) ys) here ∙ none_last (Some y) ys (λ j z at k. let l = h.last (suc j) z at k in omega arith) ∙ ap Some same
  last_is found (y ∷ ys) (suc place) x h = last_is (cond (t y) (Some y) found) ys place x (record { at = h.at; holds = h.holds; last = λ j z at k. let l = h.last (suc j) z at k in omega arith })

  abbrev Found : Option X → List X → X → Type 0
  Found found xs x = ((found ≡ Some x) × HasNoneIn xs) ⊎ ((place : ℕ) × IsLastAt xs place x)

  last_at : (found : Option X) (xs : List X) (x : X) → last_by found xs ≡ Some x → Found found xs x
  unfolding last_by
  last_at found [] x h = inl (h, λ j y at k. absurd (cc))
  last_at found (y ∷ ys) x h = by (t y) refl (last_at (cond (t y) (Some y) found) ys x h)
    where
      later : (place : ℕ) → IsLastAt ys place x → IsLastAt (y ∷ ys) (suc place) x
      later place k = record { at = k.at; holds = k.holds; last = up }
        where
          up : (j : ℕ) (z : X) → slice_get (y ∷ ys) j ≡ Some z → t z ≡ true → j ≤ suc place
          up zero z at l = omega arith
          up (suc j) z at l = let m = k.last j z at l in omega arith

      first : t y ≡ true → y ≡ x → HasNoneIn ys → IsLastAt (y ∷ ys) zero x
      first here same none = record { at = ap Some same; holds = sym (ap t same) ∙ here; last = up }
        where
          up : (j : ℕ) (z : X) → slice_get (y ∷ ys) j ≡ Some z → t z ≡ true → j ≤ zero
          up zero z at l = omega arith
          up (suc j) z at l = absurd (none j z at l)

      none_here : t y ≡ false → HasNoneIn ys → HasNoneIn (y ∷ ys)
      none_here out none zero z at l = let same : y ≡ z = cc in false≢true (sym out ∙ ap t same ∙ l)
      none_here out none (suc j) z at l = none j z at l

      by : (b : Bool) → t y ≡ b → Found (cond b (Some y) found) ys x → Found found (y ∷ ys) x
      by b is (inr k) = inr (suc k.0, later k.0 k.1)
      by true is (inl k) = let found_is = k.0 in let same : y ≡ x = cc in inr (zero, first is same k.1)
      by false is (inl k) = inl (k.0, none_here is k.1)

  -- ---- what is in a list and passes the test

  in_filter : (xs : List X) (j : ℕ) (x : X) → slice_get xs j ≡ Some x → t x ≡ true → (i : ℕ) × (slice_get (filter t xs) i ≡ Some x)
  in_filter [] j x at h = absurd (cc)
  in_filter (y ∷ ys) zero x at h =
      let same : y ≡ x = cc in
      let here : t y ≡ true = ap t same ∙ h in
      (zero, ap (λ (c : Bool). slice_get (cond c (y ∷ filter t ys) (filter t ys)) zero) here ∙ ap Some same)
  in_filter (y ∷ ys) (suc j) x at h = by (t y) (in_filter ys j x at h)
    where
      by : (b : Bool) → (i : ℕ) × (slice_get (filter t ys) i ≡ Some x) → (i : ℕ) × (slice_get (cond b (y ∷ filter t ys) (filter t ys)) i ≡ Some x)
      by true k = (suc k.0, k.1)
      by false k = k

  of_filter : (xs : List X) (i : ℕ) (x : X) → slice_get (filter t xs) i ≡ Some x → (j : ℕ) × (slice_get xs j ≡ Some x)
  of_filter [] i x at = absurd (cc)
  of_filter (y ∷ ys) i x at = by (t y) i (λ k. of_filter ys k x) at
    where
      by : (b : Bool) (i : ℕ) → ((k : ℕ) → slice_get (filter t ys) k ≡ Some x → (j : ℕ) × (slice_get ys j ≡ Some x)) → slice_get (cond b (y ∷ filter t ys) (filter t ys)) i ≡ Some x → (j : ℕ) × (slice_get (y ∷ ys) j ≡ Some x)
      by true zero rest at = (zero, at)
      by true (suc i) rest at = let k = rest i at in (suc k.0, k.1)
      by false i rest at = let k = rest i at in (suc k.0, k.1)

  -- an element that passes the test is in the other list too
  pub still_in : (xs ys : List X) (j : ℕ) (x : X) → filter t xs ≡ filter t ys → slice_get xs j ≡ Some x → t x ≡ true → (i : ℕ) × (slice_get ys i ≡ Some x)
  still_in xs ys j x same at h =
      let k = in_filter xs j x at h in
      of_filter ys k.0 x (ap (λ (zs : List X). slice_get zs k.0) (sym same) ∙ k.1)

  -- and the last one of them is the last one there
  pub still_last : (xs ys : List X) (place : ℕ) (x : X) → filter t xs ≡ filter t ys → IsLastAt xs place x → (other : ℕ) × IsLastAt ys other x
  still_last xs ys place x same h =
      let moved : last_by None ys ≡ Some x = sym (filter_last None ys) ∙ ap (last_by None) (sym same) ∙ filter_last None xs ∙ last_is None xs place x h in
      by (last_at None ys x moved)
    where
      by : Found None ys x → (other : ℕ) × IsLastAt ys other x
      by (inr k) = k
      by (inl k) = let nothing = k.0 in absurd (cc)
