-- Keys of the pairs that are left, beside those that were seen.
use Rattle.std.proofs.Common.{◌≡◌, ◌⊎◌, inl, inr, ℕ, Bool, true, false, cond, List, [], ◌∷◌, refl, sym, ap, ◌∙◌, subst}
use Rattle.std.specs.Str.{bytes_eq}
use Rattle.std.proofs.lemmas.Bool.{false≢true}
use Rattle.std.proofs.lemmas.Slice.Eq.{bytes_eq-Decides}
use Rattle.mmdb_format.specs.Contents.{text}
use Rattle.mmdb_format.specs.Unfolding.{Tree, scalar, Pairs}
use Rattle.mmdb_value.specs.AnyValue.{pairs_of}
use Rattle.mmdb_writer.specs.Limits.{IsKeyIn, HasKeyTwice, PairsHaveKeyTwice}
use Rattle.mmdb_writer.specs.Working.{HasSeen, AreLeft}

same_text : (x y : List ℕ) → scalar (text x) ≡ scalar (text y) → x ≡ y
same_text x y is = ap bytes_in is where
  bytes_in : Tree → List ℕ
  bytes_in (scalar (text z)) = z
  bytes_in _ = []

-- at first nothing was seen, and at the end nothing is left
none_seen : (seen : List ℕ → Bool) → ((y : List ℕ) → seen y ≡ false) → (xs : List (List ℕ × Tree)) → HasSeen seen xs → ⊥
none_seen seen none [] h = h
none_seen seen none (x ∷ xs) (inl h) = false≢true (sym (none x.0) ∙ h)
none_seen seen none (x ∷ xs) (inr h) = none_seen seen none xs h

pub all_left : (seen : List ℕ → Bool) (xs : List (List ℕ × Tree)) → ((y : List ℕ) → seen y ≡ false) → AreLeft (pairs_of xs) seen xs
all_left seen xs none = record { to = λ h. inl h; from = λ h. elim h [ inl k ↦ k | inr k ↦ absurd (none_seen seen none xs k) ] }

pub none_left : (all : Pairs) (seen : List ℕ → Bool) → AreLeft all seen [] → ¬ PairsHaveKeyTwice all
none_left all seen left = λ h. elim (left.to h) [ inl k ↦ k | inr k ↦ k ]

-- what was seen with one key more
module _ (seen more : List ℕ → Bool) (x : List ℕ) (grown : (y : List ℕ) → more y ≡ cond (bytes_eq x y) true (seen y)) where
  new_seen : x ≡ x → more x ≡ true
  new_seen same = grown x ∙ ap (λ (b : Bool). cond b true (seen x)) ((bytes_eq-Decides x x).1 refl)

  old_seen : (y : List ℕ) → seen y ≡ true → more y ≡ true
  old_seen y h = grown y ∙ by (bytes_eq x y) where
    by : (b : Bool) → cond b true (seen y) ≡ true
    by true = refl
    by false = h

  either : (y : List ℕ) → more y ≡ true → (x ≡ y) ⊎ (seen y ≡ true)
  either y h = by (bytes_eq x y) refl (sym (grown y) ∙ h) where
    by : (b : Bool) → bytes_eq x y ≡ b → cond b true (seen y) ≡ true → (x ≡ y) ⊎ (seen y ≡ true)
    by true is k = inl ((bytes_eq-Decides x y).0 is)
    by false is k = inr k

  split : (xs : List (List ℕ × Tree)) → HasSeen more xs → IsKeyIn (scalar (text x)) (pairs_of xs) ⊎ HasSeen seen xs
  split [] h = absurd h
  split (y ∷ ys) (inl h) = elim (either y.0 h) [ inl same ↦ inl (inl (ap (λ (z : List ℕ). scalar (text z)) same)) | inr old ↦ inr (inl old) ]
  split (y ∷ ys) (inr h) = elim (split ys h) [ inl k ↦ inl (inr k) | inr k ↦ inr (inr k) ]

  joined_key : (xs : List (List ℕ × Tree)) → IsKeyIn (scalar (text x)) (pairs_of xs) → HasSeen more xs
  joined_key [] h = absurd h
  joined_key (y ∷ ys) (inl same) = inl (subst (λ (z : List ℕ). more z ≡ true) (same_text x y.0 same) (new_seen refl))
  joined_key (y ∷ ys) (inr h) = inr (joined_key ys h)

  joined_seen : (xs : List (List ℕ × Tree)) → HasSeen seen xs → HasSeen more xs
  joined_seen [] h = absurd h
  joined_seen (y ∷ ys) (inl h) = inl (old_seen y.0 h)
  joined_seen (y ∷ ys) (inr h) = inr (joined_seen ys h)

  pub one_more_seen : (all : Pairs) (v : Tree) (xs : List (List ℕ × Tree)) → AreLeft all seen ((x, v) ∷ xs) → seen x ≡ false → ¬ HasKeyTwice v → AreLeft all more xs
  one_more_seen all v xs left new once = record {
    to = λ h. elim (left.to h) [
      | inl twice ↦ elim twice [
        | inl again ↦ inr (joined_key xs again)
        | inr rest ↦ elim rest [ inl inside ↦ absurd (once inside) | inr later ↦ inl later ]
      ]
      | inr common ↦ elim common [ inl old ↦ absurd (false≢true (sym new ∙ old)) | inr later ↦ inr (joined_seen xs later) ]
    ];
    from = λ h. elim h [
      | inl later ↦ left.from (inl (inr (inr later)))
      | inr common ↦ elim (split xs common) [ inl again ↦ left.from (inl (inl again)) | inr later ↦ left.from (inr (inr later)) ]
    ];
  }
