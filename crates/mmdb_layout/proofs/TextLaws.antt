-- A text among texts.
use Rattle.std.proofs.Common.{◌≡◌, ◌⊎◌, ℕ, zero, suc, arith, ◌+◌, ◌<◌, List, [], ◌∷◌, ◌++◌, map, length, take, get_or, refl, sym, ap, ◌∙◌, subst, inl, inr}
use Rattle.std.proofs.lemmas.List.{take_more, map-append, get_or-map, length-map}
use Rattle.std.proofs.lemmas.List.Elements.{Contains-push_cases}
use Rattle.std.specs.List.{Contains}
use Rattle.mmdb_layout.specs.Conditions.{HasPart, HasAnyPart}

pub at_one : {X : Type 0} (f : X → List ℕ) (xs : List X) (i : ℕ) (d : X) (text : List ℕ) → i < length xs → f (get_or xs i d) ≡ text → Contains (map f xs) text
at_one f xs i d text within same = (i, subst (λ n. i < n) (sym (length-map xs f)) within, get_or-map f xs i d text within ∙ same)

pub none_more : {X : Type 0} (f : X → List ℕ) (xs : List X) (i : ℕ) (d : X) (text : List ℕ) → i < length xs → (f (get_or xs i d) ≡ text → ⊥) → (Contains (map f (take i xs)) text → ⊥) → Contains (map f (take (i + 1) xs)) text → ⊥
none_more f xs i d text within other none here =
    let more : map f (take (i + 1) xs) ≡ map f (take i xs) ++ (f (get_or xs i d) ∷ []) = ap (map f) (take_more xs i d within) ∙ map-append f (take i xs) (get_or xs i d ∷ []) in
    elim (Contains-push_cases (map f (take i xs)) (f (get_or xs i d)) text (subst (λ l. Contains l text) more here)) [ inl c ↦ none c | inr e ↦ other e ]

-- one of the texts of which something holds
pub at_some : {X : Type 0} (P : List ℕ → Type 0) (f : X → List ℕ) (xs : List X) (i : ℕ) (d : X) → i < length xs → P (f (get_or xs i d))
    → (text : List ℕ) × Contains (map f xs) text × P text
at_some P f xs i d within here = (f (get_or xs i d), at_one f xs i d (f (get_or xs i d)) within refl, here)

pub none_of_more : {X : Type 0} (P : List ℕ → Type 0) (f : X → List ℕ) (xs : List X) (i : ℕ) (d : X) → i < length xs → (P (f (get_or xs i d)) → ⊥)
    → ((text : List ℕ) × Contains (map f (take i xs)) text × P text → ⊥) → (text : List ℕ) × Contains (map f (take (i + 1) xs)) text × P text → ⊥
none_of_more P f xs i d within other none some =
    let more : map f (take (i + 1) xs) ≡ map f (take i xs) ++ (f (get_or xs i d) ∷ []) = ap (map f) (take_more xs i d within) ∙ map-append f (take i xs) (get_or xs i d ∷ []) in
    elim (Contains-push_cases (map f (take i xs)) (f (get_or xs i d)) some.0 (subst (λ l. Contains l some.0) more some.1)) [
      | inl c ↦ none (some.0, c, some.2)
      | inr e ↦ other (subst P (sym e) some.2)
    ]

-- ---- a text that has others in it

part_cases : (own : List ℕ) (xs : List (List ℕ)) (part : List ℕ) → HasAnyPart own (xs ++ part ∷ []) → HasAnyPart own xs ⊎ HasPart own part
part_cases own [] part (inl h) = inr h
part_cases own [] part (inr h) = absurd h
part_cases own (x ∷ xs) part (inl h) = inl (inl h)
part_cases own (x ∷ xs) part (inr h) = elim (part_cases own xs part h) [ inl i ↦ inl (inr i) | inr i ↦ inr i ]

pub part_at : {X : Type 0} (f : X → List ℕ) (own : List ℕ) (xs : List X) (i : ℕ) (d : X) → i < length xs → HasPart own (f (get_or xs i d)) → HasAnyPart own (map f xs)
part_at f own [] i d within h = absurd (omega arith)
part_at f own (x ∷ xs) zero d within h = inl h
part_at f own (x ∷ xs) (suc i) d within h = inr (part_at f own xs i d (omega arith) h)

pub no_part_more : {X : Type 0} (f : X → List ℕ) (own : List ℕ) (xs : List X) (i : ℕ) (d : X) → i < length xs → (HasPart own (f (get_or xs i d)) → ⊥) → (HasAnyPart own (map f (take i xs)) → ⊥) → HasAnyPart own (map f (take (i + 1) xs)) → ⊥
no_part_more f own xs i d within other none here =
    let more : map f (take (i + 1) xs) ≡ map f (take i xs) ++ (f (get_or xs i d) ∷ []) = ap (map f) (take_more xs i d within) ∙ map-append f (take i xs) (get_or xs i d ∷ []) in
    elim (part_cases own (map f (take i xs)) (f (get_or xs i d)) (subst (λ l. HasAnyPart own l) more here)) [ inl c ↦ none c | inr e ↦ other e ]
