-- Lists of clones.
use Rattle.std.proofs.Common.{◌≡◌, List, [], ◌∷◌, map, refl, ap, ◌∙◌}
use Rattle.std.specs.List.{AllZip}

-- what each clone keeps, the list of clones keeps
pub map-clones : {A B : Type 0} (f : A → B) (xs ys : List A) → AllZip (λ x y. f y ≡ f x) xs ys → map f ys ≡ map f xs
map-clones f [] [] h = refl
map-clones f [] (y ∷ ys) h = absurd h
map-clones f (x ∷ xs) [] h = absurd h
map-clones f (x ∷ xs) (y ∷ ys) h = ap (λ b. b ∷ map f ys) h.0 ∙ ap (λ l. f x ∷ l) (map-clones f xs ys h.1)

-- both parts of a pair
abbrev pub both : {A B : Type 0} → (A → B) → A × A → B × B
both f e = (f e.0, f e.1)

-- and so for pairs
pub map-pair_clones : {A B : Type 0} (f : A → B) (xs ys : List (A × A)) → AllZip (λ x y. (f y.0 ≡ f x.0) × (f y.1 ≡ f x.1)) xs ys → map (both f) ys ≡ map (both f) xs
map-pair_clones f [] [] h = refl
map-pair_clones f [] (y ∷ ys) h = absurd h
map-pair_clones f (x ∷ xs) [] h = absurd h
map-pair_clones {A = A} {B = B} f (x ∷ xs) (y ∷ ys) h =
    let left : B → B × B = λ b. (b, f y.1) in
    let right : B → B × B = λ b. (f x.0, b) in
    let first : both f y ≡ both f x = ap left h.0.0 ∙ ap right h.0.1 in
    ap (λ b. b ∷ map (both f) ys) first ∙ ap (λ l. both f x ∷ l) (map-pair_clones f xs ys h.1)
