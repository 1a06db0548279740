-- What holds of all texts.
use Rattle.std.proofs.Common.{◌≡◌, ℕ, ◌+◌, ◌<◌, List, [], ◌∷◌, ◌++◌, map, length, take, get_or, subst, sym, ap, ◌∙◌}
use Rattle.std.specs.List.{All}
use Rattle.std.proofs.lemmas.List.{take_more, map-append, get_or-map, length-map}
use Rattle.std.proofs.lemmas.List.Elements.{All-push}

pub all_more : {X : Type 0} (P : List ℕ → Type 0) (f : X → List ℕ) (xs : List X) (i : ℕ) (d : X) → i < length xs → All P (map f (take i xs)) → P (f (get_or xs i d)) → All P (map f (take (i + 1) xs))
all_more P f xs i d within so_far here =
    let more : map f (take (i + 1) xs) ≡ map f (take i xs) ++ (f (get_or xs i d) ∷ []) = ap (map f) (take_more xs i d within) ∙ map-append f (take i xs) (get_or xs i d ∷ []) in
    subst (All P) (sym more) (All-push P (map f (take i xs)) (f (get_or xs i d)) so_far here)

pub one_of_all : {X : Type 0} (P : List ℕ → Type 0) (f : X → List ℕ) (xs : List X) (i : ℕ) (d : X) → i < length xs → All P (map f xs) → P (f (get_or xs i d))
one_of_all P f xs i d within all = subst P (get_or-map f xs i d (f d) within) (all i (f d) (subst (λ n. i < n) (sym (length-map xs f)) within))
