-- Records of several databases, one after another.
use Rattle.std.proofs.Common.{◌≡◌, ◌<◌, ℕ, ◌+◌, List, [], ◌∷◌, ◌++◌, length, map, take, get_or, sym, ap, ◌∙◌}
use Rattle.std.proofs.lemmas.List.{length-map, map_push, map_more}

-- a list is as long as one that is what another one maps to
pub as_many : {D A : Type 0} (f : D → A) (ds : List D) (all : List A) (count : ℕ) → all ≡ map f ds → count ≡ length all → count ≡ length ds
as_many f ds all count is counted = counted ∙ ap length is ∙ length-map ds f

-- one more of a list that goes along with another one
pub one_more : {R D A : Type 0} (f : R → A) (g : D → A) (rs after : List R) (r : R) (ds : List D) (place : ℕ) (d : D) → after ≡ rs ++ r ∷ [] → map f rs ≡ map g (take place ds)
    → place < length ds → f r ≡ g (get_or ds place d) → map f after ≡ map g (take (place + 1) ds)
one_more f g rs after r ds place d push same within is =
    ap (map f) push ∙ map_push f rs r ∙ ap (λ l. l ++ f r ∷ []) same ∙ ap (λ a. map g (take place ds) ++ a ∷ []) is ∙ sym (map_more g ds place d within)
