-- The trees of containers.
use Rattle.std.proofs.Common.{◌≡◌, ℕ, List, [], ◌∷◌, map, refl, ap, ◌∙◌, rules, Vec, Global, Bor}
use Rattle.mmdb_format.specs.Unfolding.{Tree}
use Rattle.mmdb_value.specs.AnyValue.{array_of, table_of}
use Rattle.mmdb_value.specs.RawValues.{raw_tree}
use Rattle.mmdb_value.specs.declared.raw_value.RawValue.{RawValue, Array, Map, the_lemmas}

pub tree-Array : (all : Vec RawValue Global) → raw_tree (Array all) ≡ array_of (map raw_tree all.items)
tree-Array all = search (rules, the_lemmas)

pairs_once : (xs : List (Bor (List ℕ) × RawValue)) → map {A = Bor (List ℕ) × Tree} {B = List ℕ × Tree} (λ x. (x.0.now, x.1)) (map {A = Bor (List ℕ) × RawValue} {B = Bor (List ℕ) × Tree} (λ x. (x.0, raw_tree x.1)) xs) ≡ map {A = Bor (List ℕ) × RawValue} {B = List ℕ × Tree} (λ x. (x.0.now, raw_tree x.1)) xs
pairs_once [] = refl
pairs_once (x ∷ xs) = ap (λ (ys : List (List ℕ × Tree)). (x.0.now, raw_tree x.1) ∷ ys) (pairs_once xs)

tree_by_step : (all : Vec (Bor (List ℕ) × RawValue) Global) → raw_tree (Map all) ≡ table_of (map {A = Bor (List ℕ) × Tree} {B = List ℕ × Tree} (λ x. (x.0.now, x.1)) (map {A = Bor (List ℕ) × RawValue} {B = Bor (List ℕ) × Tree} (λ x. (x.0, raw_tree x.1)) all.items))
tree_by_step all = search (rules, the_lemmas)

pub tree-Map : (all : Vec (Bor (List ℕ) × RawValue) Global) → raw_tree (Map all) ≡ table_of (map {A = Bor (List ℕ) × RawValue} {B = List ℕ × Tree} (λ x. (x.0.now, raw_tree x.1)) all.items)
tree-Map all = tree_by_step all ∙ ap table_of (pairs_once all.items)
