-- The trees of containers and of texts.
use Rattle.std.proofs.Common.{◌≡◌, ℕ, List, [], ◌∷◌, map, refl, ap, ◌∙◌, rules, Vec, Global, Bor}
use Rattle.mmdb_format.specs.Unfolding.{Tree, scalar}
use Rattle.mmdb_value.specs.AnyValue.{array_of, table_of}
use Rattle.mmdb_value.specs.Values.{value_tree}
use Rattle.mmdb_format.specs.Contents.{text}
use Rattle.mmdb_value.specs.declared.any_value.Value.{Value, String, Array, Map, the_lemmas}

pub tree-String : (x : Bor (List ℕ)) → value_tree (String x) ≡ scalar (text x.now)
tree-String x = search (rules, the_lemmas)

pub tree-Array : (all : Vec Value Global) → value_tree (Array all) ≡ array_of (map value_tree all.items)
tree-Array all = search (rules, the_lemmas)

pairs_once : (xs : List (Bor (List ℕ) × Value)) → map {A = Bor (List ℕ) × Tree} {B = List ℕ × Tree} (λ x. (x.0.now, x.1)) (map {A = Bor (List ℕ) × Value} {B = Bor (List ℕ) × Tree} (λ x. (x.0, value_tree x.1)) xs) ≡ map {A = Bor (List ℕ) × Value} {B = List ℕ × Tree} (λ x. (x.0.now, value_tree x.1)) xs
pairs_once [] = refl
pairs_once (x ∷ xs) = ap (λ (ys : List (List ℕ × Tree)). (x.0.now, value_tree x.1) ∷ ys) (pairs_once xs)

tree_by_step : (all : Vec (Bor (List ℕ) × Value) Global) → value_tree (Map all) ≡ table_of (map {A = Bor (List ℕ) × Tree} {B = List ℕ × Tree} (λ x. (x.0.now, x.1)) (map {A = Bor (List ℕ) × Value} {B = Bor (List ℕ) × Tree} (λ x. (x.0, value_tree x.1)) all.items))
tree_by_step all = search (rules, the_lemmas)

pub tree-Map : (all : Vec (Bor (List ℕ) × Value) Global) → value_tree (Map all) ≡ table_of (map {A = Bor (List ℕ) × Value} {B = List ℕ × Tree} (λ x. (x.0.now, value_tree x.1)) all.items)
tree-Map all = tree_by_step all ∙ ap table_of (pairs_once all.items)
