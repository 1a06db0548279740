-- Tests of parts of values, and what the trees of those parts say.
use Rattle.std.proofs.Common.{◌≡◌, ℕ, Bool, true, false, ◌&&◌, List, [], ◌∷◌, map, refl, ap, Bor, Vec, Global}
use Rattle.std.proofs.lemmas.Bool.{and_parts, and_from}
use Rattle.std.proofs.lemmas.Bool.Decides.{Decides-eqb}
use Rattle.std.proofs.lemmas.Slice.Eq.{bytes_eq-Decides}
use Rattle.std.specs.Bool.{Decides}
use Rattle.std.specs.Prelude.{nat_eq, bytes_eq}
use Rattle.mmdb_format.specs.Contents.{text, bytes, boolean, signed32, number16, number32, number64, number128, double_bits, float_bits}
use Rattle.mmdb_format.specs.declared.content.Double.{Double}
use Rattle.mmdb_format.specs.declared.content.Float.{Float}
use Rattle.mmdb_format.specs.Unfolding.{Tree, scalar, array, table, pointer}
use Rattle.mmdb_value.specs.AnyValue.{trees_of, pairs_of}
use lib.Pointwise.{pointwise}

-- a test of bytes decides equality of what an injective function makes of them
pub texts : {A : Type 0} (f : List ℕ → A) → ((x y : List ℕ) → f x ≡ f y → x ≡ y) → (x y : List ℕ) → Decides (bytes_eq x y) (f x ≡ f y)
texts f once x y = let h = bytes_eq-Decides x y in (λ e. ap f (h.0 e), λ e. h.1 (once x y e))

-- the same of numbers
pub numbers : {A : Type 0} (f : ℕ → A) → ((x y : ℕ) → f x ≡ f y → x ≡ y) → (x y : ℕ) → Decides (nat_eq x y) (f x ≡ f y)
numbers f once x y = let h = Decides-eqb x y in (λ e. ap f (h.0 e), λ e. h.1 (once x y e))

-- the test of a variant with one field, before those of the later variants
infixr 10 ◌⨾◌
abbrev pub ◌⨾◌ : {A L : Type 0} → (A → A → Bool) → L → (A × Unit {0} → A × Unit {0} → Bool) × L
test ⨾ later = (λ a b. test a.0 b.0, later)

-- the tests of the fields
abbrev pub same_bytes : Bor (List ℕ) → Bor (List ℕ) → Bool
same_bytes x y = bytes_eq x.now y.now

abbrev pub same_double : Double → Double → Bool
same_double x y = nat_eq x.bits y.bits

abbrev pub same_float : Float → Float → Bool
same_float x y = nat_eq x.bits y.bits

abbrev pub same_elements : {V : Type 0} → (V → V → Bool) → Vec V Global → Vec V Global → Bool
same_elements same x y = pointwise same x.items y.items

abbrev pub same_pairs : {V : Type 0} → (V → V → Bool) → Vec (Bor (List ℕ) × V) Global → Vec (Bor (List ℕ) × V) Global → Bool
same_pairs same x y = pointwise (λ p q. same_bytes p.0 q.0 && same p.1 q.1) x.items y.items

module _ {V : Type 0} (same : V → V → Bool) (says : V → Tree) where
  -- the test of this value against any decides equality of trees
  abbrev pub IsDecided : V → Type 0
  IsDecided a = (b : V) → Decides (same a b) (says a ≡ says b)

  -- a value with that
  abbrev pub Known : Type 0
  Known = (a : V) × IsDecided a

  -- elements one by one
  pub arrays : (xs : List Known) (ys : List V) → Decides (pointwise same (map (λ e. e.0) xs) ys) (trees_of (map says (map (λ e. e.0) xs)) ≡ trees_of (map says ys))
  arrays [] [] = (λ h. refl, λ e. refl)
  arrays [] (y ∷ ys) = (λ h. absurd (cc), λ e. absurd (cc))
  arrays (x ∷ xs) [] = (λ h. absurd (cc), λ e. absurd (cc))
  arrays (x ∷ xs) (y ∷ ys) =
      let first = x.1 y in let rest = arrays xs ys in
      (λ h. let both = and_parts _ _ h in let p = first.0 both.0 in let q = rest.0 both.1 in cc, λ e. and_from _ _ (first.1 (cc)) (rest.1 (cc)))

  -- pairs as keys and trees
  abbrev pub shown : List (Bor (List ℕ) × V) → List (List ℕ × Tree)
  shown ys = map {A = Bor (List ℕ) × Tree} {B = List ℕ × Tree} (λ e. (e.0.now, e.1)) (map {A = Bor (List ℕ) × V} {B = Bor (List ℕ) × Tree} (λ e. (e.0, says e.1)) ys)

  -- pairs whose values are known, as pairs
  abbrev pub known : List (Bor (List ℕ) × Known) → List (Bor (List ℕ) × V)
  known xs = map {A = Bor (List ℕ) × Known} {B = Bor (List ℕ) × V} (λ e. (e.0, e.1.0)) xs

  -- pairs one by one, the key first
  pub tables : (xs : List (Bor (List ℕ) × Known)) (ys : List (Bor (List ℕ) × V)) → Decides (pointwise {A = Bor (List ℕ) × V} {B = Bor (List ℕ) × V} (λ p q. bytes_eq p.0.now q.0.now && same p.1 q.1) (known xs) ys) (pairs_of (shown (known xs)) ≡ pairs_of (shown ys))
  tables [] [] = (λ h. refl, λ e. refl)
  tables [] (y ∷ ys) = (λ h. absurd (cc), λ e. absurd (cc))
  tables (x ∷ xs) [] = (λ h. absurd (cc), λ e. absurd (cc))
  tables (x ∷ xs) (y ∷ ys) =
      let key = bytes_eq-Decides x.0.now y.0.now in let first = x.1.1 y.1 in let rest = tables xs ys in (
        λ h. let both = and_parts _ _ h in let pair = and_parts _ _ both.0 in let k = key.0 pair.0 in let p = first.0 pair.1 in let q = rest.0 both.1 in cc,
        λ e. and_from _ _ (and_from _ _ (key.1 (cc)) (first.1 (cc))) (rest.1 (cc)),
      )

-- a number for each kind of tree
abbrev kind : Tree → ℕ
kind (scalar (text x)) = 0
kind (scalar (bytes x)) = 1
kind (scalar (boolean b)) = 2
kind (scalar (signed32 n)) = 3
kind (scalar (number16 n)) = 4
kind (scalar (number32 n)) = 5
kind (scalar (number64 n)) = 6
kind (scalar (number128 n)) = 7
kind (scalar (double_bits n)) = 8
kind (scalar (float_bits n)) = 9
kind (array ts) = 10
kind (table ps) = 11
kind (pointer a t) = 12

-- a test that fails decides equality of trees of two kinds
pub apart : (r : Bool) (s t : Tree) → r ≡ false → nat_eq (kind s) (kind t) ≡ false → Decides r (s ≡ t)
apart r s t h k = (λ e. absurd (cc), λ e. let one : nat_eq (kind s) (kind t) ≡ true = (Decides-eqb (kind s) (kind t)).1 (ap kind e) in absurd (cc))
