-- Values that are within limits are too large for no header.
use Rattle.std.proofs.Common.{◌≡◌, inl, inr, ℕ, zero, suc, ◌^◌, ◌<◌, ◌≤◌, List, [], ◌∷◌, length, map, get_or, Bor, refl, ap, sym, subst, arith}
use Rattle.mmdb_format.specs.Contents.{text, bytes}
use Rattle.mmdb_format.specs.Unfolding.{Tree, scalar, array, table, pointer, value_count, payload, trees_count, trees_payload, pairs_count, pairs_payload}
use Rattle.mmdb_section.specs.declared.value.Number.{Number as SpecNumber}
use Rattle.mmdb_section.specs.declared.value.SectionPart.{SectionPart}
use Rattle.mmdb_section.specs.declared.value.WrittenValue.TheVariants as values
use Rattle.mmdb_section.specs.Known.{AreKnown, PairsAreKnown}
use Rattle.mmdb_section.specs.Sections.{SectionView, IsTooLarge}
use Rattle.mmdb_value.specs.AnyValue.{trees_of, pairs_of}
use Rattle.mmdb_value.specs.Values.{value_tree}
use Rattle.mmdb_value.specs.declared.any_value.Value.{Value}
use Rattle.mmdb_writer.specs.Limits.{IsWithinLimits}
use Rattle.mmdb_writer.specs.Working.{IsWithin}

abbrev shown : Bor (List ℕ) × Value → List ℕ × Tree
shown x = (x.0.now, value_tree x.1)

some_count : (v : Tree) → 1 ≤ value_count v
some_count (scalar c) = omega arith
some_count (array ts) = omega arith
some_count (table ps) = omega arith
some_count (pointer a t) = some_count t

pub within_limits : (v : Tree) → IsWithinLimits v → IsWithin v
within_limits v h = let a = h.values in let b = h.bytes in (omega arith, omega arith)

-- ---- the parts of an array or a map are smaller

element_small : (xs : List Value) (i : ℕ) (d : Value) → i < length xs
    → (value_count (value_tree (get_or xs i d)) ≤ trees_count (trees_of (map value_tree xs))) × (payload (value_tree (get_or xs i d)) ≤ trees_payload (trees_of (map value_tree xs)))
element_small [] i d h = absurd (omega arith)
element_small (x ∷ xs) zero d h = (omega arith, omega arith)
element_small (x ∷ xs) (suc i) d h = let r = element_small xs i d (omega arith) in let a = r.0 in let b = r.1 in (omega arith, omega arith)

pub element_within : (xs : List Value) (i : ℕ) (x : Value) (v : Tree) → v ≡ array (trees_of (map value_tree xs)) → i < length xs → x ≡ get_or xs i x → IsWithin v → IsWithin (value_tree x)
element_within xs i x v tree lt is h =
    let r = element_small xs i x lt in
    let w : IsWithin (array (trees_of (map value_tree xs))) = subst IsWithin tree h in
    let a = w.0 in let b = w.1 in let c = r.0 in let d = r.1 in
    subst (λ (y : Value). IsWithin (value_tree y)) (sym is) (omega arith, omega arith)

pair_small : (xs : List (Bor (List ℕ) × Value)) (i : ℕ) (d : Bor (List ℕ) × Value) → i < length xs
    → (value_count (value_tree (get_or xs i d).1) ≤ pairs_count (pairs_of (map shown xs))) × (payload (value_tree (get_or xs i d).1) ≤ pairs_payload (pairs_of (map shown xs))) × (length (get_or xs i d).0.now ≤ pairs_payload (pairs_of (map shown xs)))
pair_small [] i d h = absurd (omega arith)
pair_small (x ∷ xs) zero d h = (omega arith, omega arith, omega arith)
pair_small (x ∷ xs) (suc i) d h = let r = pair_small xs i d (omega arith) in let a = r.0 in let b = r.1 in let c = r.2 in (omega arith, omega arith, omega arith)

module _ (xs : List (Bor (List ℕ) × Value)) (i : ℕ) (x : Bor (List ℕ) × Value) (v : Tree) (tree : v ≡ table (pairs_of (map shown xs))) (lt : i < length xs) (is : x ≡ get_or xs i x) (h : IsWithin v) where
  pub value_within : IsWithin (value_tree x.1)
  value_within =
      let r = pair_small xs i x lt in
      let w : IsWithin (table (pairs_of (map shown xs))) = subst IsWithin tree h in
      let a = w.0 in let b = w.1 in let c = r.0 in let d = r.1 in
      subst (λ (y : Bor (List ℕ) × Value). IsWithin (value_tree y.1)) (sym is) (omega arith, omega arith)

  pub key_within : IsWithin (scalar (text x.0.now))
  key_within =
      let r = pair_small xs i x lt in
      let w : IsWithin (table (pairs_of (map shown xs))) = subst IsWithin tree h in
      let b = w.1 in let c = r.2 in
      subst (λ (y : Bor (List ℕ) × Value). IsWithin (scalar (text y.0.now))) (sym is) (omega arith, omega arith)

count_elements : (xs : List Value) → length xs ≤ trees_count (trees_of (map value_tree xs))
count_elements [] = omega arith
count_elements (x ∷ xs) = let a = some_count (value_tree x) in let b = count_elements xs in omega arith

count_pairs : (xs : List (Bor (List ℕ) × Value)) → length xs ≤ pairs_count (pairs_of (map shown xs))
count_pairs [] = omega arith
count_pairs (x ∷ xs) = let a = some_count (value_tree x.1) in let b = count_pairs xs in omega arith

as_many_parts : (section : SectionView) (vs : List Tree) (ps : List SectionPart) → AreKnown section (trees_of vs) ps → length ps ≡ length vs
as_many_parts section [] [] h = refl
as_many_parts section [] (p ∷ ps) h = absurd h
as_many_parts section (v ∷ vs) [] h = absurd h
as_many_parts section (v ∷ vs) (p ∷ ps) h = ap suc (as_many_parts section vs ps h.1)

as_many_pairs : (section : SectionView) (vs : List (List ℕ × Tree)) (ps : List (SectionPart × SectionPart)) → PairsAreKnown section (pairs_of vs) ps → length ps ≡ length vs
as_many_pairs section [] [] h = refl
as_many_pairs section [] (p ∷ ps) h = absurd h
as_many_pairs section (v ∷ vs) [] h = absurd h
as_many_pairs section (v ∷ vs) (p ∷ ps) h = ap suc (as_many_pairs section vs ps h.2)

-- ---- so only the section is too large

abbrev pub IsFull : SectionView → Type 0
IsFull section = 2 ^ 32 ≤ length section.bytes

full_after : (old new : SectionView) → new ≡ old → IsFull old → IsFull new
full_after old new same full = subst IsFull (sym same) full

pub full_text : (x : Bor (List ℕ)) (v : Tree) (old new : SectionView) → v ≡ scalar (text x.now) → new ≡ old → IsTooLarge old (values.Text x) → IsWithin v → IsFull new
full_text x v old new is same (inl long) h = let w : IsWithin (scalar (text x.now)) = subst IsWithin is h in let a = w.1 in absurd (omega arith)
full_text x v old new is same (inr full) h = full_after old new same full

pub full_bytes : (x : Bor (List ℕ)) (v : Tree) (old new : SectionView) → v ≡ scalar (bytes x.now) → new ≡ old → IsTooLarge old (values.Bytes x) → IsWithin v → IsFull new
full_bytes x v old new is same (inl long) h = let w : IsWithin (scalar (bytes x.now)) = subst IsWithin is h in let a = w.1 in absurd (omega arith)
full_bytes x v old new is same (inr full) h = full_after old new same full

pub full_number : (n : SpecNumber) (old new : SectionView) → new ≡ old → IsTooLarge old (values.Number n) → IsFull new
full_number n old new same (inl long) = absurd (omega arith)
full_number n old new same (inr full) = full_after old new same full

pub full_array : (xs : List Value) (parts : List SectionPart) (all : Bor (List SectionPart)) (v : Tree) (old new : SectionView) → v ≡ array (trees_of (map value_tree xs)) → all.now ≡ parts → AreKnown old (trees_of (map value_tree xs)) parts
    → length (map value_tree xs) ≡ length xs → new ≡ old → IsTooLarge old (values.Array all) → IsWithin v → IsFull new
full_array xs parts all v old new is same known maps kept (inl long) h =
    let w : IsWithin (array (trees_of (map value_tree xs))) = subst IsWithin is h in
    let a = w.0 in
    let b = count_elements xs in
    let c = as_many_parts old (map value_tree xs) parts known in
    let d : length all.now ≡ length parts = ap length same in
    absurd (omega arith)
full_array xs parts all v old new is same known maps kept (inr full) h = full_after old new kept full

pub full_map : (xs : List (Bor (List ℕ) × Value)) (pairs : List (SectionPart × SectionPart)) (all : Bor (List (SectionPart × SectionPart))) (v : Tree) (old new : SectionView) → v ≡ table (pairs_of (map shown xs)) → all.now ≡ pairs → PairsAreKnown old (pairs_of (map shown xs)) pairs
    → length (map shown xs) ≡ length xs → new ≡ old → IsTooLarge old (values.Map all) → IsWithin v → IsFull new
full_map xs pairs all v old new is same known maps kept (inl long) h =
    let w : IsWithin (table (pairs_of (map shown xs))) = subst IsWithin is h in
    let a = w.0 in
    let b = count_pairs xs in
    let c = as_many_pairs old (map shown xs) pairs known in
    let d : length all.now ≡ length pairs = ap length same in
    absurd (omega arith)
full_map xs pairs all v old new is same known maps kept (inr full) h = full_after old new kept full
