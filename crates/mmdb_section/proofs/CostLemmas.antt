-- What values of a section cost a check: no more than their bytes.
use Rattle.std.proofs.Common.{◌≡◌, ℕ, ◌+◌, ◌/◌, ◌<◌, ◌≤◌, eqb, leb, Bool, true, false, cond, List, length, drop, Option, Some, None, refl, arith, length-take, length-drop}
use Rattle.std.specs.Int.{cast_signed, w32}
use Rattle.std.specs.Option.{IfSome}
use Rattle.std.proofs.lemmas.Bool.Decides.{nat_tests}
use Rattle.mmdb_format.specs.declared.header.Header.{Header}
use Rattle.mmdb_format.specs.Header.{◌>>=◌, bytes_at, number_at, header_at}
use Rattle.mmdb_format.specs.Pointer.{pointer_at}
use Rattle.mmdb_format.specs.Contents.{Scalar, text, bytes, boolean, signed32, number16, number32, number64, number128, double_bits, float_bits, content_at, content_end, truth_of}
use Rattle.mmdb_format.specs.Unfolding.{Tree, Trees, Pairs, Unfolds, scalar_here, array_here, table_here, pointer_here, AllUnfold, none_left, one_more, PairsUnfold, no_pairs_left, one_more_pair}
use Rattle.mmdb_check.specs.Checking.{text_length, own_cost, trees_cost, pairs_cost}
use Rattle.mmdb_check.proofs.Inlines.{if_bind, if_cond, if_is, header_inside}

-- ---- a value costs no more than its own bytes

bytes_length : (s : List ℕ) (p n : ℕ) → IfSome (bytes_at s p n) (λ x. length x ≡ n)
unfolding bytes_at
bytes_length s p n = if_cond (leb (p + n) (length s)) _ _ (λ x. length x ≡ n) (λ h. let a : p + n ≤ length s = grind (arith, nat_tests) in omega (arith, length-take n (drop p s), length-drop p s)) (λ h. tt)

abbrev Costs : Header → Scalar → Type 0
Costs header c = header.body + text_length c ≤ content_end header

end_ge : (header : Header) (b : Bool) → header.body ≤ cond b header.body (header.body + header.size)
end_ge header true = omega arith
end_ge header false = omega arith

plain : {A : Type 0} (header : Header) (o : Option A) (f : A → Scalar) → ((x : A) → text_length (f x) ≡ 0) → IfSome (o >>= λ n. Some (f n)) (Costs header)
plain header None f h = tt
plain header (Some x) f h = let e = h x in let g = end_ge header (eqb header.kind 14) in omega arith

text_costs : (s : List ℕ) (header : Header) → eqb header.kind 2 ≡ true → IfSome (bytes_at s header.body header.size >>= λ x. Some (text x)) (Costs header)
text_costs s header k = if_bind (bytes_at s header.body header.size) _ (Costs header) (λ x e.
    let len : length x ≡ header.size = if_is (bytes_at s header.body header.size) (λ y. length y ≡ header.size) x (bytes_length s header.body header.size) e in
    let no : eqb header.kind 14 ≡ false = grind (arith, nat_tests) in
    rw no (omega arith))

content_costs : (s : List ℕ) (header : Header) → IfSome (content_at s header) (Costs header)
unfolding content_at
content_costs s header =
    if_cond (eqb header.kind 2) _ _ (Costs header) (λ k. text_costs s header k) (λ a.
    if_cond (eqb header.kind 3) _ _ (Costs header) (λ k. plain header _ double_bits (λ x. refl)) (λ a.
    if_cond (eqb header.kind 4) _ _ (Costs header) (λ k. plain header _ bytes (λ x. refl)) (λ a.
    if_cond (eqb header.kind 5) _ _ (Costs header) (λ k. plain header _ number16 (λ x. refl)) (λ a.
    if_cond (eqb header.kind 6) _ _ (Costs header) (λ k. plain header _ number32 (λ x. refl)) (λ a.
    if_cond (eqb header.kind 8) _ _ (Costs header) (λ k. plain header _ (λ n. signed32 (cast_signed w32 n)) (λ x. refl)) (λ a.
    if_cond (eqb header.kind 9) _ _ (Costs header) (λ k. plain header _ number64 (λ x. refl)) (λ a.
    if_cond (eqb header.kind 10) _ _ (Costs header) (λ k. plain header _ number128 (λ x. refl)) (λ a.
    if_cond (eqb header.kind 14) _ _ (Costs header) (λ k. plain header (truth_of header) boolean (λ x. refl)) (λ a.
    if_cond (eqb header.kind 15) _ _ (Costs header) (λ k. plain header _ float_bits (λ x. refl)) (λ a. tt))))))))))

pointer_past : (s : List ℕ) (p low : ℕ) → IfSome (pointer_at s p low) (λ to. p < to.next)
unfolding pointer_at
pointer_past s p low = if_bind (number_at s p (low / 8 + 1)) _ (λ to. p < to.next) (λ n e. omega arith)

mutual
  pub own_fits : {s : List ℕ} {p : ℕ} {t : Tree} {q : ℕ} → Unfolds s p t q → p + own_cost t ≤ q
  own_fits (scalar_here {s = s} {p = p} {c = c} {header = header} h k) =
      let w = if_is (header_at s p) (λ x. (p < x.body) × (x.body ≤ length s)) header (header_inside s p) h in
      let x = if_is (content_at s header) (Costs header) c (content_costs s header) k in
      omega (arith, w.0, x)
  own_fits (array_here {s = s} {p = p} {header = header} h k a) =
      let w = if_is (header_at s p) (λ x. (p < x.body) × (x.body ≤ length s)) header (header_inside s p) h in
      let x = trees_fit a in
      omega (arith, w.0, x)
  own_fits (table_here {s = s} {p = p} {header = header} h k a) =
      let w = if_is (header_at s p) (λ x. (p < x.body) × (x.body ≤ length s)) header (header_inside s p) h in
      let x = pairs_fit a in
      omega (arith, w.0, x)
  own_fits (pointer_here {s = s} {p = p} {header = header} {to = to} h k o a) =
      let w = if_is (header_at s p) (λ x. (p < x.body) × (x.body ≤ length s)) header (header_inside s p) h in
      let x = if_is (pointer_at s header.body header.size) (λ y. header.body < y.next) to (pointer_past s header.body header.size) o in
      omega (arith, w.0, x)

  trees_fit : {s : List ℕ} {p n : ℕ} {ts : Trees} {q : ℕ} → AllUnfold s p n ts q → p + trees_cost ts ≤ q
  trees_fit none_left = omega arith
  trees_fit (one_more a b) = let x = own_fits a in let y = trees_fit b in omega arith

  pairs_fit : {s : List ℕ} {p n : ℕ} {ps : Pairs} {q : ℕ} → PairsUnfold s p n ps q → p + pairs_cost ps ≤ q
  pairs_fit no_pairs_left = omega arith
  pairs_fit (one_more_pair a b c) = let x = own_fits a in let y = own_fits b in let z = pairs_fit c in omega arith
