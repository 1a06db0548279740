-- What rows say of an address is one value; bits of all of an address.
use Rattle.std.proofs.Common.{◌≡◌, inl, inr, ℕ, zero, suc, Bool, true, List, [], ◌∷◌, ◌++◌, length, Option, Some, None, refl, ap, sym, ◌∙◌, subst, arith, append-nil}
use Rattle.std.specs.List.{slice_get}
use Rattle.std.proofs.lemmas.List.{take_all}
use Rattle.mmdb_net.specs.Bits.{bits_of, zero_bits, number_of}
use Rattle.mmdb_net.proofs.BitLaws.{length-bits_of}
use Rattle.mmdb_format.specs.Unfolding.{Tree}
use Rattle.mmdb_reader.specs.ShownLeaf.{begins_with_zeros}
use Rattle.mmdb_reader.proofs.NumberLemmas.{take-bits-number}
use Rattle.mmdb_value.specs.declared.any_value.Value.{Value}
use Rattle.mmdb_value.specs.Values.{value_tree}
use Rattle.mmdb_writer.specs.declared.row.Row.{Row}
use Rattle.mmdb_writer.specs.Rows.{IsRowOf, IsValueOf, Says}

-- ---- one value

one_of : {X : Type 0} (o : Option X) (x y : X) → o ≡ Some x → o ≡ Some y → x ≡ y
one_of o x y h k = let e : Some x ≡ Some y = sym h ∙ k in cc

value_one : (values : List Value) (value : Option ℕ) (v w : Option Tree) → IsValueOf values value v → IsValueOf values value w → v ≡ w
value_one values None v w h k = h ∙ sym k
value_one values (Some index) v w h k = h.2 ∙ ap (λ (x : Value). Some (value_tree x)) (one_of (slice_get values index) h.0 k.0 h.1 k.1) ∙ sym k.2

row_one : (rows : List Row) (address : List Bool) (r s : Row) → IsRowOf rows address r → IsRowOf rows address s → r ≡ s
row_one rows address r s h k = elim (h.longest k.place s k.at k.here) [
  | inl shorter ↦ elim (k.longest h.place r h.at h.here) [ inl longer ↦ absurd (omega arith) | inr same ↦ let e = same.0 in absurd (omega arith) ]
  | inr later ↦ elim (k.longest h.place r h.at h.here) [
    | inl longer ↦ let e = later.0 in absurd (omega arith)
    | inr earlier ↦
        let a = later.1 in let b = earlier.1 in
        let place : h.place ≡ k.place = omega arith in
        one_of (slice_get rows k.place) r s (sym (ap (slice_get rows) place) ∙ h.at) k.at
  ]
]

pub says_one : (values : List Value) (rows : List Row) (address : List Bool) (v w : Option Tree) → Says values rows address v → Says values rows address w → v ≡ w
says_one values rows address v w (inl h) (inl k) = h.1 ∙ sym k.1
says_one values rows address v w (inl h) (inr k) = absurd (h.0 k.1.place k.0 k.1.at k.1.here)
says_one values rows address v w (inr h) (inl k) = absurd (k.0 h.1.place h.0 h.1.at h.1.here)
says_one values rows address v w (inr h) (inr k) =
    let same : h.0 ≡ k.0 = row_one rows address h.0 k.0 h.1 k.1 in
    value_one values k.0.value v w (subst (λ (r : Row). IsValueOf values r.value v) same h.2) k.2

-- ---- bits

pub full_number : (w : ℕ) (bits : List Bool) → length bits ≡ w → bits_of w (number_of w bits) ≡ bits
full_number w bits len =
    let long : length (bits_of w (number_of w bits)) ≡ w = length-bits_of w (number_of w bits) in
    sym (take_all (length bits) (bits_of w (number_of w bits)) (omega arith)) ∙ take-bits-number w bits (omega arith)

pub length-zero_bits : (n : ℕ) → length (zero_bits n) ≡ n
unfolding zero_bits
length-zero_bits zero = refl
length-zero_bits (suc n) = ap suc (length-zero_bits n)

pub zeros_begin : (n : ℕ) → begins_with_zeros n (zero_bits n) ≡ true
unfolding zero_bits begins_with_zeros
zeros_begin zero = refl
zeros_begin (suc n) = zeros_begin n

pub no_rest : (leaf rest : List Bool) → length rest ≡ 0 → leaf ++ rest ≡ leaf
no_rest leaf [] none = append-nil leaf
no_rest leaf (x ∷ rest) none = absurd (omega arith)

-- all bits but the last, and the last one
pub record EndsIn (bits : List Bool) : Type 0 where
  pub front : List Bool
  pub last : Bool
  pub whole : bits ≡ front ++ last ∷ []

pub ends_in : (x : Bool) (bits : List Bool) → EndsIn (x ∷ bits)
ends_in x [] = record { front = []; last = x; whole = refl }
ends_in x (y ∷ bits) = let e = ends_in y bits in record { front = x ∷ e.front; last = e.last; whole = ap (λ (xs : List Bool). x ∷ xs) e.whole }
