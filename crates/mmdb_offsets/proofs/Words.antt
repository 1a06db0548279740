-- A set whose offsets are bits of words.
use Rattle.std.proofs.Common.{◌≡◌, ◌≢◌, ℕ, ◌+◌, ◌-◌, ◌*◌, ◌^◌, ◌<◌, ◌≤◌, ◌/◌, ◌%◌, ◌==◌, ◌||◌, List, length, Bool, true, false, Option, Some, None, w64, bit_or, slice_index, set, replicate, refl, sym, ◌∙◌, ap, subst, inl, inr, arith, get_or-set_other, get_or-set_same}
use Rattle.std.proofs.Math.Nat.{div-add-mod, mod-lt, div-le_self}
use Rattle.std.proofs.lemmas.Bool.{cases_eq, cases_lt, eq-eqb, ne_eqb}
use Rattle.std.proofs.lemmas.List.{get_or-replicate, get_or_past, length-replicate}
use Rattle.std.proofs.lemmas.List.FromFn.{get_or-map-range_with_len, length-map-range_with_len}
use Rattle.std.proofs.lemmas.Nat.Bits.{bit_at_set_same, bit_at_set_other, bit_at-trailing_zeros, bit_at-zero, bit_at_above}
use Rattle.std.proofs.lemmas.Nat.{shr-shr}
use Rattle.std.specs.Int.{bit_at, trailing_zeros}
use Rattle.std.specs.Option.{MatchOption}
use Rattle.mmdb_offsets.specs.OffsetSet.{holds, set_of, HasNoneFrom, IsNext, HasNoBit, IsLowest}

or_same : (x : Bool) → (x || true) ≡ true
or_same true = refl
or_same false = refl

or_not : (x : Bool) → x ≡ (x || false)
or_not true = refl
or_not false = refl

-- whether an offset has its bit
abbrev pub has_bit : List ℕ → ℕ → Bool
has_bit words q = bit_at (slice_index words (q / 64)) (q % 64) == 1

pub length-set_of : (words : List ℕ) (n : ℕ) → length (set_of words n) ≡ n
unfolding set_of
length-set_of words n = length-map-range_with_len (has_bit words) 0 n

pub holds-set_of : (words : List ℕ) (n q : ℕ) → q < n → holds (set_of words n) q ≡ has_bit words q
unfolding set_of
holds-set_of words n q l = get_or-map-range_with_len (has_bit words) 0 n q q false l (omega arith)

pub holds-past : (words : List ℕ) (n q : ℕ) → n ≤ q → holds (set_of words n) q ≡ false
holds-past words n q l = get_or_past (set_of words n) q false (omega (arith, length-set_of words n))

pub word-inside : (words : List ℕ) (n q : ℕ) → length words ≡ n / 64 + 1 → q ≤ n → q / 64 < length words
word-inside words n q long l = omega (arith, long, div-add-mod q 64, div-add-mod n 64, mod-lt q {m = 64} (omega arith), mod-lt n {m = 64} (omega arith))

-- ---- one bit more

module _ (words : List ℕ) (p : ℕ) (inside : p / 64 < length words) where
  abbrev word : ℕ
  word = slice_index words (p / 64)

  abbrev new : ℕ
  new = bit_or word (1 * 2 ^ (p % 64) % 2 ^ 64)

  within : p % 64 < 64
  within = mod-lt p (omega arith)

  read-same : slice_index (set words (p / 64) new) (p / 64) ≡ new
  read-same = rw get_or-set_same refl

  read-other : (j : ℕ) → j ≢ p / 64 → slice_index (set words (p / 64) new) j ≡ slice_index words j
  read-other j ne = rw get_or-set_other refl

  has_bit-more : (q : ℕ) → has_bit (set words (p / 64) new) q ≡ (has_bit words q || (p == q))
  has_bit-more q = elim (cases_eq (q / 64) (p / 64)) [
    | inr ne ↦
        let apart : (p == q) ≡ false = ne_eqb p q (λ e. ne (ap (λ n. n / 64) (sym e))) in
        ap (λ w. bit_at w (q % 64) == 1) (read-other (q / 64) ne) ∙ or_not (has_bit words q) ∙ ap (λ b. has_bit words q || b) (sym apart)
    | inl e ↦
        let read : slice_index (set words (p / 64) new) (q / 64) ≡ new = ap (slice_index (set words (p / 64) new)) e ∙ read-same in
        elim (cases_eq (q % 64) (p % 64)) [
          | inl f ↦
              let same : p ≡ q = omega (arith, e, f, div-add-mod q 64, div-add-mod p 64) in
              ap (λ w. bit_at w (q % 64) == 1) read ∙ ap (λ k. bit_at new k == 1) f ∙ ap (λ b. b == 1) (bit_at_set_same w64 word (p % 64) within)
              ∙ sym (ap (λ b. has_bit words q || b) (eq-eqb p q same) ∙ or_same (has_bit words q))
          | inr ne ↦
              let apart : (p == q) ≡ false = ne_eqb p q (λ same. ne (ap (λ n. n % 64) (sym same))) in
              ap (λ w. bit_at w (q % 64) == 1) read ∙ ap (λ b. b == 1) (bit_at_set_other w64 word (p % 64) within (q % 64) ne)
              ∙ ap (λ j. bit_at (slice_index words j) (q % 64) == 1) (sym e)
              ∙ or_not (has_bit words q) ∙ ap (λ b. has_bit words q || b) (sym apart)
        ]
  ]

  pub holds-more : (n q : ℕ) → p < n → holds (set_of (set words (p / 64) new) n) q ≡ (holds (set_of words n) q || (p == q))
  holds-more n q l = elim (cases_lt q n) [
    | inl low ↦ holds-set_of (set words (p / 64) new) n q low ∙ has_bit-more q ∙ ap (λ b. b || (p == q)) (sym (holds-set_of words n q low))
    | inr high ↦
        let apart : (p == q) ≡ false = ne_eqb p q (λ e. omega (arith, e, l, high)) in
        holds-past (set words (p / 64) new) n q high ∙ sym (ap (λ b. b || (p == q)) (holds-past words n q high) ∙ apart)
  ]

-- ---- no offsets

zero-bit : (k : ℕ) → (bit_at 0 k == 1) ≡ false
zero-bit k = ap (λ b. b == 1) (bit_at-zero k)

has_none : (words : List ℕ) (m q : ℕ) → words ≡ replicate m 0 → has_bit words q ≡ false
has_none words m q e = elim (cases_lt (q / 64) m) [
  | inl low ↦ ap (λ ws. bit_at (slice_index ws (q / 64)) (q % 64) == 1) e ∙ ap (λ w. bit_at w (q % 64) == 1) (get_or-replicate m (q / 64) 0 0 low) ∙ zero-bit (q % 64)
  | inr high ↦ ap (λ ws. bit_at (slice_index ws (q / 64)) (q % 64) == 1) e ∙ ap (λ w. bit_at w (q % 64) == 1) (get_or_past (replicate m 0) (q / 64) 0 (omega (arith, high, length-replicate {A = ℕ} m 0))) ∙ zero-bit (q % 64)
]

pub holds_none : (words : List ℕ) (m n q : ℕ) → words ≡ replicate m 0 → holds (set_of words n) q ≡ false
holds_none words m n q e = elim (cases_lt q n) [
  | inl low ↦ holds-set_of words n q low ∙ has_none words m q e
  | inr high ↦ holds-past words n q high
]

-- ---- the next offset

-- none of the offsets from a up to b has its bit
abbrev pub NoneIn : List ℕ → ℕ → ℕ → Type 0
NoneIn words a b = (q : ℕ) → a ≤ q → q < b → has_bit words q ≡ false

-- the offset of a bit in a word
bit-in : (words : List ℕ) (j k q : ℕ) → q ≡ j * 64 + k → k < 64 → has_bit words q ≡ (bit_at (slice_index words j) k == 1)
bit-in words j k q e l =
    let part : q / 64 ≡ j = omega (arith, e, l, div-add-mod q 64, mod-lt q {m = 64} (omega arith)) in
    let rest : q % 64 ≡ k = omega (arith, e, l, part, div-add-mod q 64) in
    ap (λ i. bit_at (slice_index words i) (q % 64) == 1) part ∙ ap (λ i. bit_at (slice_index words j) i == 1) rest

shifted : (w k i : ℕ) → bit_at (w / 2 ^ k) i ≡ bit_at w (k + i)
shifted w k i = ap (λ x. x % 2) (shr-shr w k i)

-- what is left of a word from a bit on
pub no-bit : (w from : ℕ) → w / 2 ^ from ≡ 0 → HasNoBit w from
no-bit w from e k after inside =
    let i : ℕ = k - from in
    ap (bit_at w) (omega arith) ∙ sym (shifted w from i) ∙ ap (λ x. bit_at x i) e ∙ bit_at-zero i

pub lowest-bit : (w from : ℕ) → w < 2 ^ 64 → (w / 2 ^ from ≡ 0 → ⊥) → IsLowest w from (from + trailing_zeros w64 (w / 2 ^ from))
lowest-bit w from fits some =
    let lowest : ℕ = trailing_zeros w64 (w / 2 ^ from) in
    let at = bit_at-trailing_zeros w64 (w / 2 ^ from) (omega (arith, some)) (omega (arith, fits, div-le_self w (2 ^ from))) in
    let one : bit_at w (from + lowest) ≡ 1 = sym (shifted w from lowest) ∙ at.1 in
    record {
      after = omega arith;
      inside = elim (cases_lt (from + lowest) 64) [
        | inl low ↦ low
        | inr high ↦ absurd (let zero = bit_at_above w 64 (from + lowest) fits high in omega (arith, zero, one))
      ];
      one = one;
      least = λ k after below. (
          let i : ℕ = k - from in
          ap (bit_at w) (omega arith) ∙ sym (shifted w from i) ∙ at.2 i (omega arith));
    }

-- a word without a bit from one on has no offset there
pub none-in-word : (words : List ℕ) (first j k : ℕ) → HasNoBit (slice_index words j) k → NoneIn words first (j * 64 + k) → NoneIn words first ((j + 1) * 64)
none-in-word words first j k none before q from below = elim (cases_lt q (j * 64 + k)) [
  | inl low ↦ before q from low
  | inr high ↦ let i : ℕ = q - j * 64 in bit-in words j i q (omega arith) (omega arith) ∙ ap (λ b. b == 1) (none i (omega arith) (omega arith))
]

-- in the words of the contract
next-is : (words : List ℕ) (n first p : ℕ) → first ≤ p → p < n → has_bit words p ≡ true → NoneIn words first p → IsNext (set_of words n) first p
next-is words n first p after l is before = record {
  after = after;
  is = holds-set_of words n p l ∙ is;
  least = λ q from below. holds-set_of words n q (omega arith) ∙ before q from below;
}

pub none-is : (words : List ℕ) (n first p : ℕ) → n ≤ p → NoneIn words first p → HasNoneFrom (set_of words n) first
none-is words n first p l before q from = elim (cases_lt q n) [
  | inl low ↦ holds-set_of words n q low ∙ before q from (omega arith)
  | inr high ↦ holds-past words n q high
]

-- what is answered of an offset that is the next one, if it is one of the section
answered : (words : List ℕ) (n first p : ℕ) (s : List Bool) → set_of words n ≡ s → first ≤ p → has_bit words p ≡ true → NoneIn words first p → (r : Option ℕ)
    → MatchOption r (length s ≤ p) (λ same. (same ≡ p) × (p < length s)) → MatchOption r (HasNoneFrom s first) (IsNext s first)
answered words n first p s e after is before None past =
    let long = ap length e in
    subst (λ z. HasNoneFrom z first) e (none-is words n first p (omega (arith, past, long, length-set_of words n)) before)
answered words n first p s e after is before (Some x) (same, inside) =
    let long = ap length e in
    subst (λ z. IsNext z first x) e (subst (IsNext (set_of words n) first) (sym same) (next-is words n first p after (omega (arith, inside, long, length-set_of words n)) is before))

-- the lowest bit of a word is the next offset
pub next-in-word : (words : List ℕ) (n first j k bit : ℕ) (s : List Bool) → set_of words n ≡ s → IsLowest (slice_index words j) k bit
    → first ≤ j * 64 + k → NoneIn words first (j * 64 + k) → (r : Option ℕ)
    → MatchOption r (length s ≤ j * 64 + bit) (λ same. (same ≡ j * 64 + bit) × (j * 64 + bit < length s)) → MatchOption r (HasNoneFrom s first) (IsNext s first)
next-in-word words n first j k bit s e lowest from none r said =
    let inside = lowest.inside in
    let after = lowest.after in
    answered words n first (j * 64 + bit) s e (omega (arith, from, after))
    (bit-in words j bit (j * 64 + bit) (omega arith) inside ∙ ap (λ b. b == 1) lowest.one)
    (λ q low below. elim (cases_lt q (j * 64 + k)) [
      | inl under ↦ none q low under
      | inr high ↦
          let i : ℕ = q - j * 64 in
          bit-in words j i q (omega arith) (omega (arith, below, inside)) ∙ ap (λ b. b == 1) (lowest.least i (omega arith) (omega arith))
    ])
    r said
