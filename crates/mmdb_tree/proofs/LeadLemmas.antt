-- Where numbers lead.
use Rattle.std.proofs.Common.{◌≡◌, ℕ, ◌+◌, ◌-◌, ◌<◌, ◌≤◌, ◌==◌, ◌&&◌, true, false, nat_le, nat_lt, refl, arith, inl, inr}
use Rattle.std.proofs.lemmas.Bool.{cases_Bool, cases_lt, lt-ltb, le-ltb, le-leb, lt-leb, eq-eqb, ne_eqb, ltb-true, and_parts}
use Rattle.mmdb_tree.specs.declared.record.TreeRecord.TheVariants.{Node, Empty, Data, Invalid}
use Rattle.mmdb_tree.specs.Records.{record_of}

pub record-node : (count len number : ℕ) → number < count → record_of count len number ≡ Node number
unfolding record_of
record-node count len number on = let test : nat_lt number count ≡ true = lt-ltb _ _ on in rw test refl

pub record-empty : (count len number : ℕ) → number ≡ count → record_of count len number ≡ Empty
unfolding record_of
record-empty count len number is =
    let off : nat_lt number count ≡ false = le-ltb _ _ (omega arith) in
    let end : (number == count) ≡ true = eq-eqb _ _ is in
    rw (off, end) refl

pub record-data : (count len number offset : ℕ) → number ≡ count + 16 + offset → offset < len → record_of count len number ≡ Data offset
unfolding record_of
record-data count len number offset is inside =
    let off : nat_lt number count ≡ false = le-ltb _ _ (omega arith) in
    let past : (number == count) ≡ false = ne_eqb number count (λ e. omega (arith, e, is)) in
    let far : nat_le (count + 16) number ≡ true = le-leb _ _ (omega arith) in
    let back : number - count - 16 ≡ offset = omega arith in
    let low : nat_lt offset len ≡ true = lt-ltb _ _ inside in
    rw (off, past, far, back, low) refl

beyond : (count len number : ℕ) → count + 16 ≤ number → ((offset : ℕ) → number ≡ count + 16 + offset → offset < len → ⊥) → len ≤ number - count - 16
beyond count len number far nowhere = elim (cases_lt (number - count - 16) len) [
  | inl low ↦ absurd (nowhere (number - count - 16) (omega arith) low)
  | inr high ↦ high
]

pub record-invalid : (count len number : ℕ) → count < number → ((offset : ℕ) → number ≡ count + 16 + offset → offset < len → ⊥) → record_of count len number ≡ Invalid
unfolding record_of
record-invalid count len number over nowhere =
    let off : nat_lt number count ≡ false = le-ltb _ _ (omega arith) in
    let past : (number == count) ≡ false = ne_eqb number count (λ e. omega (arith, e, over)) in
    elim (cases_lt number (count + 16)) [
      | inl near ↦ let test : nat_le (count + 16) number ≡ false = lt-leb _ _ near in rw (off, past, test) refl
      | inr far ↦
          let test : nat_le (count + 16) number ≡ true = le-leb _ _ far in
          let high : nat_lt (number - count - 16) len ≡ false = le-ltb _ _ (beyond count len number far nowhere) in
          rw (off, past, test, high) refl
    ]

-- an offset to which a number leads is one of the data section
pub data-inside : (count len number offset : ℕ) → record_of count len number ≡ Data offset → offset < len
unfolding record_of
data-inside count len number offset e = elim (cases_Bool (nat_lt number count)) [
  | inl on ↦ absurd (let no : Node number ≡ Data offset = rw on at e in cc)
  | inr off ↦ elim (cases_Bool (number == count)) [
    | inl end ↦ absurd (let no : Empty ≡ Data offset = rw (off, end) at e in cc)
    | inr past ↦ elim (cases_Bool (nat_le (count + 16) number && nat_lt (number - count - 16) len)) [
      | inl fits ↦
          let same : Data (number - count - 16) ≡ Data offset = rw (off, past, fits) at e in
          let is : number - count - 16 ≡ offset = cc in
          let less = ltb-true (number - count - 16) len (and_parts (nat_le (count + 16) number) (nat_lt (number - count - 16) len) fits).1 in
          omega (arith, less, is)
      | inr out ↦ absurd (let no : Invalid ≡ Data offset = rw (off, past, out) at e in cc)
    ]
  ]
]
