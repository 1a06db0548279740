-- Bits that are high: a number of at least 2^32, with zeros after them.
use Rattle.std.proofs.Common.{◌≡◌, ℕ, ◌+◌, ◌^◌, ◌<◌, ◌≤◌, zero, suc, Bool, true, false, not, ◌||◌, ◌&&◌, leb, ltb, List, [], ◌∷◌, ◌++◌, length, arith, sym, ap, ◌∙◌, refl, inl, inr}
use Rattle.std.proofs.lemmas.Bool.{cases_lt, le-leb, lt-leb, lt-ltb, le-ltb}
use Rattle.std.proofs.Math.Nat.{two-pow-succ}
use Rattle.std.proofs.Math.Pow.{pow_mono, pow_pos}
use Rattle.mmdb_tree.specs.Tree.{walk}
use Rattle.mmdb_net.specs.Bits.{number_of}
use Rattle.mmdb_tree.specs.Stops.{WalkedTree, record_in, is_alias_in, goes_on, at_stop, end_at}
use Rattle.mmdb_tree.specs.Working.{is_alias_of, goes_on_from, end_from}

pub number-below : (rest : ℕ) (s : List Bool) → number_of rest s < 2 ^ rest
number-below rest [] = pow_pos rest
number-below zero (x ∷ s) = pow_pos 0
number-below (suc rest) (true ∷ s) = let h = number-below rest s in omega (arith, h, two-pow-succ rest)
number-below (suc rest) (false ∷ s) = let h = number-below rest s in omega (arith, h, two-pow-succ rest)

-- one of the bits is 1 whose weight is 2^32 or more
abbrev high_bits : ℕ → List Bool → Bool
high_bits rest [] = false
high_bits zero (x ∷ s) = false
high_bits (suc rest) (x ∷ s) = (x && leb 32 rest) || high_bits rest s

pub high_of : WalkedTree → List Bool → Bool
high_of walked s = high_bits walked.width s

or_false : (b : Bool) → b ≡ (b || false)
or_false true = refl
or_false false = refl

high-number : (rest : ℕ) (s : List Bool) → high_bits rest s ≡ leb (2 ^ 32) (number_of rest s)
high-number rest [] = sym (lt-leb (2 ^ 32) 0 (pow_pos 32))
high-number zero (x ∷ s) = sym (lt-leb (2 ^ 32) 0 (pow_pos 32))
high-number (suc rest) (true ∷ s) = elim (cases_lt 31 rest) [
  | inl large ↦
      let least : 32 ≤ rest = omega arith in
      let most : 2 ^ 32 ≤ 2 ^ rest = pow_mono least in
      rw (le-leb 32 rest (omega arith)) (sym (le-leb (2 ^ 32) (2 ^ rest + number_of rest s) (omega (arith, most))))
  | inr small ↦
      let few : suc rest ≤ 32 = omega arith in
      let least : 2 ^ suc rest ≤ 2 ^ 32 = pow_mono few in
      let twice = two-pow-succ rest in
      let below = number-below rest s in
      rw (lt-leb 32 rest (omega arith), high-number rest s) (lt-leb (2 ^ 32) (number_of rest s) (omega (arith, below, least, twice)) ∙ sym (lt-leb (2 ^ 32) (2 ^ rest + number_of rest s) (omega (arith, below, least, twice))))
]
high-number (suc rest) (false ∷ s) = let same : number_of rest s ≡ 0 + number_of rest s = omega arith in high-number rest s ∙ ap (leb (2 ^ 32)) same

test_same : (a b : ℕ) → leb a b ≡ ltb a (suc b)
test_same a b = elim (cases_lt a (suc b)) [ inl l ↦ le-leb a b (omega arith) ∙ sym (lt-ltb a (suc b) l) | inr g ↦ lt-leb a b (omega arith) ∙ sym (le-ltb a (suc b) g) ]

pub lt_same : (a b c d : ℕ) → (a < b → c < d) → (c < d → a < b) → ltb a b ≡ ltb c d
lt_same a b c d to from = elim (cases_lt a b) [
  | inl less ↦ lt-ltb a b less ∙ sym (lt-ltb c d (to less))
  | inr more ↦ elim (cases_lt c d) [ inl less ↦ absurd (let back = from less in omega (arith, back, more)) | inr other ↦ le-ltb a b more ∙ sym (le-ltb c d other) ]
]

or_assoc : (a b c : Bool) → (a || (b || c)) ≡ ((a || b) || c)
or_assoc true b c = refl
or_assoc false b c = refl

high_bits-snoc : (rest : ℕ) (s : List Bool) (x : Bool) → length s < rest → high_bits rest (s ++ x ∷ []) ≡ (high_bits rest s || (x && ltb (length s + 32) rest))
high_bits-snoc zero s x h = absurd (omega arith)
high_bits-snoc (suc rest) [] x h = sym (or_false (x && leb 32 rest)) ∙ ap (λ (b : Bool). x && b) (test_same 32 rest)
high_bits-snoc (suc rest) (y ∷ s) x h =
    ap (λ (b : Bool). (y && leb 32 rest) || b) (high_bits-snoc rest s x (omega arith)) ∙ or_assoc (y && leb 32 rest) (high_bits rest s) (x && ltb (length s + 32) rest)
    ∙ ap (λ (b : Bool). ((y && leb 32 rest) || high_bits rest s) || (x && b)) (lt_same (length s + 32) rest (suc (length s) + 32) (suc rest) (λ l. omega arith) (λ l. omega arith))

pub high-nil : (walked : WalkedTree) → high_of walked [] ≡ false
unfolding high_of
high-nil walked = refl

pub high-is : (walked : WalkedTree) (s : List Bool) → high_of walked s ≡ leb (2 ^ 32) (number_of walked.width s)
unfolding high_of
high-is walked s = high-number walked.width s

pub high-snoc : (walked : WalkedTree) (s : List Bool) (x : Bool) → length s < walked.width → high_of walked (s ++ x ∷ []) ≡ (high_of walked s || (x && ltb (length s + 32) walked.width))
unfolding high_of
high-snoc walked s x h = high_bits-snoc walked.width s x h

-- ---- aliases by high bits

pub alias-is : (walked : WalkedTree) (s : List Bool) → is_alias_in walked s ≡ is_alias_of walked (walk walked.tree s) (high_of walked s)
unfolding high_of is_alias_in
alias-is walked s = ap (λ (b : Bool). is_alias_of walked (walk walked.tree s) b) (sym (high-number walked.width s))

pub goes-on-is : (walked : WalkedTree) (s : List Bool) → goes_on walked s ≡ goes_on_from walked (walk walked.tree s) (high_of walked s)
goes-on-is walked s = ap (λ (b : Bool). not b && ltb (walk walked.tree s) walked.tree.node_count) (alias-is walked s)

pub end-at-is : (walked : WalkedTree) (s : List Bool) → end_at walked s ≡ end_from walked (walk walked.tree s) (high_of walked s)
end-at-is walked s = ap (at_stop (record_in walked (walk walked.tree s))) (alias-is walked s)
