-- Bits, and the number that they are with zeros after them.
use Rattle.std.proofs.Common.{◌≡◌, ℕ, zero, suc, ◌+◌, ◌-◌, ◌*◌, ◌/◌, ◌%◌, ◌^◌, ◌<◌, ◌≤◌, ◌==◌, cond, Bool, true, false, List, [], ◌∷◌, ◌++◌, length, take, refl, ap, arith, ◌∙◌}
use Rattle.std.proofs.lemmas.Nat.{div-mul-add}
use Rattle.std.proofs.lemmas.Nat.Bits.{bit_at_cat_low}
use Rattle.std.proofs.Math.Nat.{two-pow-succ}
use Rattle.std.proofs.Math.Pow.{pow_mono}
use Rattle.mmdb_net.specs.Bits.{bit_of, bits_of}
use Rattle.mmdb_net.specs.Bits.{number_of}
use Rattle.mmdb_reader.specs.ShownLeaf.{begins_with_zeros}
pub use Rattle.mmdb_tree.proofs.HighBits.{number-below}

-- room is left for the bits that follow
pub number-room : (rest : ℕ) (s : List Bool) → length s ≤ rest → number_of rest s + 2 ^ (rest - length s) ≤ 2 ^ rest
number-room rest [] h = let e : rest - 0 ≡ rest = omega arith in omega (arith, ap (λ (n : ℕ). 2 ^ n) e)
number-room zero (x ∷ s) h = absurd (omega arith)
number-room (suc rest) (x ∷ s) h =
    let e : suc rest - suc (length s) ≡ rest - length s = omega arith in
    let below = number-room rest s (omega arith) in
    let half = two-pow-succ rest in
    let size = ap (λ (n : ℕ). 2 ^ n) e in
    elim x as (λ y. cond y (2 ^ rest) 0 + number_of rest s + 2 ^ (suc rest - suc (length s)) ≤ 2 ^ suc rest) [
      | true ↦ omega (arith, below, half, size)
      | false ↦ omega (arith, below, half, size)
    ]

-- one bit more
pub number-snoc : (rest : ℕ) (s : List Bool) (x : Bool) → length s < rest → number_of rest (s ++ x ∷ []) ≡ number_of rest s + cond x (2 ^ (rest - length s - 1)) 0
number-snoc zero s x h = absurd (omega arith)
number-snoc (suc rest) [] x h =
    let e : suc rest - 0 - 1 ≡ rest = omega arith in
    let size = ap (λ (n : ℕ). cond x (2 ^ n) 0) e in
    omega (arith, size)
number-snoc (suc rest) (y ∷ s) x h =
    let e : suc rest - suc (length s) - 1 ≡ rest - length s - 1 = omega arith in
    let size = ap (λ (n : ℕ). cond x (2 ^ n) 0) e in
    let below = number-snoc rest s x (omega arith) in
    omega (arith, size, below)

-- the lower bits of a number don't depend on what is above them
bits_of-low : (count w b m : ℕ) → count ≤ w → bits_of count (b * 2 ^ w + m) ≡ bits_of count m
unfolding bits_of
bits_of-low zero w b m h = refl
bits_of-low (suc k) w b m h =
    let bit : bit_of (b * 2 ^ w + m) k ≡ bit_of m k = ap (λ (x : ℕ). x == 1) (bit_at_cat_low b w m k (omega arith)) in
    rw bit (ap (λ (xs : List Bool). bit_of m k ∷ xs) (bits_of-low k w b m (omega arith)))

-- the first bits of the number are the bits
pub take-bits-number : (rest : ℕ) (s : List Bool) → length s ≤ rest → take (length s) (bits_of rest (number_of rest s)) ≡ s
unfolding bits_of
take-bits-number rest [] h = refl
take-bits-number zero (x ∷ s) h = absurd (omega arith)
take-bits-number (suc rest) (true ∷ s) h =
    let m : ℕ = number_of rest s in
    let e : 2 ^ rest + number_of rest s ≡ 1 * 2 ^ rest + number_of rest s = omega arith in
    let high : (2 ^ rest + number_of rest s) / 2 ^ rest ≡ 1 = ap (λ (n : ℕ). n / 2 ^ rest) e ∙ div-mul-add 1 (2 ^ rest) (number_of rest s) (number-below rest s) in
    let bit : bit_of (2 ^ rest + number_of rest s) rest ≡ true = ap (λ (n : ℕ). n % 2 == 1) high in
    let low : bits_of rest (2 ^ rest + number_of rest s) ≡ bits_of rest (number_of rest s) = ap (bits_of rest) e ∙ bits_of-low rest rest 1 (number_of rest s) (omega arith) in
    rw (bit, low) (ap (λ (xs : List Bool). true ∷ xs) (take-bits-number rest s (omega arith)))
take-bits-number (suc rest) (false ∷ s) h =
    let e : 0 + number_of rest s ≡ 0 * 2 ^ rest + number_of rest s = omega arith in
    let high : (0 + number_of rest s) / 2 ^ rest ≡ 0 = ap (λ (n : ℕ). n / 2 ^ rest) e ∙ div-mul-add 0 (2 ^ rest) (number_of rest s) (number-below rest s) in
    let bit : bit_of (0 + number_of rest s) rest ≡ false = ap (λ (n : ℕ). n % 2 == 1) high in
    let low : bits_of rest (0 + number_of rest s) ≡ bits_of rest (number_of rest s) = ap (bits_of rest) (omega arith) in
    rw (bit, low) (ap (λ (xs : List Bool). false ∷ xs) (take-bits-number rest s (omega arith)))

-- bits that begin with zeros are a small number
pub zeros-number : (count w : ℕ) (s : List Bool) → count ≤ w → begins_with_zeros count s ≡ true → (count ≤ length s) × (number_of w s < 2 ^ (w - count))
unfolding begins_with_zeros
zeros-number zero w s h z =
    let e : w - 0 ≡ w = omega arith in
    (omega arith, omega (arith, number-below w s, ap (λ (n : ℕ). 2 ^ n) e))
zeros-number (suc count) w [] h z = cc
zeros-number (suc count) zero (x ∷ s) h z = absurd (omega arith)
zeros-number (suc count) (suc w) (true ∷ s) h z = cc
zeros-number (suc count) (suc w) (false ∷ s) h z =
    let below = zeros-number count w s (omega arith) z in
    let e : suc w - suc count ≡ w - count = omega arith in
    (omega (arith, below.0), omega (arith, below.1, ap (λ (n : ℕ). 2 ^ n) e))

-- and the other way round
pub number-zeros : (count w : ℕ) (s : List Bool) → count ≤ w → count ≤ length s → number_of w s < 2 ^ (w - count) → begins_with_zeros count s ≡ true
unfolding begins_with_zeros
number-zeros zero w s h long small = refl
number-zeros (suc count) w [] h long small = absurd (omega arith)
number-zeros (suc count) zero (x ∷ s) h long small = absurd (omega arith)
number-zeros (suc count) (suc w) (true ∷ s) h long small =
    let le : 2 ^ (suc w - suc count) ≤ 2 ^ w = pow_mono (omega arith) in
    absurd (omega (arith, le, small))
number-zeros (suc count) (suc w) (false ∷ s) h long small =
    let e : suc w - suc count ≡ w - count = omega arith in
    number-zeros count w s (omega arith) (omega arith) (omega (arith, small, ap (λ (n : ℕ). 2 ^ n) e))
