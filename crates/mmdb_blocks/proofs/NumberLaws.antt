-- Multiples of powers of two.
use Rattle.std.proofs.Common.{◌≡◌, ℕ, suc, ◌+◌, ◌-◌, ◌*◌, ◌/◌, ◌%◌, ◌^◌, ◌<◌, ◌≤◌, ap, arith, ◌∙◌, bit_and}
use Rattle.std.proofs.lemmas.Nat.{pow-add, pow_pos, shr_split, and_mask}
use Rattle.std.proofs.lemmas.Bool.{cases_lt}
use Rattle.std.proofs.Math.Nat.{mul-mod_left, mul-le-mul_right}
use Rattle.std.proofs.Common.{inl, inr}

-- a multiple below another is a whole step below it
pub step-le : (a b x : ℕ) → a * x < b * x → a * x + x ≤ b * x
step-le a b x below = elim (cases_lt a b) [
  | inl lt ↦ (let more : (a + 1) * x ≤ b * x = mul-le-mul_right x (omega arith) in omega (arith, more))
  | inr le ↦ (let less : b * x ≤ a * x = mul-le-mul_right x le in absurd (omega arith))
]

-- a multiple is its quotient times the power
pub quotient : (s l : ℕ) → s % 2 ^ l ≡ 0 → s ≡ s / 2 ^ l * 2 ^ l
quotient s l aligned = omega (arith, shr_split s l)

pub split-pow : (n m : ℕ) → n ≤ m → 2 ^ m ≡ 2 ^ (m - n) * 2 ^ n
split-pow n m le = let e : m ≡ (m - n) + n = omega arith in ap (λ (k : ℕ). 2 ^ k) e ∙ pow-add 2 (m - n) n

-- a multiple of a power is one of each lower power
pub lower : (s n m : ℕ) → n ≤ m → s % 2 ^ m ≡ 0 → s % 2 ^ n ≡ 0
lower s n m le aligned =
    let e : s ≡ s / 2 ^ m * 2 ^ (m - n) * 2 ^ n = grouped s (s / 2 ^ m) (2 ^ m) (2 ^ (m - n)) (2 ^ n) (quotient s m aligned) (split-pow n m le) in
    ap (λ (k : ℕ). k % 2 ^ n) e ∙ mul-mod_left (s / 2 ^ m * 2 ^ (m - n)) (2 ^ n)
  where
    grouped : (s q x y z : ℕ) → s ≡ q * x → x ≡ y * z → s ≡ q * y * z
    grouped s q x y z e f = e ∙ ap (λ (k : ℕ). q * k) f ∙ grind arith

-- the next multiple
pub next-multiple : (s n : ℕ) → s % 2 ^ n ≡ 0 → (s + 2 ^ n) % 2 ^ n ≡ 0
next-multiple s n aligned =
    let e : s + 2 ^ n ≡ (s / 2 ^ n + 1) * 2 ^ n = omega (arith, quotient s n aligned) in
    ap (λ (k : ℕ). k % 2 ^ n) e ∙ mul-mod_left (s / 2 ^ n + 1) (2 ^ n)

-- a block that begins before the end of a larger one ends there at the latest
pub nested : (s t n m : ℕ) → n ≤ m → s % 2 ^ n ≡ 0 → t % 2 ^ m ≡ 0 → s < t + 2 ^ m → s + 2 ^ n ≤ t + 2 ^ m
nested s t n m le s_aligned t_aligned below =
    let after : (t + 2 ^ m) % 2 ^ n ≡ 0 = lower (t + 2 ^ m) n m le (next-multiple t m t_aligned) in
    let e : s ≡ s / 2 ^ n * 2 ^ n = quotient s n s_aligned in
    let f : t + 2 ^ m ≡ (t + 2 ^ m) / 2 ^ n * 2 ^ n = quotient (t + 2 ^ m) n after in
    omega (arith, e, f, step-le (s / 2 ^ n) ((t + 2 ^ m) / 2 ^ n) (2 ^ n) (omega (arith, e, f, below)))

-- two blocks of one size that meet begin at one address
pub same-start : (s t m : ℕ) → s % 2 ^ m ≡ 0 → t % 2 ^ m ≡ 0 → t ≤ s → s < t + 2 ^ m → s ≡ t
same-start s t m s_aligned t_aligned le below = omega (arith, nested s t m m (omega arith) s_aligned t_aligned below)

pub doubled : (n : ℕ) → 2 ^ suc n ≡ 2 * 2 ^ n
doubled n = let e : suc n ≡ 1 + n = omega arith in ap (λ (k : ℕ). 2 ^ k) e ∙ pow-add 2 1 n

-- where a right half begins, no larger block does
pub right-half-level : (s n m : ℕ) → s % 2 ^ suc n ≡ 0 → (s + 2 ^ n) % 2 ^ m ≡ 0 → m ≤ n
right-half-level s n m left right = elim (cases_lt n m) [
  | inl lt ↦ (
      let aligned : (s + 2 ^ n) % 2 ^ suc n ≡ 0 = lower (s + 2 ^ n) (suc n) m (omega arith) right in
      let twice : 2 ^ suc n ≡ 2 * 2 ^ n = doubled n in
      let same : s + 2 ^ n ≡ s = same-start (s + 2 ^ n) s (suc n) aligned left (omega arith) (omega (arith, twice, pow_pos n)) in
      absurd (omega (arith, same, pow_pos n)))
  | inr le ↦ le
]

-- a power is at least twice a lower one
pub twice-le : (n m : ℕ) → n < m → 2 * 2 ^ n ≤ 2 ^ m
twice-le n m lt =
    let e : 2 ^ m ≡ 2 ^ (m - suc n) * 2 ^ suc n = split-pow (suc n) m (omega arith) in
    let one : 1 * 2 ^ suc n ≤ 2 ^ (m - suc n) * 2 ^ suc n = mul-le-mul_right (2 ^ suc n) (omega (arith, pow_pos (m - suc n))) in
    omega (arith, e, one, doubled n)

-- a number masked by the ones below a bit
pub masked : (n ones l : ℕ) → ones + 1 ≡ 2 ^ l → bit_and n ones ≡ n % 2 ^ l
masked n ones l e = let below : ones ≡ 2 ^ l - 1 = omega arith in ap (λ (k : ℕ). bit_and n k) below ∙ and_mask n l
