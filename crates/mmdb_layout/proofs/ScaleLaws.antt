-- Numbers with powers of ten: which of two is smaller.
use Rattle.std.proofs.Common.{◌≡◌, ℕ, ◌+◌, ◌-◌, ◌*◌, ◌^◌, ◌<◌, ◌≤◌, ◌↔◌, min, refl, sym, ap, ◌∙◌, inl, inr, arith, lit<}
use Rattle.std.proofs.lemmas.Bool.{cases_lt}
use Rattle.std.proofs.lemmas.Nat.{pow-add}
use Rattle.std.proofs.Math.Nat.{mul-le-mul_right, mul-le-mul_left, pow-le-pow_right, one-le-pow, lt_of_mul-lt-mul_right, mul-lt-mul_of_pos_right}

some_ten : (k : ℕ) → 0 < 10 ^ k
some_ten k = omega (arith, one-le-pow k 10 (lit< tt))

pub more_tens : (i j : ℕ) → i ≤ j → 10 ^ i ≤ 10 ^ j
more_tens i j h = pow-le-pow_right (lit< tt) h

-- more zeros than digits change nothing, after the number that is to be smaller
cut_own : (a b k most : ℕ) → b < 10 ^ most → (a * 10 ^ min k most < b) ↔ (a * 10 ^ k < b)
cut_own a b k most small = elim (cases_lt most k) [
  | inr few ↦ let same : min k most ≡ k = omega (arith, few) in let way = ap (λ z. a * 10 ^ z) same in (λ h. omega (arith, way, h), λ h. omega (arith, way, h))
  | inl many ↦
      let same : min k most ≡ most = omega (arith, many) in
      let way : a * 10 ^ min k most ≡ a * 10 ^ most = ap (λ z. a * 10 ^ z) same in
      let none : a * 10 ^ most < b → a ≡ 0 = λ h. elim (cases_lt a 1) [
        | inl zero_is ↦ omega (arith, zero_is)
        | inr some ↦ absurd (omega (arith, h, small, mul-le-mul_right (10 ^ most) some))
      ] in (
        λ h. let is : a ≡ 0 = none (omega (arith, way, h)) in omega (arith, way, h, ap (λ n. n * 10 ^ k) is, ap (λ n. n * 10 ^ most) is),
        λ h. omega (arith, way, h, mul-le-mul_left a (more_tens most k (omega (arith, many)))),
      )
]

-- and after the other one
cut_other : (a b k most : ℕ) → a < 10 ^ most → (a < b * 10 ^ min k most) ↔ (a < b * 10 ^ k)
cut_other a b k most small = elim (cases_lt most k) [
  | inr few ↦ let same : min k most ≡ k = omega (arith, few) in let way = ap (λ z. b * 10 ^ z) same in (λ h. omega (arith, way, h), λ h. omega (arith, way, h))
  | inl many ↦
      let same : min k most ≡ most = omega (arith, many) in
      let way : b * 10 ^ min k most ≡ b * 10 ^ most = ap (λ z. b * 10 ^ z) same in (
        λ h. omega (arith, way, h, mul-le-mul_left b (more_tens most k (omega (arith, many)))),
        λ h. elim (cases_lt b 1) [
          | inl zero_is ↦ let is : b ≡ 0 = omega (arith, zero_is) in absurd (omega (arith, h, ap (λ n. n * 10 ^ k) is))
          | inr some ↦ omega (arith, way, small, mul-le-mul_right (10 ^ most) some)
        ],
      )
]

-- powers of ten that both have are left out
join : (a i j k : ℕ) → i + j ≡ k → a * 10 ^ i * 10 ^ j ≡ a * 10 ^ k
join a i j k e = omega (arith, ap (λ y. a * y) (pow-add 10 i j), ap (λ n. a * 10 ^ n) e)

shared : (a b i j k : ℕ) → (a * 10 ^ i < b * 10 ^ j) ↔ (a * 10 ^ i * 10 ^ k < b * 10 ^ j * 10 ^ k)
shared a b i j k = (λ h. mul-lt-mul_of_pos_right h (some_ten k), λ h. lt_of_mul-lt-mul_right (10 ^ k) h)

pub along : {A B C : Type 0} → A ↔ B → B ↔ C → A ↔ C
along f g = (λ a. g.0 (f.0 a), λ c. f.1 (g.1 c))

pub equal_ends : (a b c d : ℕ) → a ≡ c → b ≡ d → (a < b) ↔ (c < d)
equal_ends a b c d p q = (λ h. omega (arith, p, q, h), λ h. omega (arith, p, q, h))

-- numbers of few digits, with zeros for the powers of ten that only one has
pub scaled : (a b up_a up_b down_a down_b most : ℕ) → a < 10 ^ most → b < 10 ^ most
    → (a * 10 ^ min (up_a + down_b - (up_b + down_a)) most < b * 10 ^ min (up_b + down_a - (up_a + down_b)) most) ↔ (a * 10 ^ up_a * 10 ^ down_b < b * 10 ^ up_b * 10 ^ down_a)
scaled a b up_a up_b down_a down_b most sa sb =
    let i : ℕ = up_a + down_b in
    let j : ℕ = up_b + down_a in
    let whole_a : a * 10 ^ up_a * 10 ^ down_b ≡ a * 10 ^ i = join a up_a down_b i refl in
    let whole_b : b * 10 ^ up_b * 10 ^ down_a ≡ b * 10 ^ j = join b up_b down_a j refl in
    elim (cases_lt i j) [
      | inl less ↦
          let k : ℕ = j - i in
          let none : min (i - j) most ≡ 0 = omega (arith, less) in
          let one : a * 10 ^ min (i - j) most ≡ a = ap (λ z. a * 10 ^ z) none ∙ omega arith in
          let same : b * 10 ^ k * 10 ^ i ≡ b * 10 ^ j = join b k i j (omega (arith, less)) in
          let unit : a * 10 ^ 0 ≡ a = omega arith in
          let first = equal_ends (a * 10 ^ min (i - j) most) (b * 10 ^ min k most) a (b * 10 ^ min k most) one refl in
          let second = cut_other a b k most sa in
          let third = equal_ends a (b * 10 ^ k) (a * 10 ^ 0) (b * 10 ^ k) (sym unit) refl in
          let fourth = shared a b 0 k i in
          let fifth = equal_ends (a * 10 ^ 0 * 10 ^ i) (b * 10 ^ k * 10 ^ i) (a * 10 ^ up_a * 10 ^ down_b) (b * 10 ^ up_b * 10 ^ down_a) (join a 0 i i (omega arith) ∙ sym whole_a) (same ∙ sym whole_b) in
          along first (along second (along third (along fourth fifth)))
      | inr more ↦
          let k : ℕ = i - j in
          let none : min (j - i) most ≡ 0 = omega (arith, more) in
          let one : b * 10 ^ min (j - i) most ≡ b = ap (λ z. b * 10 ^ z) none ∙ omega arith in
          let same : a * 10 ^ k * 10 ^ j ≡ a * 10 ^ i = join a k j i (omega (arith, more)) in
          let unit : b * 10 ^ 0 ≡ b = omega arith in
          let first = equal_ends (a * 10 ^ min k most) (b * 10 ^ min (j - i) most) (a * 10 ^ min k most) b refl one in
          let second = cut_own a b k most sb in
          let third = equal_ends (a * 10 ^ k) b (a * 10 ^ k) (b * 10 ^ 0) refl (sym unit) in
          let fourth = shared a b k 0 j in
          let fifth = equal_ends (a * 10 ^ k * 10 ^ j) (b * 10 ^ 0 * 10 ^ j) (a * 10 ^ up_a * 10 ^ down_b) (b * 10 ^ up_b * 10 ^ down_a) (same ∙ sym whole_a) (join b 0 j j (omega arith) ∙ sym whole_b) in
          along first (along second (along third (along fourth fifth)))
    ]
