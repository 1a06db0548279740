-- Where an equals sign is outside quotes.
use Rattle.std.proofs.Common.{◌≡◌, ℕ, zero, suc, ◌+◌, ◌%◌, ◌<◌, ◌⊎◌, Bool, true, false, not, nat_eq, if◌then◌else◌, List, [], ◌∷◌, ◌++◌, length, get_or, take, drop, take-append-drop, true≢false, refl, sym, ap, ◌∙◌, arith, inl, inr, add-one}
use Rattle.std.proofs.lemmas.Bool.{cases_lt}
use Rattle.std.proofs.lemmas.List.{length-take-le}
use mathlib.Core.Bool.{beq}
use Rattle.mmdb_layout.specs.Conditions.{quotes, IsSign}

one_more : (bytes : List ℕ) (k : ℕ) → k < length bytes → quotes (take (suc k) bytes) ≡ quotes (take k bytes) + (if nat_eq (get_or bytes k 0) 34 then 1 else 0)
one_more [] k within = absurd (omega (arith, within))
one_more (b ∷ bytes) zero within = omega arith
one_more (b ∷ bytes) (suc k) within = omega (arith, one_more bytes k (omega (arith, within)))

parity : (n : ℕ) → (n % 2 ≡ 0) ⊎ (n % 2 ≡ 1)
parity n = elim (cases_lt (n % 2) 1) [ inl low ↦ inl (omega (arith, low)) | inr high ↦ inr (omega (arith, high)) ]

toggled : (n : ℕ) (c : Bool) → not (beq (nat_eq (n % 2) 1) c) ≡ nat_eq ((n + (if c then 1 else 0)) % 2) 1
toggled n true = elim (parity n) [
  | inl even ↦ let next : (n + 1) % 2 ≡ 1 = omega (arith, even) in rw (even, next) refl
  | inr odd ↦ let next : (n + 1) % 2 ≡ 0 = omega (arith, odd) in rw (odd, next) refl
]
toggled n false = elim (parity n) [
  | inl even ↦ let next : (n + 0) % 2 ≡ 0 = omega (arith, even) in rw (even, next) refl
  | inr odd ↦ let next : (n + 0) % 2 ≡ 1 = omega (arith, odd) in rw (odd, next) refl
]

-- what is quoted after one byte more
pub quoted_more : (bytes : List ℕ) (k : ℕ) (quoted : Bool) → k < length bytes → quoted ≡ nat_eq (quotes (take k bytes) % 2) 1
    → not (beq quoted (nat_eq (get_or bytes k 0) 34)) ≡ nat_eq (quotes (take (k + 1) bytes) % 2) 1
quoted_more bytes k quoted within is =
    let more : quotes (take (k + 1) bytes) ≡ quotes (take k bytes) + (if nat_eq (get_or bytes k 0) 34 then 1 else 0) = ap (λ n. quotes (take n bytes)) (add-one k) ∙ one_more bytes k within in
    ap (λ q. not (beq q (nat_eq (get_or bytes k 0) 34))) is ∙ toggled (quotes (take k bytes)) (nat_eq (get_or bytes k 0) 34) ∙ ap (λ n. nat_eq (n % 2) 1) (sym more)

-- no sign is inside quotes
pub inside : (bytes : List ℕ) (k : ℕ) (quoted : Bool) → quoted ≡ nat_eq (quotes (take k bytes) % 2) 1 → quoted ≡ true → IsSign bytes k → ⊥
inside bytes k quoted is on sign =
    let even : quotes (take k bytes) % 2 ≡ 0 = sign.outside in
    let no : quoted ≡ false = is ∙ ap (λ n. nat_eq n 1) even in
    true≢false (sym on ∙ no)

-- a text is what comes before a place, the byte there and what comes after it
pub around : (bytes : List ℕ) (k : ℕ) → k < length bytes → bytes ≡ take k bytes ++ (get_or bytes k 0 ∷ []) ++ drop (k + 1) bytes
around bytes k within = sym (take-append-drop (k + 1) bytes) ∙ ap (λ front. front ++ drop (k + 1) bytes) (ap (λ n. take n bytes) (add-one k) ∙ front bytes k within)
  where
    front : (bytes : List ℕ) (k : ℕ) → k < length bytes → take (suc k) bytes ≡ take k bytes ++ (get_or bytes k 0 ∷ [])
    front [] k within = absurd (omega (arith, within))
    front (b ∷ bytes) zero within = refl
    front (b ∷ bytes) (suc k) within = ap (λ rest. b ∷ rest) (front bytes k (omega (arith, within)))

pub length-front : (bytes : List ℕ) (k : ℕ) → k < length bytes → length (take k bytes) ≡ k
length-front bytes k within = length-take-le k bytes (omega (arith, within))
