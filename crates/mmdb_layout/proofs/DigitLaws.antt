-- Rows of digits: which of two writes the smaller number.
use Rattle.std.proofs.Common.{◌≡◌, ℕ, zero, suc, ◌+◌, ◌-◌, ◌*◌, ◌^◌, ◌<◌, ◌≤◌, List, [], ◌∷◌, ◌++◌, length, take, replicate, get_or, ◌↔◌, Bool, IsTrue, refl, sym, ap, ◌∙◌, subst, inl, inr, arith, lit<, lit≤, length-append, append_assoc}
use Rattle.std.proofs.lemmas.List.{take_all}
use Rattle.std.proofs.lemmas.Cmp.{ranked}
use Rattle.std.proofs.lemmas.Bool.{false≢true, cases_lt}
use Rattle.std.proofs.lemmas.Str.Parse.{digit_from_value, digit_at, digits_value-take-le}
use Rattle.std.proofs.lemmas.Str.{digit_value_digit}
use Rattle.std.proofs.lemmas.Int.Digits.{digits_value-lt, digits_value_more}
use Rattle.std.proofs.Math.Nat.{mul-le-mul_right, one-le-pow}
use Rattle.std.specs.Char.{digit_value}
use Rattle.std.specs.Cmp.Lexicographic.{slice_cmp}
use Rattle.std.specs.Ordering.{MatchOrdering, nat_cmp, ordering_then, is_lt}
use Rattle.std.specs.declared.cmp.Ordering.{Ordering}
use Rattle.std.specs.declared.cmp.Ordering.TheVariants.{Less, Equal, Greater}
use Rattle.std.specs.Str.Parse.{AllDigits, digits_value}
use Rattle.fast_float.proofs.DigitsLemmas.{digits_value_after_is, digits_value-append}
use Rattle.fast_float.proofs.Rows.{AllDigits-append}

-- a digit is its value above that of `0`
pub digit_is : (c : ℕ) → digit_value c < 10 → digit_value c + 48 ≡ c
digit_is c h = digit_value_digit c (digit_from_value c h)

-- a first digit is worth its value in front of the others
pub first_worth : (d : ℕ) (ds : List ℕ) → digits_value 10 (d ∷ ds) ≡ digit_value d * 10 ^ length ds + digits_value 10 ds
first_worth d ds = omega (arith, digits_value_after_is (0 * 10 + digit_value d) ds)

-- the order of numbers with the same digits first
module _ (x y : ℕ) (xs ys : List ℕ) (xd : digit_value x < 10) (yd : digit_value y < 10) (xa : AllDigits 10 xs) (ya : AllDigits 10 ys) (long : length xs ≡ length ys) where
  below : (a b : ℕ) (left right : List ℕ) → digit_value a < 10 → digit_value b < 10 → AllDigits 10 left → length left ≡ length right → a < b → digits_value 10 (a ∷ left) < digits_value 10 (b ∷ right)
  below a b left right ad bd all same less =
      let more : digit_value a + 1 ≤ digit_value b = omega (arith, digit_is a ad, digit_is b bd) in
      let bound = digits_value-lt 10 left all in
      let worth = ap (λ k. digit_value b * 10 ^ k) same in
      let up = mul-le-mul_right (10 ^ length left) more in
      omega (arith, first_worth a left, first_worth b right, bound, worth, up)

  -- the first digits decide, and then the others
  pub by_first : (o r : Ordering) → MatchOrdering o (x < y) (x ≡ y) (y < x)
      → MatchOrdering r (digits_value 10 xs < digits_value 10 ys) (digits_value 10 xs ≡ digits_value 10 ys) (digits_value 10 ys < digits_value 10 xs)
      → MatchOrdering (ordering_then o r) (digits_value 10 (x ∷ xs) < digits_value 10 (y ∷ ys)) (digits_value 10 (x ∷ xs) ≡ digits_value 10 (y ∷ ys)) (digits_value 10 (y ∷ ys) < digits_value 10 (x ∷ xs))
  by_first Less r first rest = below x y xs ys xd yd xa long first
  by_first Equal Less first rest = let worth : digit_value x * 10 ^ length xs ≡ digit_value y * 10 ^ length ys = ap (λ d. digit_value d * 10 ^ length xs) first ∙ ap (λ k. digit_value y * 10 ^ k) long in omega (arith, first_worth x xs, first_worth y ys, worth, rest)
  by_first Equal Equal first rest = let worth : digit_value x * 10 ^ length xs ≡ digit_value y * 10 ^ length ys = ap (λ d. digit_value d * 10 ^ length xs) first ∙ ap (λ k. digit_value y * 10 ^ k) long in omega (arith, first_worth x xs, first_worth y ys, worth, rest)
  by_first Equal Greater first rest = let worth : digit_value x * 10 ^ length xs ≡ digit_value y * 10 ^ length ys = ap (λ d. digit_value d * 10 ^ length xs) first ∙ ap (λ k. digit_value y * 10 ^ k) long in omega (arith, first_worth x xs, first_worth y ys, worth, rest)
  by_first Greater r first rest = below y x ys xs yd xd ya (sym long) first

-- of as many digits those that come first write the smaller number
pub by_digits : (xs ys : List ℕ) → AllDigits 10 xs → AllDigits 10 ys → length xs ≡ length ys
    → MatchOrdering (slice_cmp nat_cmp xs ys) (digits_value 10 xs < digits_value 10 ys) (digits_value 10 xs ≡ digits_value 10 ys) (digits_value 10 ys < digits_value 10 xs)
by_digits [] [] xa ya long = refl
by_digits [] (y ∷ ys) xa ya long = absurd (omega (arith, long))
by_digits (x ∷ xs) [] xa ya long = absurd (omega (arith, long))
by_digits (x ∷ xs) (y ∷ ys) xa ya long =
    let rest : length xs ≡ length ys = omega (arith, long) in
    by_first x y xs ys xa.0 ya.0 xa.1 ya.1 rest (nat_cmp x y) (slice_cmp nat_cmp xs ys) (ranked x y (nat_cmp x y) refl) (by_digits xs ys xa.1 ya.1 rest)

-- an answer says whether they do
pub smaller_by : (xs ys : List ℕ) (o : Ordering) (b : Bool) → AllDigits 10 xs → AllDigits 10 ys → length xs ≡ length ys → o ≡ slice_cmp nat_cmp xs ys → b ≡ is_lt o
    → IsTrue b ↔ (digits_value 10 xs < digits_value 10 ys)
smaller_by xs ys o b xa ya long compared is = let by = by_digits xs ys xa ya long in go o b (subst (λ (r : Ordering). MatchOrdering r (digits_value 10 xs < digits_value 10 ys) (digits_value 10 xs ≡ digits_value 10 ys) (digits_value 10 ys < digits_value 10 xs)) (sym compared) by) is
  where
    go : (o : Ordering) (b : Bool) → MatchOrdering o (digits_value 10 xs < digits_value 10 ys) (digits_value 10 xs ≡ digits_value 10 ys) (digits_value 10 ys < digits_value 10 xs) → b ≡ is_lt o → IsTrue b ↔ (digits_value 10 xs < digits_value 10 ys)
    go Less b ranks is = (λ t. ranks, λ h. is)
    go Equal b ranks is = (λ t. absurd (false≢true (sym is ∙ t)), λ h. absurd (omega (arith, ranks, h)))
    go Greater b ranks is = (λ t. absurd (false≢true (sym is ∙ t)), λ h. absurd (omega (arith, ranks, h)))

-- ---- digits that are all 0

pub one_zero_more : (ds : List ℕ) (i : ℕ) → i < length ds → get_or ds i 0 ≡ 48 → digits_value 10 (take i ds) ≡ 0 → digits_value 10 (take (i + 1) ds) ≡ 0
one_zero_more ds i within is so_far = digits_value_more 10 ds i within ∙ (let worth : digit_value (get_or ds i 0) ≡ 0 = ap digit_value is in omega (arith, worth, so_far))

pub one_not_zero : (ds : List ℕ) (i : ℕ) → i < length ds → AllDigits 10 ds → (get_or ds i 0 ≡ 48 → ⊥) → digits_value 10 ds ≡ 0 → ⊥
one_not_zero ds i within all other none =
    let digit = digit_at ds i all within in
    let worth : digit_value (get_or ds i 0) + 48 ≡ get_or ds i 0 = digit_value_digit (get_or ds i 0) digit in
    let zero_is : digit_value (get_or ds i 0) ≡ 0 = omega (arith, digits_value_more 10 ds i within, digits_value-take-le 10 ds (i + 1) (lit≤ tt), none) in
    other (omega (arith, worth, zero_is))

pub both_zero : (whole fraction : List ℕ) → digits_value 10 whole ≡ 0 → (digits_value 10 (whole ++ fraction) ≡ 0) ↔ (digits_value 10 fraction ≡ 0)
both_zero whole fraction none =
    let worth : digits_value 10 (whole ++ fraction) ≡ digits_value 10 fraction = digits_value-append whole fraction ∙ ap (λ n. n * 10 ^ length fraction + digits_value 10 fraction) none ∙ omega arith in
    (λ h. omega (arith, worth, h), λ h. omega (arith, worth, h))

pub first_zero : (whole fraction : List ℕ) → digits_value 10 (whole ++ fraction) ≡ 0 → digits_value 10 whole ≡ 0
first_zero whole fraction none = elim (cases_lt (digits_value 10 whole) 1) [
  | inl less ↦ omega (arith, less)
  | inr some ↦ absurd (omega (arith, digits_value-append whole fraction, none, mul-le-mul_right (10 ^ length fraction) some, one-le-pow (length fraction) 10 (lit< tt)))
]

-- ---- zeros before and after digits

abbrev pub zeros : ℕ → List ℕ
zeros n = replicate n 48

long_zeros : (n : ℕ) → length (zeros n) ≡ n
long_zeros zero = refl
long_zeros (suc n) = ap suc (long_zeros n)

zeros_all : (n : ℕ) → AllDigits 10 (zeros n)
zeros_all zero = tt
zeros_all (suc n) = (omega arith, zeros_all n)

zeros_worth : (n : ℕ) → digits_value 10 (zeros n) ≡ 0
zeros_worth zero = refl
zeros_worth (suc n) = zeros_worth n

-- digits with zeros around them
pub padded : ℕ → List ℕ → ℕ → List ℕ
padded before digits after = zeros before ++ (digits ++ zeros after)

pub padded_all : (before : ℕ) (digits : List ℕ) (after : ℕ) → AllDigits 10 digits → AllDigits 10 (padded before digits after)
unfolding padded
padded_all before digits after all = AllDigits-append _ _ (zeros_all before) (AllDigits-append digits _ all (zeros_all after))

pub padded_worth : (before : ℕ) (digits : List ℕ) (after : ℕ) → digits_value 10 (padded before digits after) ≡ digits_value 10 digits * 10 ^ after
unfolding padded
padded_worth before digits after =
    let tail : digits_value 10 (digits ++ zeros after) ≡ digits_value 10 digits * 10 ^ length (zeros after) + digits_value 10 (zeros after) = digits_value-append digits (zeros after) in
    let long : digits_value 10 digits * 10 ^ length (zeros after) ≡ digits_value 10 digits * 10 ^ after = ap (λ k. digits_value 10 digits * 10 ^ k) (long_zeros after) in
    let front = digits_value-append (zeros before) (digits ++ zeros after) in
    let none : digits_value 10 (zeros before) * 10 ^ length (digits ++ zeros after) ≡ 0 = ap (λ v. v * 10 ^ length (digits ++ zeros after)) (zeros_worth before) ∙ omega arith in
    omega (arith, tail, long, front, none, zeros_worth after)

-- what is put together is digits with zeros around them
pub put_together : (before more width : ℕ) (whole fraction : List ℕ) → before + (length whole + length fraction) + more ≡ width
    → take width ((zeros before ++ whole) ++ fraction) ++ zeros (width - length ((zeros before ++ whole) ++ fraction)) ≡ padded before (whole ++ fraction) more
unfolding padded
put_together before more width whole fraction wide =
    let long : length ((zeros before ++ whole) ++ fraction) ≡ before + length whole + length fraction = omega (arith, length-append (zeros before ++ whole) fraction, length-append (zeros before) whole, long_zeros before) in
    let all = take_all width ((zeros before ++ whole) ++ fraction) (omega (arith, long, wide)) in
    let left : width - length ((zeros before ++ whole) ++ fraction) ≡ more = omega (arith, long, wide) in
    let front : (zeros before ++ whole) ++ fraction ≡ zeros before ++ (whole ++ fraction) = append_assoc (zeros before) whole fraction in
    ap (λ l. l ++ zeros (width - length ((zeros before ++ whole) ++ fraction))) (all ∙ front)
    ∙ ap (λ n. (zeros before ++ (whole ++ fraction)) ++ zeros n) left
    ∙ append_assoc (zeros before) (whole ++ fraction) (zeros more)

pub padded_long : (before : ℕ) (digits : List ℕ) (after : ℕ) → length (padded before digits after) ≡ before + length digits + after
unfolding padded
padded_long before digits after = omega (arith, length-append (zeros before) (digits ++ zeros after), length-append digits (zeros after), long_zeros before, long_zeros after)

-- digits write less than a power of ten
pub worth_below : (whole fraction : List ℕ) (n : ℕ) → AllDigits 10 whole → AllDigits 10 fraction → n ≡ length whole + length fraction → digits_value 10 (whole ++ fraction) < 10 ^ n
worth_below whole fraction n w f is = subst (λ k. digits_value 10 (whole ++ fraction) < 10 ^ k) (length-append whole fraction ∙ sym is) (digits_value-lt 10 (whole ++ fraction) (AllDigits-append whole fraction w f))
