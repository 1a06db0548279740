-- Digits alone: two that are the same number are the same text.
use Rattle.std.proofs.Common.{◌≡◌, ℕ, ◌+◌, ◌^◌, ◌<◌, ◌≤◌, List, [], ◌∷◌, length, take, drop, get_or, Option, Some, None, Bool, true, false, cond, IsTrue, ◌↔◌, inl, inr, refl, sym, ap, ◌∙◌, subst, arith, append-nil}
use Rattle.std.proofs.lemmas.Bool.{cases_lt, ne_eqb}
use Rattle.std.proofs.lemmas.List.{take_more}
use Rattle.std.proofs.lemmas.Str.Parse.{digit_from_value}
use Rattle.std.proofs.lemmas.Int.Digits.{digits_value-lt}
use Rattle.std.proofs.lemmas.Map.Text.{is_eq-slice_cmp}
use Rattle.std.proofs.lemmas.Slice.Eq.{bytes_eq-Decides}
use Rattle.std.proofs.Math.Nat.{mul-le-mul_right}
use Rattle.std.proofs.lemmas.Str.{digit_value_digit}
use Rattle.std.specs.Int.{IsInRange}
use Rattle.std.specs.Char.{digit_value}
use Rattle.std.specs.Cmp.Lexicographic.{slice_cmp}
use Rattle.std.specs.Ordering.{MatchOrdering, nat_cmp, is_eq}
use Rattle.std.specs.declared.cmp.Ordering.{Ordering}
use Rattle.std.specs.declared.cmp.Ordering.TheVariants.{Less, Equal, Greater}
use Rattle.std.specs.Str.Parse.{AllDigits, digits_value}
use Rattle.std.specs.Prelude.{option_and_then, ◌==◌}
use Rattle.fast_float.proofs.Rows.{AllDigits-append}
use Rattle.fast_float.proofs.Writing.{scan-text_of}
use Rattle.fast_float.specs.Text.{Parts, scan, IsWellFormed}
use Rattle.json.specs.Print.{IsNumber}
use Rattle.json.specs.Word.{head, after_minus, after_whole, after_fraction, after_exponent, after_number}
use Rattle.mmdb_layout.specs.Numbers.{is_negative, parts_of, IsNumeric, IsSmaller, IsLessBy, IsLess, IsSameNumber}
use Rattle.mmdb_layout.proofs.DigitLaws.{first_worth, by_digits, digit_is}
use Rattle.mmdb_layout.proofs.ScaleLaws.{more_tens}

-- ---- whether a text is digits alone

pub one_digit_more : (ds : List ℕ) (i : ℕ) → i < length ds → AllDigits 10 (take i ds) → digit_value (get_or ds i 0) < 10 → AllDigits 10 (take (i + 1) ds)
one_digit_more ds i within so_far here = subst (AllDigits 10) (sym (take_more ds i 0 within)) (AllDigits-append (take i ds) (get_or ds i 0 ∷ []) so_far (here, tt))

pub digit_of : (c : ℕ) → IsInRange 48 57 c → digit_value c < 10
digit_of c r = omega (arith, digit_value_digit c r, r.1)

-- ---- how digits alone are read

plain : List ℕ → Parts
plain ds = record { whole = ds; point = false; fraction = []; exponent_negative = false; exponent = []; len = length ds }

well_formed : (ds : List ℕ) → AllDigits 10 ds → IsWellFormed (plain ds)
unfolding plain
well_formed ds all = record {
  whole_digits = all;
  fraction_digits = tt;
  exponent_digits = tt;
  no_point = λ _. refl;
  no_exponent = λ _. refl;
  len_is = ap length (sym (append-nil ds));
}

plain_scan : (ds : List ℕ) → AllDigits 10 ds → scan ds ≡ plain ds
unfolding plain
plain_scan ds all = subst (λ t. scan t ≡ plain ds) (append-nil ds) (scan-text_of (plain ds) (well_formed ds all))

no_minus : (ds : List ℕ) → AllDigits 10 ds → (head ds == 45) ≡ false
no_minus [] all = refl
no_minus (d ∷ ds) all = let r = digit_from_value d all.0 in ne_eqb d 45 (λ e. omega (arith, r.0, e))

plain_after : (ds : List ℕ) → AllDigits 10 ds → after_minus ds ≡ ds
plain_after ds all = ap (λ b. cond b (drop 1 ds) ds) (no_minus ds all)

plain_parts : (ds : List ℕ) → AllDigits 10 ds → parts_of ds ≡ plain ds
plain_parts ds all = ap scan (plain_after ds all) ∙ plain_scan ds all

smaller : (a b : List ℕ) → digits_value 10 a < digits_value 10 b → IsSmaller (plain a) (plain b)
unfolding plain
smaller a b less = omega (arith, ap (digits_value 10) (append-nil a), ap (digits_value 10) (append-nil b), less)

less : (a b : List ℕ) → AllDigits 10 a → AllDigits 10 b → digits_value 10 a < digits_value 10 b → IsLess a b
less a b aa ba below =
    subst (λ n. IsLessBy n (parts_of a) (is_negative b) (parts_of b)) (sym (no_minus a aa))
    (subst (λ n. IsLessBy false (parts_of a) n (parts_of b)) (sym (no_minus b ba))
    (subst (λ p. IsSmaller p (parts_of b)) (sym (plain_parts a aa))
    (subst (λ p. IsSmaller (plain a) p) (sym (plain_parts b ba)) (smaller a b below))))

-- ---- a number has no zero in front

abbrev IsThere : Option (List ℕ) → Type 0
IsThere None = ⊥
IsThere (Some t) = Unit {0}

long_of : Option (List ℕ) → ℕ
long_of None = 1
long_of (Some t) = length t

no_dot : (ds : List ℕ) → AllDigits 10 ds → (head ds == 46) ≡ false
no_dot [] all = refl
no_dot (d ∷ ds) all = let r = digit_from_value d all.0 in ne_eqb d 46 (λ e. omega (arith, r.0, e))

no_letter : (c : ℕ) → 57 < c → (ds : List ℕ) → AllDigits 10 ds → (head ds == c) ≡ false
no_letter c large [] all = ne_eqb 32 c (λ e. omega (arith, large, e))
no_letter c large (d ∷ ds) all = let r = digit_from_value d all.0 in ne_eqb d c (λ e. omega (arith, r.1, large, e))

nothing_behind : (ds : List ℕ) → AllDigits 10 ds → option_and_then after_exponent (after_fraction ds) ≡ Some ds
nothing_behind ds all =
    let fraction : after_fraction ds ≡ Some ds = rw (no_dot ds all) refl in
    let exponent : after_exponent ds ≡ Some ds = rw (no_letter 101 (omega arith) ds all, no_letter 69 (omega arith) ds all) refl in
    ap (option_and_then after_exponent) fraction ∙ exponent

whole_read : (ds : List ℕ) → AllDigits 10 ds → IsNumber ds → option_and_then after_exponent (option_and_then after_fraction (after_whole ds)) ≡ Some []
unfolding after_number
whole_read ds all is = subst (λ t. option_and_then after_exponent (option_and_then after_fraction (after_whole t)) ≡ Some []) (plain_after ds all) is

some_digit : (ds : List ℕ) → AllDigits 10 ds → IsNumber ds → 0 < length ds
some_digit [] all is = absurd (subst IsThere (sym (whole_read [] all is)) tt)
some_digit (d ∷ ds) all is = omega arith

zero_alone : (x : ℕ) (xs : List ℕ) → AllDigits 10 (x ∷ xs) → IsNumber (x ∷ xs) → x ≡ 48 → length xs ≡ 0
unfolding long_of
zero_alone x xs all is zero_is =
    let whole : after_whole (x ∷ xs) ≡ Some xs = rw zero_is refl in
    let read = subst (λ o. option_and_then after_exponent (option_and_then after_fraction o) ≡ Some []) whole (whole_read (x ∷ xs) all is) in
    ap long_of (sym (nothing_behind xs all.1) ∙ read)

-- ---- so more digits are a larger number

more_digits : (a b : List ℕ) → AllDigits 10 a → AllDigits 10 b → IsNumber a → IsNumber b → length a < length b → digits_value 10 a < digits_value 10 b
more_digits a [] aa ba an bn long = absurd (omega (arith, long))
more_digits a (y ∷ ys) aa ba an bn long =
    let some = some_digit a aa an in
    let first : y ≡ 48 → ⊥ = λ e. omega (arith, zero_alone y ys ba bn e, long, some) in
    let r = digit_from_value y ba.0 in
    let worth : 1 ≤ digit_value y = elim (cases_lt (digit_value y) 1) [ inl low ↦ absurd (first (omega (arith, digit_is y ba.0, low))) | inr high ↦ high ] in
    let own = digits_value-lt 10 a aa in
    let tens = more_tens (length a) (length ys) (omega (arith, long)) in
    omega (arith, first_worth y ys, mul-le-mul_right (10 ^ length ys) worth, own, tens)

equal_text : (a b : List ℕ) → AllDigits 10 a → AllDigits 10 b → length a ≡ length b → digits_value 10 a ≡ digits_value 10 b → a ≡ b
equal_text a b aa ba long same = (bytes_eq-Decides a b).0 (sym (is_eq-slice_cmp a b) ∙ go (slice_cmp nat_cmp a b) (by_digits a b aa ba long))
  where
    go : (o : Ordering) → MatchOrdering o (digits_value 10 a < digits_value 10 b) (digits_value 10 a ≡ digits_value 10 b) (digits_value 10 b < digits_value 10 a) → is_eq o ≡ true
    go Less h = absurd (omega (arith, h, same))
    go Equal h = refl
    go Greater h = absurd (omega (arith, h, same))

same_text : (a b : List ℕ) → AllDigits 10 a → AllDigits 10 b → IsNumber a → IsNumber b → digits_value 10 a ≡ digits_value 10 b → a ≡ b
same_text a b aa ba an bn same = elim (cases_lt (length a) (length b)) [
  | inl shorter ↦ absurd (omega (arith, more_digits a b aa ba an bn shorter, same))
  | inr most ↦ elim (cases_lt (length b) (length a)) [
    | inl longer ↦ absurd (omega (arith, more_digits b a ba aa bn an longer, same))
    | inr least ↦ equal_text a b aa ba (omega (arith, most, least)) same
  ]
]

same_value : (a b : List ℕ) → AllDigits 10 a → AllDigits 10 b → IsSameNumber a b → digits_value 10 a ≡ digits_value 10 b
same_value a b aa ba same = elim (cases_lt (digits_value 10 a) (digits_value 10 b)) [
  | inl below ↦ absurd (same.not_less (less a b aa ba below))
  | inr most ↦ elim (cases_lt (digits_value 10 b) (digits_value 10 a)) [
    | inl above ↦ absurd (same.not_greater (less b a ba aa above))
    | inr least ↦ omega (arith, most, least)
  ]
]

-- two texts of digits alone that are the same number are the same text
pub same_alone : (a b : List ℕ) → AllDigits 10 a → AllDigits 10 b → IsSameNumber a b → a ≡ b
same_alone a b aa ba same = same_text a b aa ba same.numeric.number same.other_numeric.number (same_value a b aa ba same)

-- ---- what is answered of two texts of digits

not_below_itself : (negative : Bool) (p : Parts) → IsLessBy negative p negative p → ⊥
not_below_itself false p h = omega (arith, h)
not_below_itself true p h = omega (arith, h)

same_as_itself : (a b : List ℕ) → a ≡ b → IsNumeric a → IsSameNumber a b
same_as_itself a b same numeric = subst (IsSameNumber a) same (record {
  numeric = numeric;
  other_numeric = numeric;
  not_less = not_below_itself (is_negative a) (parts_of a);
  not_greater = not_below_itself (is_negative a) (parts_of a);
})

-- two texts of digits are the same number where they are the same text, which is a number
pub same_digits : (a b : List ℕ) (answer : Bool) → AllDigits 10 a → AllDigits 10 b
    → (IsTrue answer → (a ≡ b) × IsNumeric a) → (a ≡ b → IsNumeric a → IsTrue answer) → IsTrue answer ↔ IsSameNumber a b
same_digits a b answer aa ba says is_said = (
  (λ t. let both = says t in same_as_itself a b both.0 both.1),
  (λ same. is_said (same_alone a b aa ba same) same.numeric),
)
