-- The end of a row and what is seen of its text, where the row goes on before or after some bytes.
use Rattle.std.proofs.Common.{◌≡◌, ℕ, min, ◌+◌, ◌-◌, ◌<◌, ◌≤◌, List, [], ◌++◌, length, take, drop, get_or, Bool, true, false, ◌&&◌, ◌==◌, nat_lt, if◌then◌else◌, refl, sym, ap, ◌∙◌, subst, append_assoc, arith, length-append, take-take, get_or-append-add, length-take-le, take_all, inl, inr, ◌⊎◌}
use Rattle.std.proofs.lemmas.List.{take-append-le}
use Rattle.std.proofs.lemmas.Bool.Decides.{nat_tests}
use Rattle.std.proofs.Math.Seq.{drop-append-add, take-append-add}
use Rattle.mmdb_filter.specs.Lines.{text_length, text_of, front_of, back_of, seen_of, is_long, row_with}

pub text_within : (row : List ℕ) → (text_length row ≤ length row) × (length row ≤ text_length row + 2)
unfolding text_length
text_within row = at (nat_lt 0 (length row) && (get_or row (length row - 1) 0 == 10)) (nat_lt 1 (length row) && (get_or row (length row - 2) 0 == 13))
  where
    at : (b c : Bool) → ((if b then (if c then length row - 2 else length row - 1) else length row) ≤ length row) × (length row ≤ (if b then (if c then length row - 2 else length row - 1) else length row) + 2)
    at true true = (omega arith, omega arith)
    at true false = (omega arith, omega arith)
    at false c = (omega arith, omega arith)

byte_behind : (d l : List ℕ) (n : ℕ) → n ≤ length l → get_or (d ++ l) (length (d ++ l) - n) 0 ≡ get_or l (length l - n) 0
byte_behind d l n h =
    let e : length (d ++ l) - n ≡ length d + (length l - n) = omega (arith, length-append d l) in
    ap (λ k. get_or (d ++ l) k 0) e ∙ get_or-append-add d l (length l - n) 0

lt_true : (m n : ℕ) → m < n → nat_lt m n ≡ true
lt_true m n h = grind (arith, nat_tests)

text_length_behind : (d l : List ℕ) → 2 ≤ length l → text_length (d ++ l) ≡ length d + text_length l
unfolding text_length
text_length_behind d l h =
    let long = length-append d l in
    at (nat_lt 0 (length (d ++ l))) (nat_lt 0 (length l)) (nat_lt 1 (length (d ++ l))) (nat_lt 1 (length l)) (get_or (d ++ l) (length (d ++ l) - 1) 0) (get_or l (length l - 1) 0) (get_or (d ++ l) (length (d ++ l) - 2) 0) (get_or l (length l - 2) 0)
    (lt_true 0 (length (d ++ l)) (omega arith)) (lt_true 0 (length l) (omega arith)) (lt_true 1 (length (d ++ l)) (omega arith)) (lt_true 1 (length l) (omega arith))
    (byte_behind d l 1 (omega arith)) (byte_behind d l 2 h)
  where
    choose : (b c : Bool) → (if b then (if c then length (d ++ l) - 2 else length (d ++ l) - 1) else length (d ++ l)) ≡ length d + (if b then (if c then length l - 2 else length l - 1) else length l)
    choose true true = omega (arith, length-append d l, h)
    choose true false = omega (arith, length-append d l, h)
    choose false c = length-append d l

    at : (a a' b b' : Bool) (x x' y y' : ℕ) → a ≡ true → a' ≡ true → b ≡ true → b' ≡ true → x ≡ x' → y ≡ y'
        → (if a && (x == 10) then (if b && (y == 13) then length (d ++ l) - 2 else length (d ++ l) - 1) else length (d ++ l))
        ≡ length d + (if a' && (x' == 10) then (if b' && (y' == 13) then length l - 2 else length l - 1) else length l)
    at a a' b b' x x' y y' e e' f f' g k = rw (e, e', f, f', g, k) (choose (x' == 10) (y' == 13))

-- where a number of bytes of the text follow what is added: none, or the bytes before end no text
at_behind : (d l : List ℕ) (behind : ℕ) → 2 ≤ length l → behind ≡ 0 → text_length (d ++ l) - behind ≡ length d + (text_length l - behind)
at_behind d l behind h none = omega (arith, text_length_behind d l h)

pub row_behind : (d l extra : List ℕ) (behind : ℕ) → (d ≡ []) ⊎ ((2 ≤ length l) × (behind ≡ 0)) → row_with (d ++ l) extra behind ≡ d ++ row_with l extra behind
row_behind d l extra behind (inl e) = subst (λ d. row_with (d ++ l) extra behind ≡ d ++ row_with l extra behind) (sym e) refl
row_behind d l extra behind (inr (h, none)) =
    let at = at_behind d l behind h none in
    let front : front_of (d ++ l) behind ≡ d ++ front_of l behind = ap (λ n. take n (d ++ l)) at ∙ take-append-add d l (text_length l - behind) in
    let back : back_of (d ++ l) behind ≡ back_of l behind = ap (λ n. drop n (d ++ l)) at ∙ drop-append-add d l (text_length l - behind) in
    ap (λ t. t ++ (extra ++ back_of (d ++ l) behind)) front ∙ ap (λ t. (d ++ front_of l behind) ++ (extra ++ t)) back ∙ append_assoc d (front_of l behind) (extra ++ back_of l behind)

-- what is seen of a row that has more bytes than are seen, and three
seen_front : (most : ℕ) (row : List ℕ) → most + 3 ≤ length row → seen_of most row ≡ take most row
seen_front most row h = take-take most (text_length row) row (omega (arith, (text_within row).1))

pub long : (most : ℕ) (row : List ℕ) → most + 3 ≤ length row → is_long most row ≡ true
long most row h = lt_true most (length (text_of row)) (omega (arith, (text_within row).0, (text_within row).1, length-take-le (text_length row) row (text_within row).0))

pub seen_same : (most : ℕ) (chunk rest : List ℕ) → most + 3 ≤ length chunk → (seen_of most (chunk ++ rest) ≡ seen_of most chunk) × (is_long most (chunk ++ rest) ≡ is_long most chunk)
seen_same most chunk rest h =
    let more : most + 3 ≤ length (chunk ++ rest) = omega (arith, length-append chunk rest) in
    (seen_front most (chunk ++ rest) more ∙ take-append-le most chunk rest (omega arith) ∙ sym (seen_front most chunk h), long most (chunk ++ rest) more ∙ sym (long most chunk h))

pub or_less : (m n : ℕ) → (m < n) ⊎ (n ≤ m)
or_less m n = at (nat_lt m n) refl
  where
    at : (b : Bool) → nat_lt m n ≡ b → (m < n) ⊎ (n ≤ m)
    at true e = inl (grind (arith, nat_tests))
    at false e = inr (grind (arith, nat_tests))

pub seen_cut : (most : ℕ) (row : List ℕ) (n : ℕ) → n ≡ min (text_length row) most → take n row ≡ seen_of most row
seen_cut most row n e = at (or_less most (text_length row))
  where
    at : (most < text_length row) ⊎ (text_length row ≤ most) → take n row ≡ seen_of most row
    at (inl h) =
        let same : n ≡ most = omega arith in
        ap (λ k. take k row) same ∙ sym (take-take most (text_length row) row (omega arith))
    at (inr h) =
        let same : n ≡ text_length row = omega arith in
        ap (λ k. take k row) same ∙ sym (take_all most (take (text_length row) row) (omega (arith, length-take-le (text_length row) row (text_within row).0)))

pub long_is : (most : ℕ) (row : List ℕ) → nat_lt most (text_length row) ≡ is_long most row
long_is most row = ap (λ n. nat_lt most n) (sym (length-take-le (text_length row) row (text_within row).0))
