-- Values that hold no others, wherever they are.
use Rattle.std.proofs.Common.{◌≡◌, ℕ, zero, suc, ◌+◌, ◌*◌, ◌/◌, ◌%◌, ◌^◌, ◌<◌, ◌≤◌, leb, eqb, Bool, true, false, cond, List, ◌++◌, length, Some, Result, OnOk, ℤ, refl, ap, sym, ◌∙◌, subst, arith, length-append}
use Rattle.std.specs.Int.{w16, w32, w64, w128, byte_at, bytes_high_first, to_be_bytes, cast_signed}
use Rattle.std.proofs.Math.Nat.{pow-suc, mod-eq_of_lt}
use Rattle.std.proofs.lemmas.Nat.{pow-add, mod-pow-add}
use Rattle.std.proofs.lemmas.Bool.Decides.{nat_tests}
use Rattle.mmdb_format.specs.declared.header.Header.{Header}
use Rattle.mmdb_format.specs.Header.{big_endian, big_endian_after, bytes_at, number_at, header_at}
use Rattle.mmdb_format.specs.Contents.{Scalar, text, bytes, boolean, signed32, number16, number32, number64, number128, double_bits, float_bits, content_at, content_end}
use Rattle.mmdb_format.specs.Unfolding.{scalar, Unfolds, scalar_here}
use Rattle.mmdb_section.specs.Working.{Appends, IsHeader, IsSized, IsInteger, IsScalar}
use Rattle.mmdb_section.proofs.StandLemmas.{first_of, second_of, bytes_here, weaker_put}

-- ---- a header and its content

pub sized_made : (kind : ℕ) (content a : List ℕ) → IsHeader kind (length content) a → IsSized kind content (a ++ content)
sized_made kind content a header before behind =
    let sum = length-append a content in (
      length before + length a,
      first_of (λ s p q. header_at s p ≡ Some (record { kind = kind; size = length content; body = q })) a content header before behind,
      second_of (λ s p q. bytes_at s p (length content) ≡ Some content) a content (bytes_here content) before behind,
      omega arith,
    )

-- ---- numbers in their bytes

big_endian_parts : (k acc n : ℕ) → big_endian_after acc (bytes_high_first k n) ≡ acc * 2 ^ (8 * k) + n % 2 ^ (8 * k)
big_endian_parts zero acc n = omega arith
big_endian_parts (suc k) acc n =
    let byte : byte_at k n ≡ n / 2 ^ (8 * k) % 2 ^ 8 = byte_is k n in
    let eight : 8 * suc k ≡ 8 + 8 * k = omega arith in
    let size : 2 ^ (8 * suc k) ≡ 2 ^ 8 * 2 ^ (8 * k) = ap (λ (e : ℕ). 2 ^ e) eight ∙ pow-add 2 8 (8 * k) in
    let rest : n % 2 ^ (8 * suc k) ≡ (n / 2 ^ (8 * k) % 2 ^ 8) * 2 ^ (8 * k) + n % 2 ^ (8 * k) = ap (λ (e : ℕ). n % 2 ^ e) eight ∙ mod-pow-add n 8 (8 * k) in
    let next = big_endian_parts k (acc * 256 + byte_at k n) n in
    let one : (acc * 256 + byte_at k n) * 2 ^ (8 * k) ≡ acc * (2 ^ 8 * 2 ^ (8 * k)) + byte_at k n * 2 ^ (8 * k) = omega arith in
    let two : acc * 2 ^ (8 * suc k) ≡ acc * (2 ^ 8 * 2 ^ (8 * k)) = ap (λ (x : ℕ). acc * x) size in
    let three : byte_at k n * 2 ^ (8 * k) ≡ (n / 2 ^ (8 * k) % 2 ^ 8) * 2 ^ (8 * k) = ap (λ (x : ℕ). x * 2 ^ (8 * k)) byte in
    omega arith
  where
    power_is : (i : ℕ) → 256 ^ i ≡ 2 ^ (8 * i)
    power_is zero = refl
    power_is (suc i) =
        let e : 8 * suc i ≡ 8 * i + 8 = omega arith in
        let f : 2 ^ (8 * suc i) ≡ 2 ^ (8 * i) * 2 ^ 8 = ap (λ (x : ℕ). 2 ^ x) e ∙ pow-add 2 (8 * i) 8 in
        let g : 256 ^ suc i ≡ 256 ^ i * 256 = pow-suc 256 i in
        let h = power_is i in
        g ∙ ap (λ (x : ℕ). x * 256) h ∙ sym f

    byte_is : (i m : ℕ) → byte_at i m ≡ m / 2 ^ (8 * i) % 2 ^ 8
    byte_is zero m = omega arith
    byte_is (suc i) m = ap (λ (x : ℕ). m / x % 256) (power_is (suc i))

number_of_bytes : (k n : ℕ) → n < 2 ^ (8 * k) → big_endian (bytes_high_first k n) ≡ n
number_of_bytes k n fits =
    let low : n % 2 ^ (8 * k) ≡ n = mod-eq_of_lt fits in
    big_endian_parts k 0 n ∙ (omega arith)

pub number16_bytes : (n : ℕ) → n < 2 ^ 16 → big_endian (to_be_bytes w16 n) ≡ n
number16_bytes n fits = number_of_bytes 2 n fits

pub number32_bytes : (n : ℕ) → n < 2 ^ 32 → big_endian (to_be_bytes w32 n) ≡ n
number32_bytes n fits = number_of_bytes 4 n fits

pub number64_bytes : (n : ℕ) → n < 2 ^ 64 → big_endian (to_be_bytes w64 n) ≡ n
number64_bytes n fits = number_of_bytes 8 n fits

pub number128_bytes : (n : ℕ) → n < 2 ^ 128 → big_endian (to_be_bytes w128 n) ≡ n
number128_bytes n fits = number_of_bytes 16 n fits

-- ---- contents

number_from : (s : List ℕ) (body : ℕ) (content : List ℕ) → bytes_at s body (length content) ≡ Some content → number_at s body (length content) ≡ Some (big_endian content)
unfolding number_at
number_from s body content h = rw h refl

module _ (s : List ℕ) (size body n : ℕ) (number : number_at s body size ≡ Some n) where
  content16 : size ≤ 2 → content_at s (record { kind = 5; size = size; body = body }) ≡ Some (number16 n)
  unfolding content_at
  content16 small = let t : leb size 2 ≡ true = grind (arith, nat_tests) in rw (t, number) refl

  content32 : size ≤ 4 → content_at s (record { kind = 6; size = size; body = body }) ≡ Some (number32 n)
  unfolding content_at
  content32 small = let t : leb size 4 ≡ true = grind (arith, nat_tests) in rw (t, number) refl

  content_signed : size ≤ 4 → content_at s (record { kind = 8; size = size; body = body }) ≡ Some (signed32 (cast_signed w32 n))
  unfolding content_at
  content_signed small = let t : leb size 4 ≡ true = grind (arith, nat_tests) in rw (t, number) refl

  content64 : size ≤ 8 → content_at s (record { kind = 9; size = size; body = body }) ≡ Some (number64 n)
  unfolding content_at
  content64 small = let t : leb size 8 ≡ true = grind (arith, nat_tests) in rw (t, number) refl

  content128 : size ≤ 16 → content_at s (record { kind = 10; size = size; body = body }) ≡ Some (number128 n)
  unfolding content_at
  content128 small = let t : leb size 16 ≡ true = grind (arith, nat_tests) in rw (t, number) refl

  content_double : size ≡ 8 → content_at s (record { kind = 3; size = size; body = body }) ≡ Some (double_bits n)
  unfolding content_at
  content_double is = let t : eqb size 8 ≡ true = grind (arith, nat_tests) in rw (t, number) refl

  content_float : size ≡ 4 → content_at s (record { kind = 15; size = size; body = body }) ≡ Some (float_bits n)
  unfolding content_at
  content_float is = let t : eqb size 4 ≡ true = grind (arith, nat_tests) in rw (t, number) refl

content_text : (s : List ℕ) (size body : ℕ) (x : List ℕ) → bytes_at s body size ≡ Some x → content_at s (record { kind = 2; size = size; body = body }) ≡ Some (text x)
unfolding content_at
content_text s size body x h = rw h refl

content_bytes : (s : List ℕ) (size body : ℕ) (x : List ℕ) → bytes_at s body size ≡ Some x → content_at s (record { kind = 4; size = size; body = body }) ≡ Some (bytes x)
unfolding content_at
content_bytes s size body x h = rw h refl

-- ---- scalars

-- a header and a content of a type that is no bool
scalar_made : (kind : ℕ) (content xs : List ℕ) (c : Scalar) → eqb kind 14 ≡ false → ((s : List ℕ) (body : ℕ) → bytes_at s body (length content) ≡ Some content → content_at s (record { kind = kind; size = length content; body = body }) ≡ Some c) → IsSized kind content xs → IsScalar c xs
scalar_made kind content xs c no_bool is sized before behind =
    let at = sized before behind in
    let header : Header = record { kind = kind; size = length content; body = at.0 } in
    let end : content_end (record { kind = kind; size = length content; body = at.0 }) ≡ length before + length xs = ap (λ (b : Bool). cond b at.0 (at.0 + length content)) no_bool ∙ at.3 in
    subst (Unfolds (before ++ (xs ++ behind)) (length before) (scalar c)) end (scalar_here at.1 (is (before ++ (xs ++ behind)) at.0 at.2))

pub text_made : (x xs : List ℕ) → IsSized 2 x xs → IsScalar (text x) xs
text_made x xs sized = scalar_made 2 x xs (text x) refl (λ s body h. content_text s (length x) body x h) sized

pub bytes_made : (x xs : List ℕ) → IsSized 4 x xs → IsScalar (bytes x) xs
bytes_made x xs sized = scalar_made 4 x xs (bytes x) refl (λ s body h. content_bytes s (length x) body x h) sized

-- an integer in few bytes
integer_made : (kind most n : ℕ) (f : ℕ → Scalar) (wide xs : List ℕ) → eqb kind 14 ≡ false
    → ((s : List ℕ) (size body : ℕ) → number_at s body size ≡ Some n → size ≤ most → content_at s (record { kind = kind; size = size; body = body }) ≡ Some (f n))
    → length wide ≤ most → big_endian wide ≡ n → IsInteger kind wide xs → IsScalar (f n) xs
integer_made kind most n f wide xs no_bool is few spelled integer =
    let content = integer.0 in
    let fits : length integer.0 ≤ most = (let l = integer.3 in omega arith) in
    scalar_made kind content xs (f n) no_bool (λ s body h. is s (length content) body (number_from s body content h ∙ ap (λ (k : ℕ). Some k) (integer.2 ∙ spelled)) fits) integer.1

pub u16_made : (n : ℕ) (xs : List ℕ) → n < 2 ^ 16 → IsInteger 5 (to_be_bytes w16 n) xs → IsScalar (number16 n) xs
u16_made n xs fits = integer_made 5 2 n number16 (to_be_bytes w16 n) xs refl (λ s size body h small. content16 s size body n h small) (omega arith) (number16_bytes n fits)

pub u32_made : (n : ℕ) (xs : List ℕ) → n < 2 ^ 32 → IsInteger 6 (to_be_bytes w32 n) xs → IsScalar (number32 n) xs
u32_made n xs fits = integer_made 6 4 n number32 (to_be_bytes w32 n) xs refl (λ s size body h small. content32 s size body n h small) (omega arith) (number32_bytes n fits)

pub i32_made : (z : ℤ) (n : ℕ) (xs : List ℕ) → n < 2 ^ 32 → cast_signed w32 n ≡ z → IsInteger 8 (to_be_bytes w32 n) xs → IsScalar (signed32 z) xs
i32_made z n xs fits is integer = subst (λ (y : ℤ). IsScalar (signed32 y) xs) is
    (integer_made 8 4 n (λ k. signed32 (cast_signed w32 k)) (to_be_bytes w32 n) xs refl (λ s size body h small. content_signed s size body n h small) (omega arith) (number32_bytes n fits) integer)

pub u64_made : (n : ℕ) (xs : List ℕ) → n < 2 ^ 64 → IsInteger 9 (to_be_bytes w64 n) xs → IsScalar (number64 n) xs
u64_made n xs fits = integer_made 9 8 n number64 (to_be_bytes w64 n) xs refl (λ s size body h small. content64 s size body n h small) (omega arith) (number64_bytes n fits)

pub u128_made : (n : ℕ) (xs : List ℕ) → n < 2 ^ 128 → IsInteger 10 (to_be_bytes w128 n) xs → IsScalar (number128 n) xs
u128_made n xs fits = integer_made 10 16 n number128 (to_be_bytes w128 n) xs refl (λ s size body h small. content128 s size body n h small) (omega arith) (number128_bytes n fits)

pub double_made : (n : ℕ) (xs : List ℕ) → n < 2 ^ 64 → IsSized 3 (to_be_bytes w64 n) xs → IsScalar (double_bits n) xs
double_made n xs fits sized = scalar_made 3 (to_be_bytes w64 n) xs (double_bits n) refl
    (λ s body h. content_double s (length (to_be_bytes w64 n)) body n (number_from s body (to_be_bytes w64 n) h ∙ ap (λ (k : ℕ). Some k) (number64_bytes n fits)) refl) sized

pub float_made : (n : ℕ) (xs : List ℕ) → n < 2 ^ 32 → IsSized 15 (to_be_bytes w32 n) xs → IsScalar (float_bits n) xs
float_made n xs fits sized = scalar_made 15 (to_be_bytes w32 n) xs (float_bits n) refl
    (λ s body h. content_float s (length (to_be_bytes w32 n)) body n (number_from s body (to_be_bytes w32 n) h ∙ ap (λ (k : ℕ). Some k) (number32_bytes n fits)) refl) sized

content_truth : (s : List ℕ) (size body : ℕ) (b : Bool) → size ≡ cond b 1 0 → content_at s (record { kind = 14; size = size; body = body }) ≡ Some (boolean b)
unfolding content_at
content_truth s size body true is = rw is refl
content_truth s size body false is = rw is refl

pub truth_made : (b : Bool) (size : ℕ) (xs : List ℕ) → size ≡ cond b 1 0 → IsHeader 14 size xs → IsScalar (boolean b) xs
truth_made b size xs is header before behind = scalar_here (header before behind) (content_truth (before ++ (xs ++ behind)) size (length before + length xs) b is)

-- ---- numbers that were put

pub number_put : {E : Type 0} (r : Result (Unit {0}) E) (P : List ℕ → List ℕ → Type 0) (wide given : List ℕ) (c d : Scalar) (old new : List ℕ) → given ≡ wide → d ≡ c → ((xs : List ℕ) → P wide xs → IsScalar c xs) → OnOk r (Appends (P given) old new) → OnOk r (Appends (IsScalar d) old new)
number_put r P wide given c d old new is same made put =
    subst (λ (x : Scalar). OnOk r (Appends (IsScalar x) old new)) (sym same)
    (weaker_put r (P wide) (IsScalar c) old new made (subst (λ (xs : List ℕ). OnOk r (Appends (P xs) old new)) is put))
