-- Numbers of few bytes.
use Rattle.std.specs.Option.{IfSome}
use Rattle.std.proofs.Common.{Option, Some, None, ◌≡◌, ℕ, zero, ◌+◌, ◌*◌, ◌^◌, ◌<◌, ◌≤◌, List, length, drop, get_or, refl, arith, add-one, drop-cons}
use Rattle.std.proofs.Math.Nat.{pow-suc, pow-le-pow_right}
use Rattle.mmdb_format.specs.Header.{big_endian_after}

pub step_below : (n b i : ℕ) → n < 256 ^ i → b < 256 → n * 256 + b < 256 ^ (i + 1)
step_below n b i h k = rw (add-one, pow-suc 256 i) (omega arith)

pub step_fits : (n b i : ℕ) → n < 256 ^ i → b < 256 → i < 16 → n * 256 + b < 2 ^ 128
step_fits n b i h k l =
    let below = step_below n b i h k in
    let pos : zero < 256 = omega arith in
    let le : i + 1 ≤ 16 = omega arith in
    let most : 256 ^ (i + 1) ≤ 256 ^ 16 = pow-le-pow_right pos le in
    omega arith

pub step_fits_short : (n b i : ℕ) → n < 256 ^ i → b < 256 → i < 8 → n * 256 + b < 2 ^ 64
step_fits_short n b i h k l =
    let below = step_below n b i h k in
    let pos : zero < 256 = omega arith in
    let le : i + 1 ≤ 8 = omega arith in
    let most : 256 ^ (i + 1) ≤ 256 ^ 8 = pow-le-pow_right pos le in
    omega arith

pub big_endian_step : (bytes : List ℕ) (n i : ℕ) → i < length bytes → big_endian_after (n * 256 + get_or bytes i 0) (drop (i + 1) bytes) ≡ big_endian_after n (drop i bytes)
big_endian_step bytes n i h = rw (add-one, drop-cons bytes i 0) refl

pub two_bytes : (n len : ℕ) → n < 256 ^ len → len ≤ 2 → n < 2 ^ 16
two_bytes n len h k = let pos : zero < 256 = omega arith in let most : 256 ^ len ≤ 256 ^ 2 = pow-le-pow_right pos k in omega arith

pub short_enough : (n len most : ℕ) → n < 256 ^ len → len ≤ most → n < 256 ^ most
short_enough n len most h k = let pos : zero < 256 = omega arith in let up : 256 ^ len ≤ 256 ^ most = pow-le-pow_right pos k in omega arith

pub some_short : (o : Option ℕ) (len most : ℕ) (Q : ℕ → Type 0) → len ≤ most → IfSome o (λ n. (n < 256 ^ len) × Q n) → IfSome o (λ n. n < 256 ^ most)
some_short None len most Q k h = tt
some_short (Some n) len most Q k h = short_enough n len most h.0 k
