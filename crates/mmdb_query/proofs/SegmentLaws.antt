-- What several databases have.
use Rattle.std.proofs.Common.{◌≡◌, ◌<◌, ◌≤◌, ℕ, ◌+◌, ◌-◌, ◌*◌, ◌^◌, Bool, true, false, IsTrue, List, [], ◌∷◌, ◌++◌, take, Option, Some, None, IfSome, refl, sym, ap, ◌∙◌, subst, arith}
use Rattle.mmdb_net.specs.Bits.{bits_of, zero_bits}
use Rattle.mmdb_blocks.proofs.NetworkLaws.{wide_bits}
use Rattle.mmdb_query.specs.Keys.{digit_of, radix_of, IsKeyFrom, IsKey}
use Rattle.mmdb_query.specs.Abreast.{IsLonger}

-- ---- keys

-- whatever digits are left complete the key of all
abbrev pub KeyWay : List (List ℕ) → List (Option ℕ) → Option ℕ → List (List ℕ) → List (Option ℕ) → Type 0
KeyWay sections offsets key left more = (last : ℕ) → IfSome key (λ n. IsKeyFrom n left more last → IsKeyFrom 0 sections offsets last)

pub key_begun : (sections : List (List ℕ)) (offsets : List (Option ℕ)) → KeyWay sections offsets (Some 0) sections offsets
key_begun sections offsets = λ last is. is

pub key_step : (sections left : List (List ℕ)) (offsets more : List (Option ℕ)) (key next : Option ℕ) (s : List ℕ) (o : Option ℕ)
    → KeyWay sections offsets key (s ∷ left) (o ∷ more) → IfSome next (IsLonger key s o) → KeyWay sections offsets next left more
key_step sections left offsets more key None s o way longer = λ last. tt
key_step sections left offsets more key (Some k) s o way (number, was, below, is) = λ last rest.
    let here : IfSome (Some number) (λ n. IsKeyFrom n (s ∷ left) (o ∷ more) last → IsKeyFrom 0 sections offsets last) =
    subst (λ x. IfSome x (λ n. IsKeyFrom n (s ∷ left) (o ∷ more) last → IsKeyFrom 0 sections offsets last)) was (way last) in
    here (below, subst (λ n. IsKeyFrom n left more last) is rest)

-- the first digit may be any
from_none : (sections : List (List ℕ)) (offsets : List (Option ℕ)) (key : ℕ) → IsKeyFrom 0 sections offsets key → IsKey sections offsets key
from_none [] [] key is = is
from_none [] (offset ∷ offsets) key is = is
from_none (section ∷ sections) [] key is = is
from_none (section ∷ sections) (offset ∷ offsets) key is =
    let digit : 0 * radix_of section + digit_of offset ≡ digit_of offset = omega arith in
    subst (λ n. IsKeyFrom n sections offsets key) digit is.1

pub key_done : (sections : List (List ℕ)) (offsets : List (Option ℕ)) (key : Option ℕ) → KeyWay sections offsets key [] [] → IfSome key (IsKey sections offsets)
key_done sections offsets None way = tt
key_done sections offsets (Some n) way = from_none sections offsets n (way n refl)

-- ---- kinds

pub same_truth : (a b : Bool) → (IsTrue a → IsTrue b) → (IsTrue b → IsTrue a) → a ≡ b
same_truth true true f g = refl
same_truth true false f g = sym (f refl)
same_truth false true f g = g refl
same_truth false false f g = refl

-- ---- the bits of a block

pub short_block : (n p q : ℕ) → p ≡ q → 96 ≤ p → n < 2 ^ 32 → zero_bits 96 ++ take (p - 96) (bits_of 32 n) ≡ take q (bits_of 128 n)
short_block n p q same within small =
    let all : 96 + (p - 96) ≡ q = omega (arith, same, within) in
    sym (wide_bits n (p - 96) small) ∙ ap (λ (k : ℕ). take k (bits_of 128 n)) all

pub long_block : (n p q : ℕ) → p ≡ q → zero_bits 0 ++ take p (bits_of 128 n) ≡ take q (bits_of 128 n)
unfolding zero_bits
long_block n p q same = ap (λ (k : ℕ). take k (bits_of 128 n)) same
