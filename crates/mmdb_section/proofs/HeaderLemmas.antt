-- Headers and pointers, wherever they are.
use Rattle.std.proofs.Common.{◌≡◌, ℕ, ◌+◌, ◌-◌, ◌*◌, ◌/◌, ◌%◌, ◌<◌, ◌≤◌, eqb, true, false, List, [], ◌∷◌, ◌++◌, length, Some, refl, ap, sym, ◌∙◌, arith}
use Rattle.std.specs.List.{slice_get}
use Rattle.std.proofs.lemmas.Bool.{lt-ltb}
use Rattle.std.proofs.lemmas.Bool.Decides.{nat_tests}
use Rattle.mmdb_format.specs.Header.{big_endian, number_at, size_at, sized_header, header_at}
use Rattle.mmdb_format.specs.Pointer.{target_of, pointer_at}
use Rattle.mmdb_section.specs.Working.{IsControl, IsSize, IsHeader, IsPointer}
use Rattle.mmdb_section.proofs.StandLemmas.{first_of, second_of, byte_here, byte_after, number_here, number_after}

-- ---- control bytes

control_of_kind : (s : List ℕ) (p c kind low : ℕ) → slice_get s p ≡ Some c → c / 32 ≡ kind → c % 32 ≡ low → 1 < kind → header_at s p ≡ sized_header s (p + 1) kind low
unfolding header_at
control_of_kind s p c kind low at high low_is some =
    let no : eqb (c / 32) 0 ≡ false = grind (arith, nat_tests) in
    let one : eqb (c / 32) 1 ≡ false = grind (arith, nat_tests) in
    rw (at, no, one, high, low_is) refl

pub control_short : (kind low : ℕ) → 1 < kind → low < 32 → IsControl kind low ((kind * 32 + low) ∷ [])
control_short kind low some small before behind = control_of_kind _ (length before) (kind * 32 + low) kind low (byte_here (kind * 32 + low) [] before behind) (omega arith) (omega arith) some

control_of_extended : (s : List ℕ) (p kind low : ℕ) → slice_get s p ≡ Some low → slice_get s (p + 1) ≡ Some (kind - 7) → low < 32 → 8 ≤ kind → header_at s p ≡ sized_header s (p + 2) kind low
unfolding header_at
control_of_extended s p kind low at next small high =
    let yes : eqb (low / 32) 0 ≡ true = grind (arith, nat_tests) in
    let kind_is : kind - 7 + 7 ≡ kind = omega arith in
    let low_is : low % 32 ≡ low = omega arith in
    rw (at, yes, next, kind_is, low_is) refl

pub control_extended : (kind low : ℕ) → 8 ≤ kind → low < 32 → IsControl kind low (low ∷ (kind - 7) ∷ [])
control_extended kind low high small before behind = control_of_extended _ (length before) kind low (byte_here low ((kind - 7) ∷ []) before behind) (byte_after low (kind - 7) [] before behind) small high

-- ---- sizes

size_own_at : (s : List ℕ) (p low : ℕ) → low < 29 → size_at s p low ≡ Some (low, p)
unfolding size_at
size_own_at s p low h = let t = lt-ltb low 29 h in rw t refl

size_one_at : (s : List ℕ) (p low n : ℕ) → low ≡ 29 → number_at s p 1 ≡ Some n → size_at s p low ≡ Some (29 + n, p + 1)
unfolding size_at
size_one_at s p low n is h = rw (is, h) refl

size_two_at : (s : List ℕ) (p low n : ℕ) → low ≡ 30 → number_at s p 2 ≡ Some n → size_at s p low ≡ Some (285 + n, p + 2)
unfolding size_at
size_two_at s p low n is h = rw (is, h) refl

size_three_at : (s : List ℕ) (p low n : ℕ) → low ≡ 31 → number_at s p 3 ≡ Some n → size_at s p low ≡ Some (65821 + n, p + 3)
unfolding size_at
size_three_at s p low n is h = rw (is, h) refl

pub size_own : (low size : ℕ) → size < 29 → low ≡ size → IsSize low size []
size_own low size small is before behind =
    let end : length before ≡ length before + 0 = omega arith in
    size_own_at _ (length before) low (omega arith) ∙ ap (λ (n : ℕ). Some (n, length before)) is ∙ ap (λ (n : ℕ). Some (size, n)) end

pub size_one : (low size : ℕ) → low ≡ 29 → 29 ≤ size → size < 285 → IsSize low size ((size - 29) ∷ [])
size_one low size is a b before behind =
    let spelled : big_endian ((size - 29) ∷ []) ≡ size - 29 = omega arith in
    let sum : 29 + (size - 29) ≡ size = omega arith in
    size_one_at _ (length before) low (size - 29) is (number_here ((size - 29) ∷ []) before behind ∙ ap (λ (x : ℕ). Some x) spelled) ∙ ap (λ (x : ℕ). Some (x, length before + 1)) sum

pub size_two : (low size : ℕ) → low ≡ 30 → 285 ≤ size → size < 65821 → IsSize low size ((size - 285) / 256 ∷ (size - 285) % 256 ∷ [])
size_two low size is a b before behind =
    let xs : List ℕ = (size - 285) / 256 ∷ (size - 285) % 256 ∷ [] in
    let spelled : big_endian ((size - 285) / 256 ∷ (size - 285) % 256 ∷ []) ≡ size - 285 = omega arith in
    let sum : 285 + (size - 285) ≡ size = omega arith in
    size_two_at _ (length before) low (size - 285) is (number_here xs before behind ∙ ap (λ (x : ℕ). Some x) spelled) ∙ ap (λ (x : ℕ). Some (x, length before + 2)) sum

pub size_three : (low size : ℕ) → low ≡ 31 → 65821 ≤ size → size ≤ 16843036 → IsSize low size ((size - 65821) / 65536 ∷ (size - 65821) / 256 % 256 ∷ (size - 65821) % 256 ∷ [])
size_three low size is a b before behind =
    let xs : List ℕ = (size - 65821) / 65536 ∷ (size - 65821) / 256 % 256 ∷ (size - 65821) % 256 ∷ [] in
    let spelled : big_endian ((size - 65821) / 65536 ∷ (size - 65821) / 256 % 256 ∷ (size - 65821) % 256 ∷ []) ≡ size - 65821 = omega arith in
    let sum : 65821 + (size - 65821) ≡ size = omega arith in
    size_three_at _ (length before) low (size - 65821) is (number_here xs before behind ∙ ap (λ (x : ℕ). Some x) spelled) ∙ ap (λ (x : ℕ). Some (x, length before + 3)) sum

-- ---- headers

sized : (s : List ℕ) (p q r kind low size : ℕ) → header_at s p ≡ sized_header s q kind low → size_at s q low ≡ Some (size, r) → header_at s p ≡ Some (record { kind = kind; size = size; body = r })
unfolding sized_header
sized s p q r kind low size h k = h ∙ (rw k refl)

pub header_made : (kind low size : ℕ) (a b : List ℕ) → IsControl kind low a → IsSize low size b → IsHeader kind size (a ++ b)
header_made kind low size a b control is before behind =
    sized _ (length before) (length before + length a) (length before + length (a ++ b)) kind low size
    (first_of (λ s p q. header_at s p ≡ sized_header s q kind low) a b control before behind)
    (second_of (λ s p q. size_at s p low ≡ Some (size, q)) a b is before behind)

-- ---- pointers

control_of_pointer : (s : List ℕ) (p c : ℕ) → slice_get s p ≡ Some c → c / 32 ≡ 1 → header_at s p ≡ Some (record { kind = 1; size = c % 32; body = p + 1 })
unfolding header_at
control_of_pointer s p c at is = rw (at, is) refl

leads_at : (s : List ℕ) (p low n target next : ℕ) → number_at s p (low / 8 + 1) ≡ Some n → target_of (low / 8) (low % 8) n ≡ target → p + (low / 8 + 1) ≡ next → pointer_at s p low ≡ Some (record { target = target; next = next })
unfolding pointer_at
leads_at s p low n target next h to end = rw (h, to, end) refl

pointer_made : (target shape high c : ℕ) (xs : List ℕ) → c / 32 ≡ 1 → c % 32 / 8 ≡ shape → c % 32 % 8 ≡ high → length xs ≡ shape + 1 → target_of shape high (big_endian xs) ≡ target → IsPointer target (c ∷ xs)
pointer_made target shape high c xs is shape_is high_is count to = record {
  low = c % 32;
  header = λ before behind. control_of_pointer _ (length before) c (byte_here c xs before behind) is;
  leads = λ before behind.
      let len : length xs ≡ c % 32 / 8 + 1 = omega arith in
      let n = ap (number_at (before ++ ((c ∷ xs) ++ behind)) (length before + 1)) (sym len) ∙ number_after c xs before behind in
      let target_is : target_of (c % 32 / 8) (c % 32 % 8) (big_endian xs) ≡ target = ap (λ (k : ℕ). target_of k (c % 32 % 8) (big_endian xs)) shape_is ∙ ap (λ (k : ℕ). target_of shape k (big_endian xs)) high_is ∙ to in
      let end : length before + 1 + (c % 32 / 8 + 1) ≡ length before + length (c ∷ xs) = omega arith in
      leads_at _ (length before + 1) (c % 32) (big_endian xs) target (length before + length (c ∷ xs)) n target_is end;
}

pub pointer_one : (target : ℕ) → target < 2048 → IsPointer target ((32 + target / 256) ∷ target % 256 ∷ [])
pointer_one target h = pointer_made target 0 (target / 256) (32 + target / 256) (target % 256 ∷ []) (omega arith) (omega arith) (omega arith) refl (omega arith)

pub pointer_two : (target : ℕ) → 2048 ≤ target → target < 526336 → IsPointer target ((40 + (target - 2048) / 65536) ∷ (target - 2048) / 256 % 256 ∷ (target - 2048) % 256 ∷ [])
pointer_two target a b = pointer_made target 1 ((target - 2048) / 65536) (40 + (target - 2048) / 65536) ((target - 2048) / 256 % 256 ∷ (target - 2048) % 256 ∷ []) (omega arith) (omega arith) (omega arith) refl (omega arith)

pub pointer_three : (target : ℕ) → 526336 ≤ target → target < 134744064 → IsPointer target ((48 + (target - 526336) / 16777216) ∷ (target - 526336) / 65536 % 256 ∷ (target - 526336) / 256 % 256 ∷ (target - 526336) % 256 ∷ [])
pointer_three target a b = pointer_made target 2 ((target - 526336) / 16777216) (48 + (target - 526336) / 16777216) ((target - 526336) / 65536 % 256 ∷ (target - 526336) / 256 % 256 ∷ (target - 526336) % 256 ∷ []) (omega arith) (omega arith) (omega arith) refl (omega arith)

pub pointer_four : (target : ℕ) → target < 4294967296 → IsPointer target (56 ∷ target / 16777216 ∷ target / 65536 % 256 ∷ target / 256 % 256 ∷ target % 256 ∷ [])
pointer_four target h = pointer_made target 3 0 56 (target / 16777216 ∷ target / 65536 % 256 ∷ target / 256 % 256 ∷ target % 256 ∷ []) refl refl refl refl (omega arith)
