-- Values that are passed by their control byte alone.
use Rattle.std.proofs.Common.{◌≡◌, ℕ, suc, ◌+◌, ◌-◌, ◌≤◌, ◌<◌, ◌/◌, ◌%◌, List, length, Option, Some, true, false, nat_lt, nat_le, refl, arith, slice_get}
use Rattle.std.proofs.lemmas.Bool.Decides.{nat_tests}
use Rattle.mmdb_format.specs.declared.header.Header.{Header}
use Rattle.mmdb_format.specs.Header.{header_at, sized_header, size_at, number_at, bytes_at}
use Rattle.mmdb_format.specs.Pointer.{pointer_at}
use Rattle.mmdb_format.specs.Contents.{passed_end, content_at}
use Rattle.mmdb_decode.specs.Scalars.{free_of_charge}
use Rattle.mmdb_decode.specs.Skipping.{skip_within, passes, parts_of}
use Rattle.mmdb_decode.specs.State.{State, decoded, Within}
use Rattle.mmdb_decode.proofs.StepLaws.{state, read_free}
use Rattle.mmdb_decode.proofs.SkipLaws.{scalar_skipped, pass_goes_on}

abbrev alone : ℕ → ℕ → ℕ → Header
alone kind size p = record { kind = kind; size = size; body = p + 1 }

-- the values that end this many bytes after their control byte, whatever container they are in
abbrev pub PassesBy : List ℕ → ℕ → ℕ → Type 0
PassesBy s p len = (nested levels : ℕ) → skip_within nested s p levels ≡ Some (free_of_charge (tt, p + 1 + len))

pointer_alone_at : (s : List ℕ) (p control : ℕ) → slice_get s p ≡ Some control → control / 32 ≡ 1 → header_at s p ≡ Some (alone 1 (control % 32) p)
unfolding header_at
pointer_alone_at s p control h k = rw (h, k) refl

text_alone_at : (s : List ℕ) (p control : ℕ) → slice_get s p ≡ Some control → control / 32 ≡ 2 → control % 32 ≤ 28 → header_at s p ≡ Some (alone 2 (control % 32) p)
unfolding header_at sized_header size_at
text_alone_at s p control h k l = let small : nat_lt (control % 32) 29 ≡ true = grind (arith, nat_tests) in rw (h, k, small) refl

number_alone_at : (s : List ℕ) (p control : ℕ) → slice_get s p ≡ Some control → control / 32 ≡ 6 → control % 32 ≤ 4 → header_at s p ≡ Some (alone 6 (control % 32) p)
unfolding header_at sized_header size_at
number_alone_at s p control h k l = let small : nat_lt (control % 32) 29 ≡ true = grind (arith, nat_tests) in rw (h, k, small) refl

pointer_passed : (s : List ℕ) (p size : ℕ) → p + 1 + (size / 8 + 1) ≤ length s → passed_end s (alone 1 size p) ≡ Some (p + 1 + (size / 8 + 1))
unfolding passed_end pointer_at number_at bytes_at
pointer_passed s p size h = let inside : nat_le (p + 1 + (size / 8 + 1)) (length s) ≡ true = grind (arith, nat_tests) in rw inside refl

text_passed : (s : List ℕ) (p size : ℕ) → p + 1 + size ≤ length s → passed_end s (alone 2 size p) ≡ Some (p + 1 + size)
unfolding passed_end content_at bytes_at
text_passed s p size h = let inside : nat_le (p + 1 + size) (length s) ≡ true = grind (arith, nat_tests) in rw inside refl

number_passed : (s : List ℕ) (p size : ℕ) → size ≤ 4 → p + 1 + size ≤ length s → passed_end s (alone 6 size p) ≡ Some (p + 1 + size)
unfolding passed_end content_at number_at bytes_at
number_passed s p size l h =
    let inside : nat_le (p + 1 + size) (length s) ≡ true = grind (arith, nat_tests) in
    let small : nat_le size 4 ≡ true = grind (arith, nat_tests) in
    rw (small, inside) refl

pub pointer_by : (s : List ℕ) (p control : ℕ) → slice_get s p ≡ Some control → control / 32 ≡ 1 → control % 32 / 8 + 1 < length s - p → PassesBy s p (control % 32 / 8 + 1)
unfolding parts_of
pointer_by s p control h k l nested levels = scalar_skipped nested s p levels (p + 1 + (control % 32 / 8 + 1)) (alone 1 (control % 32) p) (pointer_alone_at s p control h k) refl (pointer_passed s p (control % 32) (omega (arith, l)))

pub text_by : (s : List ℕ) (p control : ℕ) → slice_get s p ≡ Some control → control / 32 ≡ 2 → control % 32 ≤ 28 → control % 32 < length s - p → PassesBy s p (control % 32)
unfolding parts_of
text_by s p control h k m l nested levels = scalar_skipped nested s p levels (p + 1 + control % 32) (alone 2 (control % 32) p) (text_alone_at s p control h k m) refl (text_passed s p (control % 32) (omega (arith, l)))

pub number_by : (s : List ℕ) (p control : ℕ) → slice_get s p ≡ Some control → control / 32 ≡ 6 → control % 32 ≤ 4 → control % 32 < length s - p → PassesBy s p (control % 32)
unfolding parts_of
number_by s p control h k m l nested levels = scalar_skipped nested s p levels (p + 1 + control % 32) (alone 6 (control % 32) p) (number_alone_at s p control h k m) refl (number_passed s p (control % 32) m (omega (arith, l)))

-- one more short value is passed
pub passes_one : (σ : State) (whole : Option (Unit {0} × State)) (offset next n m nested : ℕ) → Within σ.budget → whole ≡ decoded false (passes (skip_within nested) n) (state σ.section offset σ.levels σ.budget) → n ≡ suc m → ((nested levels : ℕ) → skip_within nested σ.section offset levels ≡ Some (free_of_charge (tt, next))) → whole ≡ decoded false (passes (skip_within nested) m) (state σ.section next σ.levels σ.budget)
passes_one σ whole offset next n m nested w h e k = pass_goes_on (skip_within nested) whole n m (state σ.section offset σ.levels σ.budget) (state σ.section next σ.levels σ.budget) h e (read_free (skip_within nested) (state σ.section offset σ.levels σ.budget) tt next w (k nested σ.levels))
