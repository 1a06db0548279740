-- The limits of a whole reading, and that an offset has at most one.
use Rattle.std.specs.Prelude.{◌≡◌, ◌↔◌, ℕ, ◌+◌, ◌≤◌, List, Some, true}
use Rattle.mmdb_decode.specs.Reading.{Reading, Meaning}
use Rattle.mmdb_decode.specs.State.{most_values, most_bytes}
use Rattle.mmdb_decode.specs.Errors.{answer}

-- a reading that begins a budget visits the first value and those that it costs, a pointer and its
-- target being one, and takes `r.bytes` bytes of texts and byte strings
abbrev pub IsWithinLimits : {A : Type 0} → Reading A → Type 0
IsWithinLimits r = (1 + r.values ≤ most_values) × (r.bytes ≤ most_bytes)

-- an answer that begins a budget is a reading within the limits
abbrev pub AnswerIsWithinLimits : Type 0 → Type 0
AnswerIsWithinLimits A =
    (read : Meaning A) (s : List ℕ) (p : ℕ) (v : A) →
    (answer true read s p ≡ Some v) ↔ ((r : Reading A) × (read s p 0 ≡ Some r) × IsWithinLimits r × (r.value ≡ v))

-- two readings of one meaning at one offset are one: they have the same value, the same end and the same
-- costs
abbrev pub OneReading : {A : Type 0} → Meaning A → Type 0
OneReading {A = A} read =
    (s : List ℕ) (p d : ℕ) (x y : Reading A) → read s p d ≡ Some x → read s p d ≡ Some y →
    (x.value ≡ y.value) × (x.next ≡ y.next) × (x.values ≡ y.values) × (x.bytes ≡ y.bytes)
