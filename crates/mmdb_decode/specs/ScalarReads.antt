-- What reads of scalars and integers give, in the words of the format: which tree unfolds where a value is read.
use Rattle.std.specs.Prelude.{◌≡◌, ◌↔◌, ◌⊎◌, ℕ, ◌+◌, ◌<◌, ◌≤◌, ℤ, ◌≤ℤ◌, List, Some, true}
use Rattle.mmdb_format.specs.Pointer.{most_levels}
use Rattle.mmdb_format.specs.Contents.{Scalar, scalar_payload, scalar_is_text}
use Rattle.mmdb_format.specs.Unfolding.{Tree, scalar, pointer, Unfolds, levels_without_key_pointers, without_pointers}
use Rattle.mmdb_decode.specs.Reading.{Meaning}
use Rattle.mmdb_decode.specs.SmallNumbers.{whole_number, small_at}

-- a scalar is at p and ends before q: directly, or through one pointer, for which a level is left
abbrev pub ScalarStands : List ℕ → ℕ → ℕ → Scalar → ℕ → Type 0
ScalarStands s p d c q = Unfolds s p (scalar c) q ⊎ ((a : ℕ) × Unfolds s p (pointer a (scalar c)) q × (d < most_levels))

-- what is read is the scalar that is there, a text only if it is UTF-8; it costs no value after the first, and the
-- bytes of a text or a byte string
abbrev pub ReadsScalars : {A : Type 0} → Meaning A → (A → Scalar) → Type 0
ReadsScalars {A = A} read says =
    (s : List ℕ) (p d : ℕ) (v : A) (q c b : ℕ) →
    (read s p d ≡ Some (record { value = v; next = q; values = c; bytes = b })) ↔ (ScalarStands s p d (says v) q × (scalar_is_text (says v) ≡ true) × (c ≡ 0) × (b ≡ scalar_payload (says v)))

-- an integer of one of the four types is at p and ends before q: through any number of pointers,
-- for each of which a level is left
abbrev pub WholeNumberStands : List ℕ → ℕ → ℕ → ℤ → ℕ → Type 0
WholeNumberStands s p d z q =
    (u : Tree) × (c : Scalar) × Unfolds s p u q × (without_pointers u ≡ scalar c) × (whole_number c ≡ Some z) × (d + levels_without_key_pointers u ≤ most_levels)

-- what is read as a small number is such a number from low to high; it costs nothing after the first value
abbrev pub ReadsSmallNumbers : Type 0
ReadsSmallNumbers =
    (low high : ℤ) (s : List ℕ) (p d : ℕ) (z : ℤ) (q c b : ℕ) → d ≤ most_levels →
    (small_at low high s p d ≡ Some (record { value = z; next = q; values = c; bytes = b })) ↔ (WholeNumberStands s p d z q × (low ≤ℤ z) × (z ≤ℤ high) × (c ≡ 0) × (b ≡ 0))
