-- What decoding the value of a lookup's result gives.
use Rattle.std.specs.Prelude.{◌≡◌, ℕ, Bool, Option, Some, None}
use Rattle.mmdb_format.specs.declared.error.MaxMindDbError.{MaxMindDbError}
use Rattle.mmdb_decode.specs.Errors.{Fails}

-- nothing without data, and else what is read at the offset
abbrev pub DecodesTo : {T A : Type 0} → (T → A) → (ℕ → Option A) → Option ℕ → Option T → Type 0
DecodesTo datum read None None = Unit {0}
DecodesTo datum read None (Some v) = ⊥
DecodesTo datum read (Some offset) None = ⊥
DecodesTo datum read (Some offset) (Some v) = read offset ≡ Some (datum v)

-- there is data, and nothing readable is at the offset; or memory ran out, unless a success takes none
abbrev pub FailsToDecode : {A : Type 0} → Bool → MaxMindDbError → (ℕ → Option A) → Option ℕ → Type 0
FailsToDecode free e read None = ⊥
FailsToDecode free e read (Some offset) = Fails free e (read offset)
