-- Values as bytes that are put after others, wherever those are ("Data Field Format" of the MaxMind DB File Format
-- Specification 2.0).
use Rattle.std.specs.Prelude.{◌≡◌, ℕ, ◌+◌, List, ◌++◌, length, true, Some}
use Rattle.std.specs.Str.{is_utf8}
use Rattle.mmdb_format.specs.Header.{header_at}
use Rattle.mmdb_format.specs.Contents.{Scalar, text}
use Rattle.mmdb_format.specs.Unfolding.{scalar, Unfolds}

-- bytes of which something holds were put after others
pub record Appends (P : List ℕ → Type 0) (old new : List ℕ) : Type 0 where
  pub more : List ℕ
  pub grown : new ≡ old ++ more
  pub is : P more

-- It holds of the section, the offset of these bytes and the offset after them, whatever is before and after them.
abbrev pub Stands : (List ℕ → ℕ → ℕ → Type 0) → List ℕ → Type 0
Stands P bytes = (before behind : List ℕ) → P (before ++ (bytes ++ behind)) (length before) (length before + length bytes)

-- they are a header of this type and size
abbrev pub IsHeader : ℕ → ℕ → List ℕ → Type 0
IsHeader kind size bytes = Stands (λ s p q. header_at s p ≡ Some (record { kind = kind; size = size; body = q })) bytes

-- they are a value that holds no others
abbrev pub IsScalar : Scalar → List ℕ → Type 0
IsScalar c bytes = Stands (λ s p q. Unfolds s p (scalar c) q) bytes

-- they are a text, which is UTF-8
abbrev pub IsText : List ℕ → List ℕ → Type 0
IsText x bytes = IsScalar (text x) bytes × (is_utf8 x ≡ true)
