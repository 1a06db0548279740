-- Bytes that are text.
use Rattle.std.proofs.Common.{◌≡◌, ℕ, List, Bool, true, false, refl, sym}
use Rattle.std.specs.Str.{is_utf8, IsUtf8, IsAscii}
use Rattle.std.proofs.lemmas.Str.{is_utf8-from_IsUtf8, IsUtf8-from_is_utf8, IsUtf8-from_ascii}

pub utf8_is : (bytes : List ℕ) → IsUtf8 bytes → true ≡ is_utf8 bytes
utf8_is bytes h = sym (is_utf8-from_IsUtf8 bytes h)

pub ascii_is : (bytes : List ℕ) → IsAscii bytes → true ≡ is_utf8 bytes
ascii_is bytes h = utf8_is bytes (IsUtf8-from_ascii bytes h)

not_true : (b : Bool) → (b ≡ true → ⊥) → false ≡ b
not_true true h = absurd (h refl)
not_true false h = refl

pub utf8_is_not : (bytes : List ℕ) → (IsUtf8 bytes → ⊥) → false ≡ is_utf8 bytes
utf8_is_not bytes h = not_true (is_utf8 bytes) (λ e. h (IsUtf8-from_is_utf8 bytes e))
