-- What is read as the format says it, apart from where it lies in memory.
use Rattle.std.specs.Prelude.{ℕ, List, Option, option_map, Result}
use Rattle.std.specs.Borrow.{Bor}
use Rattle.std.specs.Result.{result_ok}
use Rattle.mmdb_format.specs.declared.content.Content.{Content}
use Rattle.mmdb_format.specs.declared.content.Content.TheVariants.{Text, Bytes, Bool, I32, U16, U32, U64, U128, Double, Float}
use Rattle.mmdb_format.specs.Contents.{Scalar, text, bytes, boolean, signed32, number16, number32, number64, number128, double_bits, float_bits}

abbrev pub content_view : Content → Scalar
content_view (Text x) = text x.now
content_view (Bytes x) = bytes x.now
content_view (Bool b) = boolean b
content_view (I32 z) = signed32 z
content_view (U16 n) = number16 n
content_view (U32 n) = number32 n
content_view (U64 n) = number64 n
content_view (U128 n) = number128 n
content_view (Double x) = double_bits x.bits
content_view (Float x) = float_bits x.bits

-- what a success gives: bytes, a content, or the bytes of a key with the offset after it
abbrev pub bytes_given : {E : Type 0} → Result (Bor (List ℕ)) E → Option (List ℕ)
bytes_given result = option_map (λ x. x.now) (result_ok result)

abbrev pub content_given : {E : Type 0} → Result Content E → Option Scalar
content_given result = option_map content_view (result_ok result)

abbrev pub key_given : {E : Type 0} → Result (Bor (List ℕ) × ℕ) E → Option (List ℕ × ℕ)
key_given result = option_map (λ x. (x.0.now, x.1)) (result_ok result)
