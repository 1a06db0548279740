-- The texts of scalars.
use Rattle.std.proofs.Common.{◌≡◌, ℕ, suc, arith, Bool, true, false, cond, List, [], ◌∷◌, ◌++◌, Result, Ok, Err, OnOk, Some, None, refl, sym, subst}
use Rattle.std.specs.Str.{IsUtf8, is_utf8}
use Rattle.std.proofs.lemmas.Str.{is_utf8-from_IsUtf8, IsUtf8-from_ascii}
use Rattle.std.specs.Borrow.{Bor}
use Rattle.std.specs.Prelude.{Option, IfSome, MatchResult}
use Rattle.std.specs.Result.{result_ok}
use Rattle.base64.specs.GeneralPurpose.{encode_of}
use Rattle.base64.specs.Engines.{standard}
use Rattle.base64.proofs.EngineFacts.{IsAscii-encode_of}
use Rattle.mmdb_decode.specs.Scalars.{if_text}
use Rattle.std.specs.List.{All}
use Rattle.json.specs.Json.{Json, null, boolean, number, string}
use Rattle.json.specs.Print.{quoted, escape, IsNumber}
use Rattle.json.proofs.Printed.Strings.{escape_byte_plain}
use Rattle.json.proofs.Printed.Utf8.{IsUtf8-are_ascii, IsUtf8-quoted}
use Rattle.mmdb_format.specs.Contents.{Scalar, scalar_is_text}
use Rattle.mmdb_json.specs.Shown.{ShowsScalar}
use Rattle.mmdb_json.specs.Drafts.{Drafted, Grows}
use Rattle.mmdb_json.specs.Appended.{IsTextOf, AppendsScalar, IsPlain}
use Rattle.mmdb_json.proofs.Printing.{string_text, number_text, boolean_text, null_text}

pub string_written : (s : List ℕ) → IsUtf8 s → IsTextOf (string s) (quoted s)
string_written s utf8 = record { is = sym (string_text s); numbers = tt; utf8 = IsUtf8-quoted s utf8 }

pub number_written : (s : List ℕ) → IsNumber s → IsUtf8 s → IsTextOf (number s) s
number_written s is utf8 = record { is = sym (number_text s); numbers = is; utf8 = utf8 }

pub null_written : IsTextOf null (110 ∷ 117 ∷ 108 ∷ 108 ∷ [])
null_written = record { is = sym null_text; numbers = tt; utf8 = IsUtf8-are_ascii _ refl }

pub true_written : IsTextOf (boolean true) (116 ∷ 114 ∷ 117 ∷ 101 ∷ [])
true_written = record { is = sym (boolean_text true); numbers = tt; utf8 = IsUtf8-are_ascii _ refl }

pub false_written : IsTextOf (boolean false) (102 ∷ 97 ∷ 108 ∷ 115 ∷ 101 ∷ [])
false_written = record { is = sym (boolean_text false); numbers = tt; utf8 = IsUtf8-are_ascii _ refl }

-- a draft that grew by such a text
pub grows : {T E : Type 0} (r : Result T E) (c : Scalar) (j : Json) (old new : Drafted) (bytes : List ℕ) → OnOk r (Grows old new bytes) → ShowsScalar c j → IsTextOf j bytes → scalar_is_text c ≡ true → OnOk r (AppendsScalar c old new)
grows (Ok x) c j old new bytes e s t is = record { json = j; bytes = bytes; shows = s; text = t; is_text = is; grown = e }
grows (Err x) c j old new bytes e s t is = tt

-- plain bytes are left as they are
pub escape_plain : (d : List ℕ) → All IsPlain d → escape d ≡ d
escape_plain [] h = refl
escape_plain (x ∷ xs) h =
    let (high, quote, slash) = h 0 x (omega arith) in
    let rest = escape_plain xs (λ k d within. h (suc k) d (omega arith)) in
    λ i. escape_byte_plain x quote slash high i ++ rest i

-- what was tested is UTF-8
pub tested : (b : Bool) (x y : List ℕ) → Some y ≡ cond b (Some x) None → b ≡ true
tested true x y h = refl
tested false x y h = absurd (cc)

pub utf8_tested : (x y : List ℕ) → Some y ≡ if_text x → is_utf8 x ≡ true
utf8_tested x y h = tested (is_utf8 x) x y h

pub base64_utf8 : (m : List ℕ) → IsUtf8 (encode_of standard m)
base64_utf8 m = IsUtf8-from_ascii (encode_of standard m) (IsAscii-encode_of standard m)

pub utf8_result : {E : Type 0} (r : Result (Bor (List ℕ)) E) (x : List ℕ) (o : Option (Bor (List ℕ))) (P Q : E → Type 0) → MatchResult r (λ s. (s.now ≡ x) × IsUtf8 x) (λ e. P e × Q e) → o ≡ result_ok r → IfSome o (λ _. is_utf8 x ≡ true)
utf8_result (Ok s) x o P Q h e = subst (λ p. IfSome p (λ _. is_utf8 x ≡ true)) (sym e) (is_utf8-from_IsUtf8 x h.1)
utf8_result (Err y) x o P Q h e = subst (λ p. IfSome p (λ _. is_utf8 x ≡ true)) (sym e) tt
