-- Bytes that are text.
use Rattle.std.proofs.Common.{◌≡◌, ℕ, List, Some, None, true, false, refl, sym}
use Rattle.std.specs.Str.{is_utf8, IsUtf8}
use Rattle.std.proofs.lemmas.Str.{IsUtf8-from_is_utf8}
use Rattle.std.proofs.Common.{Result, Ok, Err, option_map, Bor}
use Rattle.std.specs.Result.{result_ok}
use Rattle.mmdb_decode.specs.Scalars.{if_text}
use Rattle.mmdb_decode.specs.Reading.{Meaning, checked}
use Rattle.mmdb_decode.specs.State.{State, decoded}
use Rattle.mmdb_decode.specs.Errors.{Takes}
use Rattle.mmdb_decode.specs.State.{GivenUp}
use Rattle.mmdb_decode.proofs.StepLaws.{kept_decoded, given_up_kept}
use Rattle.mmdb_decode.proofs.ReadingLaws.{checked_ok, checked_missing, checked_none}

pub utf8_of : (bytes : List ℕ) → true ≡ is_utf8 bytes → IsUtf8 bytes
utf8_of bytes h = IsUtf8-from_is_utf8 bytes (sym h)

pub text_yes : (bytes : List ℕ) → true ≡ is_utf8 bytes → if_text bytes ≡ Some bytes
text_yes bytes h = rw (sym h) refl

pub text_no : (bytes : List ℕ) → false ≡ is_utf8 bytes → if_text bytes ≡ None
text_no bytes h = rw (sym h) refl

-- bytes that are read and then tested
pub bytes_taken : (read : Meaning (List ℕ)) (σ τ : State) → GivenUp σ τ × (decoded false read σ ≡ None) → GivenUp σ τ × (decoded false (checked if_text read) σ ≡ None)
bytes_taken read σ τ h = (h.0, checked_none false if_text read σ h.1)

pub text_taken : {E : Type 0} (read : Meaning (List ℕ)) (σ τ : State) (bytes : List ℕ) (r : Result (Bor (List ℕ)) E) → decoded false read σ ≡ Some (bytes, τ) → option_map (λ x. x.now) (result_ok r) ≡ if_text bytes → Takes (λ x. x.now) (decoded false (checked if_text read) σ) σ τ r
text_taken read σ τ bytes (Ok text) h k = checked_ok false if_text read σ τ bytes text.now h (sym k)
text_taken read σ τ bytes (Err e) h k = (given_up_kept σ τ (kept_decoded false read σ τ bytes h), checked_missing false if_text read σ τ bytes h (sym k))
