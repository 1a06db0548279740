-- What is read along a path in the record of one database.
use Rattle.std.proofs.Common.{◌≡◌, ℕ, List, [], ◌∷◌, Option, Some, None, Bool, true, false, Result, refl, sym, ap, ◌∙◌, subst}
use Rattle.mmdb_format.specs.Unfolding.{Tree}
use Rattle.mmdb_format.specs.declared.error.MaxMindDbError.{MaxMindDbError}
use Rattle.mmdb_format.specs.declared.error.MaxMindDbError.TheVariants.{Memory, InvalidDatabase, Io, Decoding, ResourceLimit, InvalidNetwork, InvalidInput}
use Rattle.mmdb_decode.specs.Errors.{Fails}
use Rattle.mmdb_decode.specs.Reading.{Meaning}
use Rattle.mmdb_decode.specs.State.{begin}
use Rattle.mmdb_value.specs.declared.any_value.Value.{Value}
use Rattle.mmdb_reader.specs.Selecting.{answer_along, meets_other_type}
use Rattle.mmdb_reader.specs.declared.path.PathElement.{PathElement}
use Rattle.mmdb_query.specs.Reading.{unless_other, found_along, reads_in, or_next, first_of, IsReadAs, stands_for_none}

-- what is selected is read
pub selects : (read : Meaning Tree) (path : List PathElement) (s : List ℕ) (offset : ℕ) (value : Option Tree)
    → answer_along path true read s offset ≡ Some value → found_along read path s offset ≡ Some value
selects read path s offset value is = ap (unless_other (meets_other_type path (begin s offset))) is

fails_none : (e : MaxMindDbError) (met : Bool) (read : Option (Option Tree)) → Fails false e read → stands_for_none e met ≡ true → unless_other met read ≡ Some None
fails_none Memory met read fails stands = cc
fails_none (InvalidDatabase message offset) met read fails stands = ap (unless_other met) fails ∙ ap (λ b. unless_other b None) stands
fails_none (Io e) met read fails stands = ap (unless_other met) fails ∙ ap (λ b. unless_other b None) stands
fails_none (Decoding message offset path) met read fails stands = ap (unless_other met) fails ∙ ap (λ b. unless_other b None) stands
fails_none (ResourceLimit message offset path) met read fails stands = ap (unless_other met) fails ∙ ap (λ b. unless_other b None) stands
fails_none (InvalidNetwork e) met read fails stands = ap (unless_other met) fails ∙ ap (λ b. unless_other b None) stands
fails_none (InvalidInput message) met read fails stands = ap (unless_other met) fails ∙ ap (λ b. unless_other b None) stands

fails_still : (e : MaxMindDbError) (met : Bool) (read : Option (Option Tree)) → Fails false e read → stands_for_none e met ≡ false → Fails false e (unless_other met read)
fails_still Memory met read fails stands = tt
fails_still (InvalidDatabase message offset) met read fails stands = ap (unless_other met) fails ∙ ap (λ b. unless_other b None) stands
fails_still (Io e) met read fails stands = ap (unless_other met) fails ∙ ap (λ b. unless_other b None) stands
fails_still (Decoding message offset path) met read fails stands = ap (unless_other met) fails ∙ ap (λ b. unless_other b None) stands
fails_still (ResourceLimit message offset path) met read fails stands = ap (unless_other met) fails ∙ ap (λ b. unless_other b None) stands
fails_still (InvalidNetwork e) met read fails stands = ap (unless_other met) fails ∙ ap (λ b. unless_other b None) stands
fails_still (InvalidInput message) met read fails stands = ap (unless_other met) fails ∙ ap (λ b. unless_other b None) stands

-- an error stands for nothing
pub none_along : (read : Meaning Tree) (path : List PathElement) (s : List ℕ) (offset : ℕ) (e : MaxMindDbError)
    → Fails false e (answer_along path true read s offset) → stands_for_none e (meets_other_type path (begin s offset)) ≡ true
    → found_along read path s offset ≡ Some None
none_along read path s offset e fails stands = fails_none e (meets_other_type path (begin s offset)) (answer_along path true read s offset) fails stands

-- or for what can't be read
pub fails_along : (read : Meaning Tree) (path : List PathElement) (s : List ℕ) (offset : ℕ) (e : MaxMindDbError)
    → Fails false e (answer_along path true read s offset) → stands_for_none e (meets_other_type path (begin s offset)) ≡ false
    → Fails false e (found_along read path s offset)
fails_along read path s offset e fails stands = fails_still e (meets_other_type path (begin s offset)) (answer_along path true read s offset) fails stands

-- what is read where there is a record
pub read_there : (found : List PathElement → List ℕ → ℕ → Option (Option Tree)) (s t : List ℕ) (place : ℕ) (offset : Option ℕ) (path : List PathElement) (r : Result (Option Value) MaxMindDbError)
    → s ≡ t → offset ≡ Some place → IsReadAs (found path s place) r → IsReadAs (reads_in found t offset path) r
read_there found s t place offset path r section is read =
    subst (λ o. IsReadAs (reads_in found t o path) r) (sym is) (subst (λ (l : List ℕ). IsReadAs (found path l place) r) section read)

-- the last of several databases
last : (read : Option (Option Tree)) → or_next read (Some None) ≡ read
last None = refl
last (Some None) = refl
last (Some (Some v)) = refl

-- one database is a list of one
pub read_alone : (found : List PathElement → List ℕ → ℕ → Option (Option Tree)) (s t : List ℕ) (place : ℕ) (offset : Option ℕ) (path : List PathElement) (r : Result (Option Value) MaxMindDbError)
    → s ≡ t → offset ≡ Some place → IsReadAs (found path s place) r → IsReadAs (first_of found (t ∷ []) (offset ∷ []) path) r
read_alone found s t place offset path r section is read =
    subst (λ x. IsReadAs x r) (sym (last (reads_in found t offset path))) (read_there found s t place offset path r section is read)

-- which alone is read
pub only_one : (read : Option (Option Tree)) (r : Result (Option Value) MaxMindDbError) → IsReadAs (or_next read (Some None)) r → IsReadAs read r
only_one read r is = subst (λ x. IsReadAs x r) (last read) is
