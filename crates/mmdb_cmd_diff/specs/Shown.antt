-- What is shown of records, as JSON.
use Rattle.std.specs.Prelude.{◌≡◌, ℕ, List, [], ◌∷◌, Option, Some, None}
use Rattle.mmdb_json.specs.RecordText.{AppendsRecord}

-- the text where there is no record
abbrev pub null_text : List ℕ
null_text = 110 ∷ 117 ∷ 108 ∷ 108 ∷ []

abbrev pub text_or_null : Option (List ℕ) → List ℕ
text_or_null None = null_text
text_or_null (Some text) = text

-- a text of the record at an offset, or of no record
abbrev pub IsShown : List ℕ → Option ℕ → List ℕ → Type 0
IsShown s None text = text ≡ null_text
IsShown s (Some offset) text = AppendsRecord s offset [] text

-- the same, laid out: none where there is no record
abbrev pub IsLaidOut : List ℕ → Option ℕ → Option (List ℕ) → Type 0
IsLaidOut s offset laid_out = IsShown s offset (text_or_null laid_out)
