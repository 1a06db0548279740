-- Texts that are being laid out, into which some strings are put last.
use Rattle.std.specs.Prelude.{◌≡◌, ◌≤◌, ℕ, List, [], ◌∷◌, ◌++◌, length, drop, slice_range}
use Rattle.std.specs.List.{All}
use Rattle.json.specs.Print.{quoted}
use Rattle.base64.specs.GeneralPurpose.{encode_of}
use Rattle.base64.specs.Engines.{standard}
use Rattle.mmdb_json.specs.declared.draft.Hole.{Hole}
use Rattle.mmdb_json.specs.declared.draft.Later.{Later}
use Rattle.mmdb_json.specs.declared.draft.Later.TheVariants.{Text, Bytes}

pub record Drafted : Type 0 where
  pub text : List ℕ
  pub holes : List Hole

-- the string that is put in
abbrev pub later_string : Later → List ℕ
later_string (Text x) = quoted x.now
later_string (Bytes x) = quoted (encode_of standard x.now)

-- the text from an index on, with what is put in
abbrev pub filled : ℕ → List ℕ → List Hole → List ℕ
filled from text [] = drop from text
filled from text (h ∷ hs) = slice_range text from h.at ++ (later_string h.later ++ filled h.at text hs)

-- the whole of it
abbrev pub shown : Drafted → List ℕ
shown d = filled 0 d.text d.holes

-- nothing is put in after the end
abbrev pub AreWithin : List ℕ → List Hole → Type 0
AreWithin text holes = All (λ h. h.at ≤ length text) holes

-- It grows by bytes. They are in the text itself where nothing more is put in last.
pub record Grows (old new : Drafted) (bytes : List ℕ) : Type 0 where
  pub shows : shown new ≡ shown old ++ bytes
  pub holes : length old.holes ≤ length new.holes
  pub plain : length new.holes ≡ length old.holes → new.text ≡ old.text ++ bytes

-- bytes follow others
abbrev pub IsBehind : List ℕ → List ℕ → Type 0
IsBehind old new = (rest : List ℕ) × (new ≡ old ++ rest)
