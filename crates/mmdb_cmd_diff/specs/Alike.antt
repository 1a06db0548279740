-- When the same is shown of two records, and when a record can't be read.
use Rattle.std.specs.Prelude.{◌≡◌, ◌⊎◌, ℕ, true, List, Option, Some, None}
use Rattle.std.specs.Borrow.{Bor}
use Rattle.std.specs.declared.convert.AsSlice.{Ghosts}
use Rattle.mmdb_cache.specs.declared.table.Memo.{Memo}
use Rattle.mmdb_cache.specs.Table.{HasKey}
use Rattle.mmdb_format.specs.Unfolding.{Tree}
use Rattle.mmdb_format.specs.declared.error.MaxMindDbError.{MaxMindDbError}
use Rattle.mmdb_format.specs.declared.error.MaxMindDbError.TheVariants.{Memory}
use Rattle.mmdb_decode.specs.Errors.{answer}
use Rattle.mmdb_value.specs.AnyValue.{value_at}
use Rattle.mmdb_json.specs.Texts.{IsCompact}
use Rattle.mmdb_reader.specs.Found.{section_asked}
use Rattle.mmdb_reader.specs.declared.lookup_result.LookupResult.{LookupResult}
use Rattle.mmdb_compare.specs.declared.pairs.KnownPairs.{KnownPairs}
use Rattle.mmdb_compare.specs.declared.pairs.Offsets.{Offsets}
use Rattle.mmdb_compare.specs.declared.side.Side.{Side}
use Rattle.mmdb_compare.specs.declared.side.Side.TheVariants.{Old, New}
use Rattle.mmdb_compare.specs.Kept.{AreKeptAs}
use Rattle.mmdb_compare.specs.Same.{Sections}
use Rattle.mmdb_cmd_diff.specs.Seen.{HaveOneValueAt}
use Rattle.mmdb_cmd_diff.specs.Shown.{IsShown}
use Rattle.mmdb_cmd_diff.specs.Showing.{Showing}

-- one text shows both records, or that there is none
abbrev pub AreShownSame : Sections → Option ℕ → Option ℕ → Type 0
AreShownSame s old new = (text : List ℕ) × IsShown s.in_old old text × IsShown s.in_new new text

-- Both have one value, or one text shows both.
abbrev pub AreAlikeIn : Sections → Option ℕ → Option ℕ → Type 0
AreAlikeIn s old new = HaveOneValueAt s old new ⊎ AreShownSame s old new

-- so where whole records are shown; of values at paths nothing is said
abbrev pub AreAlike : Showing → Option ℕ → Option ℕ → Type 0
AreAlike showing old new = showing.are_whole ≡ true → AreAlikeIn showing.sections old new

-- so of the records of a pair that is kept
abbrev pub IsOfAlike : Showing → Offsets → Type 0
IsOfAlike showing offsets = (old new : Option ℕ) → AreKeptAs old new offsets → AreAlike showing old new

abbrev pub AreOfAlike : {V : Type 0} → Showing → List (Memo Offsets V) → Type 0
AreOfAlike showing kept = (offsets : Offsets) → HasKey offsets kept → IsOfAlike showing offsets

-- so of all that are kept to be the same
pub record AreKeptAlike (showing : Showing) (kept : KnownPairs) : Type 0 where
  pub same : AreOfAlike showing kept.same
  pub last : AreOfAlike showing kept.last

-- there is a record, which can't be read
abbrev pub IsUnreadable : List ℕ → Option ℕ → Type 0
IsUnreadable s None = ⊥
IsUnreadable s (Some offset) = answer true (value_at true) s offset ≡ None

-- so of the record of a side
abbrev pub IsUnreadableOn : Sections → Option ℕ → Option ℕ → Side → Type 0
IsUnreadableOn s old new Old = IsUnreadable s.in_old old
IsUnreadableOn s old new New = IsUnreadable s.in_new new

-- an error is another one than that memory is out
abbrev pub IsNoMemory : MaxMindDbError → Type 0
IsNoMemory Memory = ⊥
IsNoMemory _ = Unit {0}

abbrev pub IsUnread : Showing → Option ℕ → Option ℕ → Side → Type 0
IsUnread showing old new side = showing.are_whole ≡ true → IsUnreadableOn showing.sections old new side

-- ---- what was found

-- it was found in a database with this data section
abbrev pub IsFoundIn : {S : Type 0} {G : Ghosts S ℕ} → List ℕ → Option (Bor (LookupResult S G)) → Type 0
IsFoundIn s None = Unit {0}
IsFoundIn s (Some found) = section_asked found.now ≡ s

abbrev pub AreFoundIn : {S : Type 0} {G : Ghosts S ℕ} → Sections → Option (Bor (LookupResult S G)) → Option (Bor (LookupResult S G)) → Type 0
AreFoundIn s old new = IsFoundIn s.in_old old × IsFoundIn s.in_new new

-- ---- what is read

-- the value of the record at an offset, or none where there is no record
abbrev pub IsRead : List ℕ → Option ℕ → Option Tree → Type 0
IsRead s None value = value ≡ None
IsRead s (Some offset) None = ⊥
IsRead s (Some offset) (Some value) = answer true (value_at true) s offset ≡ Some value

-- one text of both values, or there is none
abbrev pub HaveSameText : Option Tree → Option Tree → Type 0
HaveSameText None None = Unit {0}
HaveSameText None (Some new) = ⊥
HaveSameText (Some old) None = ⊥
HaveSameText (Some old) (Some new) = (text : List ℕ) × IsCompact old text × IsCompact new text

abbrev pub IsTextIf : Option Tree → Option (List ℕ) → Type 0
IsTextIf None text = text ≡ None
IsTextIf (Some value) None = ⊥
IsTextIf (Some value) (Some text) = IsCompact value text
