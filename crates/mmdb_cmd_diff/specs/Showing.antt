-- What is shown of two records, and kept of it.
use Rattle.std.specs.Prelude.{◌≡◌, ℕ, ◌+◌, ◌*◌, ◌^◌, Bool, true, List, Option, Some, None, option_map}
use Rattle.std.specs.Borrow.{Bor}
use Rattle.std.specs.List.{Contains}
use Rattle.std.specs.Option.{ForSome}
use Rattle.std.specs.declared.convert.AsSlice.{Ghosts}
use Rattle.mmdb_cache.specs.declared.cache.CacheEntry.{CacheEntry}
use Rattle.mmdb_reader.specs.Found.{offset_found}
use Rattle.mmdb_reader.specs.declared.lookup_result.LookupResult.{LookupResult}
use Rattle.mmdb_cmd_diff.specs.declared.shown.ShownPair.{ShownPair}
use Rattle.mmdb_compare.specs.Kept.{IsKeptAs}
use Rattle.mmdb_compare.specs.Same.{Sections}
use Rattle.mmdb_cmd_diff.specs.Shown.{IsShown}

-- the data sections of two databases, and whether whole records of them are shown
pub record Showing : Type 0 where
  pub are_whole : Bool
  pub sections : Sections

-- What is shown of the records at two offsets, or of none, where whole ones are: the text of each. Of values at paths
-- nothing is said.
abbrev pub IsShownPair : Showing → Option ℕ → Option ℕ → ShownPair → Type 0
IsShownPair showing old new shown = showing.are_whole ≡ true →
    IsShown showing.sections.in_old old shown.old.items × IsShown showing.sections.in_new new shown.new.items

-- the number by which a pair is kept
abbrev pub IsNumberOf : Option ℕ → Option ℕ → ℕ → Type 0
IsNumberOf old new number = (a b : ℕ) × IsKeptAs old a × IsKeptAs new b × (number ≡ a + b * 2 ^ 32)

-- it is shown of the pair that has a number
abbrev pub IsShownFor : Showing → ℕ → ShownPair → Type 0
IsShownFor showing number shown = (old new : Option ℕ) → IsNumberOf old new number → IsShownPair showing old new shown

-- so of all that is kept
pub record AreKeptFor (showing : Showing) (kept : List (Option (CacheEntry ShownPair))) (last : Option (ℕ × ShownPair)) : Type 0 where
  pub each : (entry : CacheEntry ShownPair) → Contains kept (Some entry) → IsShownFor showing entry.key entry.value
  pub newest : ForSome last (λ pair. IsShownFor showing pair.0 pair.1)

-- where the record of what was found is, if there is one
abbrev pub offset_in : {S : Type 0} {G : Ghosts S ℕ} → Option (LookupResult S G) → Option ℕ
offset_in None = None
offset_in (Some found) = offset_found found

abbrev pub offset_at : {S : Type 0} {G : Ghosts S ℕ} → Option (Bor (LookupResult S G)) → Option ℕ
offset_at found = offset_in (option_map (λ f. f.now) found)
