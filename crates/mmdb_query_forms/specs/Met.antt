-- What conditions say of what databases have.
use Rattle.std.specs.Prelude.{ℕ, List, Option, Bool}
use Rattle.mmdb_layout.specs.Conditions.{SaysAllMetBy, HasUnreadBy}
use Rattle.mmdb_query.specs.Reading.{outlines_of}
use Rattle.mmdb_query_forms.specs.declared.all_of.AllOf.{AllOf}

-- a Bool says whether all conditions are met by the records at these offsets of data sections
abbrev pub says_all : AllOf → List (List ℕ) → List (Option ℕ) → Bool → Type 0
says_all all s offsets b = SaysAllMetBy all.conditions.now (outlines_of s offsets) b

-- what one of them is on can't be read, and those before it are met
abbrev pub has_unread : AllOf → List (List ℕ) → List (Option ℕ) → Type 0
has_unread all s offsets = HasUnreadBy all.conditions.now (outlines_of s offsets)
