-- What is read along a path in a record, and in the first of several that has a value there.
use Rattle.std.specs.Prelude.{◌≡◌, ℕ, List, [], ◌∷◌, Option, Some, None, option_map, false, Result, Ok, Err}
use Rattle.std.specs.declared.convert.AsSlice.{Ghosts}
use Rattle.mmdb_format.specs.Unfolding.{Tree}
use Rattle.mmdb_format.specs.declared.error.MaxMindDbError.{MaxMindDbError}
use Rattle.mmdb_decode.specs.Errors.{Fails}
use Rattle.mmdb_value.specs.Values.{value_tree}
use Rattle.mmdb_value.specs.declared.any_value.Value.{Value}
use Rattle.mmdb_reader.specs.Found.{section_asked, offset_found}
use Rattle.mmdb_found.specs.Found.{value_found}
use Rattle.mmdb_query.specs.Reading.{outline_found}
use Rattle.mmdb_reader.specs.declared.lookup_result.LookupResult.{LookupResult}
use Rattle.mmdb_reader.specs.declared.path.PathElement.{PathElement}

-- What is read along a path in the record at an offset, where there is one: a value, or nothing where the path leads
-- nowhere. There is no answer where the way or the value can't be read.
abbrev pub reads_in : List ℕ → Option ℕ → List PathElement → Option (Option Tree)
reads_in s None path = Some None
reads_in s (Some offset) path = value_found path s offset

-- what is read along a path in the record that a lookup found
abbrev pub reads_found : {S : Type 0} {G : Ghosts S ℕ} → LookupResult S G → List PathElement → Option (Option Tree)
reads_found found path = reads_in (section_asked found) (offset_found found) path

-- what was read, or what is read next where nothing is there
abbrev pub or_next : Option (Option Tree) → Option (Option Tree) → Option (Option Tree)
or_next None next = None
or_next (Some None) next = next
or_next (Some (Some v)) next = Some (Some v)

-- what is read in the record of an answer, if there is one
abbrev pub reads_of : {S : Type 0} {G : Ghosts S ℕ} → Option (LookupResult S G) → List PathElement → Option (Option Tree)
reads_of None path = Some None
reads_of (Some found) path = reads_found found path

-- what is read along a path in the first record of answers that has a value there
abbrev pub first_read_of : {S : Type 0} {G : Ghosts S ℕ} → List (Option (LookupResult S G)) → List PathElement → Option (Option Tree)
first_read_of [] path = Some None
first_read_of (answer ∷ answers) path = or_next (reads_of answer path) (first_read_of answers path)

-- What a reading gave is this answer: the tree of the value, nothing where the path leads nowhere, and no answer where
-- the way or the value failed. Out of memory is any answer.
abbrev pub IsReadAs : Option (Option Tree) → Result (Option Value) MaxMindDbError → Type 0
IsReadAs answer (Ok value) = answer ≡ Some (option_map value_tree value)
IsReadAs answer (Err e) = Fails false e answer

-- the same of what a condition reads: of a map or an array no more than its header
abbrev pub outlines_in : List ℕ → Option ℕ → List PathElement → Option (Option Tree)
outlines_in s None path = Some None
outlines_in s (Some offset) path = outline_found path s offset

abbrev pub outlines_found : {S : Type 0} {G : Ghosts S ℕ} → LookupResult S G → List PathElement → Option (Option Tree)
outlines_found found path = outlines_in (section_asked found) (offset_found found) path

abbrev pub outlines_of : {S : Type 0} {G : Ghosts S ℕ} → Option (LookupResult S G) → List PathElement → Option (Option Tree)
outlines_of None path = Some None
outlines_of (Some found) path = outlines_found found path

abbrev pub first_outline_of : {S : Type 0} {G : Ghosts S ℕ} → List (Option (LookupResult S G)) → List PathElement → Option (Option Tree)
first_outline_of [] path = Some None
first_outline_of (answer ∷ answers) path = or_next (outlines_of answer path) (first_outline_of answers path)
