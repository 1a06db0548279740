-- What is read along a path in the records of databases.
use Rattle.std.specs.Prelude.{◌≡◌, ℕ, List, [], ◌∷◌, get_or, Option, Some, None, option_map, Bool, true, false, Result, Ok, Err}
use Rattle.mmdb_format.specs.Unfolding.{Tree}
use Rattle.mmdb_format.specs.declared.error.MaxMindDbError.{MaxMindDbError}
use Rattle.mmdb_format.specs.declared.error.MaxMindDbError.TheVariants.{Memory, InvalidDatabase, Io, Decoding, ResourceLimit, InvalidNetwork, InvalidInput}
use Rattle.mmdb_decode.specs.Errors.{Fails}
use Rattle.mmdb_decode.specs.Reading.{Meaning}
use Rattle.mmdb_decode.specs.State.{begin}
use Rattle.mmdb_value.specs.AnyValue.{value_at}
use Rattle.mmdb_value.specs.Values.{value_tree}
use Rattle.mmdb_value.specs.declared.any_value.Value.{Value}
use Rattle.mmdb_reader.specs.Selecting.{answer_along, meets_other_type}
use Rattle.mmdb_reader.specs.declared.path.PathElement.{PathElement}
use Rattle.mmdb_query.specs.Had.{offset_at}
use Rattle.mmdb_query.specs.Outlines.{outline_at}

-- what was read, or nothing in place of no answer where a value of another type is met
abbrev pub unless_other : Bool → Option (Option Tree) → Option (Option Tree)
unless_other met (Some read) = Some read
unless_other true None = Some None
unless_other false None = None

-- What is found along a path in the record at an offset: a value, or nothing where the path leads nowhere, as it does where
-- a step of it meets a value of another type. There is no answer where the way or the value can't be read.
abbrev pub found_along : Meaning Tree → List PathElement → List ℕ → ℕ → Option (Option Tree)
found_along read path s offset =
    unless_other (meets_other_type path (begin s offset)) (answer_along path true read s offset)

-- a whole value, and one of which no more is read than a condition asks for
abbrev pub value_found : List PathElement → List ℕ → ℕ → Option (Option Tree)
value_found = found_along (value_at true)

abbrev pub outline_found : List PathElement → List ℕ → ℕ → Option (Option Tree)
outline_found = found_along outline_at

-- the same where there may be no record
abbrev pub reads_in : (List PathElement → List ℕ → ℕ → Option (Option Tree)) → List ℕ → Option ℕ → List PathElement → Option (Option Tree)
reads_in found s None path = Some None
reads_in found s (Some offset) path = found path s offset

-- what was read, or what is read next where nothing is there
abbrev pub or_next : Option (Option Tree) → Option (Option Tree) → Option (Option Tree)
or_next None next = None
or_next (Some None) next = next
or_next (Some (Some v)) next = Some (Some v)

-- What is read along a path by the data sections of the databases: what the first record has that has a value there, and no
-- answer where a record before that one can't be read.
abbrev pub first_of : (List PathElement → List ℕ → ℕ → Option (Option Tree)) → List (List ℕ) → List (Option ℕ) → List PathElement → Option (Option Tree)
first_of found [] offsets path = Some None
first_of found (s ∷ sections) [] path = Some None
first_of found (s ∷ sections) (offset ∷ offsets) path = or_next (reads_in found s offset path) (first_of found sections offsets path)

abbrev pub values_of : List (List ℕ) → List (Option ℕ) → List PathElement → Option (Option Tree)
values_of = first_of value_found

abbrev pub outlines_of : List (List ℕ) → List (Option ℕ) → List PathElement → Option (Option Tree)
outlines_of = first_of outline_found

-- What is read along a path in the record of the database at a place: nothing where it has none.
abbrev pub value_of : List (List ℕ) → List (Option ℕ) → ℕ → List PathElement → Option (Option Tree)
value_of sections offsets place path = reads_in value_found (get_or sections place []) (offset_at offsets place) path

-- What a reading gave is this answer. Out of memory is any answer.
abbrev pub IsReadAs : Option (Option Tree) → Result (Option Value) MaxMindDbError → Type 0
IsReadAs answer (Ok value) = answer ≡ Some (option_map value_tree value)
IsReadAs answer (Err e) = Fails false e answer

-- an error stands for nothing where a value of another type is met, unless out of memory
abbrev pub stands_for_none : MaxMindDbError → Bool → Bool
stands_for_none Memory met = false
stands_for_none (InvalidDatabase message offset) met = met
stands_for_none (Io e) met = met
stands_for_none (Decoding message offset path) met = met
stands_for_none (ResourceLimit message offset path) met = met
stands_for_none (InvalidNetwork e) met = met
stands_for_none (InvalidInput message) met = met
