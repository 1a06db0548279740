-- The JSON of what a lookup found: of the part of its record that a path names.
use Rattle.std.specs.Prelude.{◌≡◌, ◌⊎◌, ℕ, List, [], ◌∷◌, ◌++◌, Option, Some, None, Bool, true, false}
use Rattle.json.specs.Token.{Token}
use Rattle.json.specs.Token as token
use Rattle.mmdb_format.specs.Error.{MemoryApart}
use Rattle.mmdb_format.specs.declared.error.MaxMindDbError.{MaxMindDbError}
use Rattle.mmdb_format.specs.Unfolding.{Tree, Unfolds}
use Rattle.mmdb_decode.specs.Reading.{Reading}
use Rattle.mmdb_value.specs.AnyValue.{value_at}
use Rattle.mmdb_reader.specs.Decoding.{FailsToDecode}
use Rattle.mmdb_reader.specs.Parts.{part_of}
use Rattle.mmdb_decode.specs.State.{begin}
use Rattle.mmdb_reader.specs.Selecting.{selected, answer_along, LeadsNowhere, meets_other_type}
use Rattle.mmdb_reader.specs.declared.path.PathElement.{PathElement}
use Rattle.mmdb_json.specs.Shown.{WritesShown}
use Rattle.mmdb_json.specs.Texts.{IsCompact}

-- what was read, or nothing in place of no answer where a value of another type is met
abbrev pub unless_other : {A : Type 0} → Bool → Option (Option A) → Option (Option A)
unless_other met (Some read) = Some read
unless_other true None = Some None
unless_other false None = None

-- What is found along a path in the record at an offset: a value, or nothing where the path leads nowhere, as it does where
-- a step of it meets a value of another type. There is no answer where the way or the value can't be read.
abbrev pub value_found : List PathElement → List ℕ → ℕ → Option (Option Tree)
value_found path s offset =
    unless_other (meets_other_type path (begin s offset)) (answer_along path true (value_at true) s offset)

-- nothing is found along a path: there is no record, the path leads nowhere in it, or it meets a value of another type
abbrev pub NothingAlong : List PathElement → List ℕ → Option ℕ → Type 0
NothingAlong path s None = Unit {0}
NothingAlong path s (Some offset) = LeadsNowhere path s offset ⊎ (meets_other_type path (begin s offset) ≡ true)

-- The path leads from the offset to a place, at which this tree unfolds; it is the part that the path names of
-- whatever tree unfolds at the offset. With no step the place is the offset.
pub record StandsAlong (path : List PathElement) (s : List ℕ) (offset : ℕ) (part : Tree) : Type 0 where
  pub way : Reading Bool
  pub leads : selected path s offset 0 ≡ Some way
  pub there : way.value ≡ true
  pub end : ℕ
  pub unfolds : Unfolds s way.next part end
  pub is_part : (u : Tree) (q : ℕ) → Unfolds s offset u q → part_of path u ≡ Some part

-- a tree that is found along the path, and its text
abbrev pub IsJsonAlong : List PathElement → List ℕ → Option ℕ → List ℕ → Type 0
IsJsonAlong path s None text = ⊥
IsJsonAlong path s (Some offset) text = (part : Tree) × StandsAlong path s offset part × IsCompact part text

-- tokens grow by those of JSON that shows such a tree, or by `null` where there is nothing along the path
abbrev pub WritesAlong : List PathElement → List ℕ → Option ℕ → Bool → List Token → List Token → Type 0
WritesAlong path s offset false old new = NothingAlong path s offset × (new ≡ old ++ token.null ∷ [])
WritesAlong path s None true old new = ⊥
WritesAlong path s (Some offset) true old new = (part : Tree) × StandsAlong path s offset part × WritesShown part old new

-- unless memory ran out, there is an offset, and nothing can be read along the path from it
abbrev pub FailsAlong : List PathElement → List ℕ → Option ℕ → MaxMindDbError → Type 0
FailsAlong path s offset e =
    MemoryApart e (FailsToDecode false e (value_found path s) offset)
