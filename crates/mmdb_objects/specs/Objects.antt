-- Lines that are objects of JSON, and the address that one has.
use Rattle.std.specs.Prelude.{◌≡◌, ◌<◌, ◌≤◌, ◌-◌, ℕ, List, [], ◌∷◌, Option, Some, option_and_then, Bool, true, false, is_some, length, slice_index}
use Rattle.std.specs.Str.{IsUtf8}
use Rattle.std.specs.declared.net.ip_addr.IpAddr.{IpAddr}
use Rattle.json.specs.Find.{get, get_member, at, as_str}
use Rattle.json.specs.Json.{Json, object, Members, no_members, member, document}
use Rattle.json.specs.Word.{is_space}
use Rattle.mmdb_addresses.specs.Addresses.{IsAddressIn, ReadsAddress}
use Rattle.mmdb_addresses.specs.declared.readings.Reading.{Reading}
use Rattle.mmdb_objects.specs.declared.objects.Line.{Line}
use Rattle.mmdb_objects.specs.declared.objects.ReadLine.{ReadLine}
use Rattle.mmdb_objects.specs.declared.objects.ReadLine.TheVariants.{NoObject, Object}
use Rattle.mmdb_objects.specs.declared.step.PathStep.{PathStep}
use Rattle.mmdb_objects.specs.declared.step.PathStep.TheVariants.{Key, Index}

-- one step into a value: by a key, or by an index from the front
abbrev pub step_in : PathStep → Json → Option Json
step_in (Key name) j = get name.now j
step_in (Index n) j = at n j

-- the text at the end of a path
abbrev pub text_along : List PathStep → Json → Option (List ℕ)
text_along [] j = as_str j
text_along (step ∷ path) j = option_and_then (text_along path) (step_in step j)

-- A text ends with a brace, after which there is only white space: `behind` bytes from the brace on.
pub record EndsWithBrace (text : List ℕ) (behind : ℕ) : Type 0 where
  pub some : 0 < behind
  pub within : behind ≤ length text
  pub brace : slice_index text (length text - behind) ≡ 125
  pub spaces : (i : ℕ) → length text - behind < i → i < length text → is_space (slice_index text i) ≡ true

-- A line, of which such a text is seen, is this object, and there are `behind` bytes from its last brace on.
pub record IsObject (text : List ℕ) (goes_on : Bool) (members : Members) (behind : ℕ) : Type 0 where
  pub whole : goes_on ≡ false
  pub utf8 : IsUtf8 text
  pub value : document text ≡ Some (object members)
  pub ends : EndsWithBrace text behind

-- In the object a path leads to a text in which this address is.
abbrev pub LeadsToAddress : Reading → List PathStep → Members → IpAddr → Type 0
LeadsToAddress reading path members address = (text : List ℕ) × (text_along path (object members) ≡ Some text) × IsAddressIn reading text address

abbrev pub is_empty : Members → Bool
is_empty no_members = true
is_empty (member _ _ _) = false

-- whether a member has this name
abbrev pub has_member : List ℕ → Members → Bool
has_member name members = is_some (get_member name members)

-- What a line has that is an object: the address in the text to which the path leads, or none; whether it has no member;
-- and whether it has one of this name.
pub record Holds (reading : Reading) (path : List PathStep) (name : List ℕ) (members : Members) (line : Line) : Type 0 where
  pub address : ReadsAddress reading (text_along path (object members)) line.address
  pub empty : line.is_empty ≡ is_empty members
  pub taken : line.is_taken ≡ has_member name members

-- What a line is: an object with what it holds, or no object.
abbrev pub ReadsLine : Reading → List ℕ → Bool → List PathStep → List ℕ → ReadLine → Type 0
ReadsLine reading bytes goes_on path name NoObject = (members : Members) (behind : ℕ) → ¬ IsObject bytes goes_on members behind
ReadsLine reading bytes goes_on path name (Object line) =
    (members : Members) × IsObject bytes goes_on members line.behind × Holds reading path name members line
