-- What contracts of private functions and proofs name.
use Rattle.std.specs.Prelude.{◌≡◌, ◌≢◌, ℕ, List, option_map, option_and_then}
use Rattle.json.specs.Find.{get_member}
use Rattle.json.specs.Json.{Json, object, Members}
use Rattle.mmdb_addresses.specs.declared.readings.Reading.{Reading}
use Rattle.mmdb_objects.specs.Objects.{Holds, has_member, is_empty, text_along}
use Rattle.mmdb_objects.specs.declared.objects.ReadLine.{ReadLine}
use Rattle.mmdb_objects.specs.declared.objects.ReadLine.TheVariants.{NoObject, Object}
use Rattle.mmdb_objects.specs.declared.one_pass.Object.{Object as Found}
use Rattle.mmdb_objects.specs.declared.step.PathStep.{PathStep}

-- What a value is, from whose last brace on there are `behind` bytes.
abbrev pub ReadsValue : Reading → Json → ℕ → List PathStep → List ℕ → ReadLine → Type 0
ReadsValue reading j behind path name NoObject = (members : Members) → j ≢ object members
ReadsValue reading j behind path name (Object line) = (members : Members) × (j ≡ object members) × Holds reading path name members line × (line.behind ≡ behind)

-- What was found in an object: the text to which the path leads after a member of this name, whether there is no member,
-- and whether one has the other name.
pub record HoldsMembers (name : List ℕ) (path : List PathStep) (other : List ℕ) (members : Members) (found : Found) : Type 0 where
  pub text : option_map (λ s. s.now) found.text ≡ option_and_then (text_along path) (get_member name members)
  pub empty : found.is_empty ≡ is_empty members
  pub taken : found.is_taken ≡ has_member other members

-- the same, where the path has the first name too
pub record HoldsText (path : List PathStep) (other : List ℕ) (members : Members) (found : Found) : Type 0 where
  pub text : option_map (λ s. s.now) found.text ≡ text_along path (object members)
  pub empty : found.is_empty ≡ is_empty members
  pub taken : found.is_taken ≡ has_member other members
