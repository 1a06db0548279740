-- Where a path leads, in the words of the format: which keys, values and elements are on the way, and what it costs.
-- Nothing is said of what is at the offset that is reached: it may be no value.
use Rattle.std.specs.Prelude.{◌≡◌, ◌↔◌, ℕ, zero, suc, ◌+◌, ◌*◌, ◌<◌, ◌≤◌, List, [], ◌∷◌, length, Option, Some, None, Bool, true, if◌then◌else◌}
use Rattle.std.specs.Borrow.{Bor}
use Rattle.mmdb_format.specs.Contents.{text}
use Rattle.mmdb_decode.specs.declared.direct.Entered.{Entered}
use Rattle.mmdb_decode.specs.Errors.{answer}
use Rattle.mmdb_decode.specs.Reading.{Reading, Meaning}
use Rattle.mmdb_decode.specs.ScalarReads.{ScalarStands}
use Rattle.mmdb_decode.specs.Skipping.{most_nested, Skips, AllSkip}
use Rattle.mmdb_decode.specs.State.{most_values, most_bytes}
use Rattle.mmdb_record.specs.TypedReads.{ContainerStands}
use Rattle.mmdb_reader.specs.Selecting.{selected, read_along}
use Rattle.mmdb_reader.specs.declared.path.PathElement.{PathElement}
use Rattle.mmdb_reader.specs.declared.path.PathElement.TheVariants.{Key, Index, IndexFromEnd}

-- a key is at p and ends before q: a text of these bytes, directly or through one pointer, on no level
abbrev pub KeyStands : List ℕ → ℕ → List ℕ → ℕ → Type 0
KeyStands s p key q = ScalarStands s p 0 (text key) q

-- One value is at p and ends before q, and its containers, which nest at most 128 deep, have c parts. It is passed: its
-- pointers are not followed.
abbrev pub IsPassed : List ℕ → ℕ → ℕ → ℕ → Type 0
IsPassed s p c q = (nested : ℕ) × Skips s p nested c q × (nested ≤ most_nested)

-- the same of n values, one after the other
abbrev pub ArePassed : List ℕ → ℕ → ℕ → ℕ → ℕ → Type 0
ArePassed s p n c q = (nested : ℕ) × AllSkip s p n nested c q × (nested ≤ most_nested)

-- Of n pairs from p on the first with the key has its value at an offset; or none of them has it. The values
-- before it have c parts, and the keys up to it, itself too, b bytes.
pub data FirstPair (s : List ℕ) (key : List ℕ) : ℕ → ℕ → Option ℕ → ℕ → ℕ → Type 0 where
  no_pair_has_it : {p : ℕ} → FirstPair s key p zero None 0 0
  this_pair_has_it : {p q n : ℕ} → KeyStands s p key q → FirstPair s key p (suc n) (Some q) 0 (length key)
  a_later_pair : {p q r n m c b : ℕ} {other : List ℕ} {to : Option ℕ} → KeyStands s p other q → (other ≡ key → ⊥) → IsPassed s q m r → FirstPair s key r n to c b → FirstPair s key p (suc n) to (m + c) (length other + b)

-- One step of a path from p, below d levels: from the map that is there to the value of the first pair with the key, or
-- from the array to the element with the index, counted from its front or its end; or to nothing, where there is none.
-- It costs c values, which are all parts of the map or array and those of what is passed, and b bytes of keys.
pub data StepLeads (s : List ℕ) (p d : ℕ) : PathElement → Option ℕ → ℕ → ℕ → Type 0 where
  to_value : {key : Bor (List ℕ)} {map : Entered} {to : Option ℕ} {c b : ℕ} → ContainerStands 7 s p d map → FirstPair s key.now map.body map.count to c b → StepLeads s p d (Key key) to (2 * map.count + c) b
  to_element : {i q c : ℕ} {array : Entered} → ContainerStands 11 s p d array → i < array.count → ArePassed s array.body i c q → StepLeads s p d (Index i) (Some q) (array.count + c) 0
  past_elements : {i : ℕ} {array : Entered} → ContainerStands 11 s p d array → array.count ≤ i → StepLeads s p d (Index i) None array.count 0
  to_element_from_end : {i n q c : ℕ} {array : Entered} → ContainerStands 11 s p d array → n + suc i ≡ array.count → ArePassed s array.body n c q → StepLeads s p d (IndexFromEnd i) (Some q) (array.count + c) 0
  before_elements : {i : ℕ} {array : Entered} → ContainerStands 11 s p d array → array.count ≤ i → StepLeads s p d (IndexFromEnd i) None array.count 0

-- A path from p leads to an offset, step by step, each below the same levels; or nowhere, where one of its steps
-- leads to nothing. The costs of the steps add up.
pub data PathLeads (s : List ℕ) (d : ℕ) : List PathElement → ℕ → Option ℕ → ℕ → ℕ → Type 0 where
  is_there : {p : ℕ} → PathLeads s d [] p (Some p) 0 0
  goes_on : {p q c b m n : ℕ} {step : PathElement} {path : List PathElement} {to : Option ℕ} → StepLeads s p d step (Some q) c b → PathLeads s d path q to m n → PathLeads s d (step ∷ path) p to (c + m) (b + n)
  leads_nowhere : {p c b : ℕ} {step : PathElement} {path : List PathElement} → StepLeads s p d step None c b → PathLeads s d (step ∷ path) p None c b

-- the offset at which the reading of a way ends, if it is there
abbrev pub led_to : Reading Bool → Option ℕ
led_to r = if r.value then Some r.next else None

-- the function and the relation say the same, with the same costs
abbrev pub SelectingIsLeading : Type 0
SelectingIsLeading =
    (path : List PathElement) (s : List ℕ) (p d : ℕ) (to : Option ℕ) (c b : ℕ) →
    ((r : Reading Bool) × (selected path s p d ≡ Some r) × (led_to r ≡ to) × (r.values ≡ c) × (r.bytes ≡ b)) ↔ PathLeads s d path p to c b

-- A path leads to one offset, or nowhere, at one cost.
abbrev pub OneWayLeads : Type 0
OneWayLeads =
    (path : List PathElement) (s : List ℕ) (p d : ℕ) (to too : Option ℕ) (c b m n : ℕ) →
    PathLeads s d path p to c b → PathLeads s d path p too m n → (to ≡ too) × (c ≡ m) × (b ≡ n)

-- What is read along a path, the first value being one more: nothing, where it leads nowhere, or what is read
-- at the offset, within the limits of a whole reading.
pub data ReadsAlong {A : Type 0} (read : Meaning A) (path : List PathElement) (s : List ℕ) (p : ℕ) : Option A → Type 0 where
  reads_nothing : {c b : ℕ} → PathLeads s 0 path p None c b → 1 + c ≤ most_values → b ≤ most_bytes → ReadsAlong read path s p None
  reads_there : {q c b : ℕ} {r : Reading A} → PathLeads s 0 path p (Some q) c b → read s q 0 ≡ Some r → 1 + (c + r.values) ≤ most_values → b + r.bytes ≤ most_bytes → ReadsAlong read path s p (Some r.value)

abbrev pub AnswersAreReadAlong : {A : Type 0} → Meaning A → Type 0
AnswersAreReadAlong {A = A} read =
    (path : List PathElement) (s : List ℕ) (p : ℕ) (v : Option A) →
    (answer true (read_along path read) s p ≡ Some v) ↔ ReadsAlong read path s p v
