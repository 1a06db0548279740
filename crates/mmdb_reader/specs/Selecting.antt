-- Where a path leads inside a record, and what is read there.
use Rattle.std.specs.Prelude.{◌≡◌, ℕ, ◌-◌, ◌^◌, ◌==◌, ℤ, pos, negsuc, List, [], ◌∷◌, Option, Some, None, Bool, true, false, ◌||◌, if◌then◌else◌, option_map}
use Rattle.mmdb_decode.specs.Reading.{Meaning, given, followed, mapped}
use Rattle.mmdb_decode.specs.Errors.{answer}
use Rattle.mmdb_decode.specs.State.{State, begin, decoded}
use Rattle.mmdb_decode.specs.Selecting.{at_key, at_element, from_front, from_end, is_other_than_map, is_other_than_array}
use Rattle.mmdb_reader.specs.declared.path.PathElement.{PathElement}
use Rattle.mmdb_reader.specs.declared.path.PathElement.TheVariants.{Key, Index, IndexFromEnd}

-- The step that an integer means: -1 is the last element, and the least `isize` means the largest
-- distance from the end.
abbrev pub element_at : ℤ → PathElement
element_at (pos n) = Index n
element_at (negsuc n) = if n == 2 ^ 63 - 1 then IndexFromEnd (2 ^ 64 - 1) else IndexFromEnd n

-- where one step leads: a key into a map, an index into an array, each directly or through one pointer
abbrev pub at_step : PathElement → Meaning Bool
at_step (Key key) = at_key key.now
at_step (Index i) = at_element (from_front i)
at_step (IndexFromEnd i) = at_element (from_end i)

-- Where a path leads: to a place, where the reading ends (true); nowhere, as no key is equal or an index
-- is out of range (false); or there is no answer, since another value is on the way or its bytes are none. Its costs
-- are those of all containers, keys and skipped values on the way.
abbrev pub selected : List PathElement → Meaning Bool
selected [] = given true
selected (e ∷ path) = followed (at_step e) (λ there. if there then selected path else given false)

-- what is read at the end of a path, and nothing where it leads nowhere
abbrev pub read_there : {A : Type 0} → Meaning A → Bool → Meaning (Option A)
read_there read true = mapped Some read
read_there read false = given None

abbrev pub read_along : {A : Type 0} → List PathElement → Meaning A → Meaning (Option A)
read_along path read = followed (selected path) (read_there read)

-- What is read along a path from the start. A path of at least one step begins the budget, which is that
-- of the value read too; with no step it is the plain reading.
abbrev pub answer_along : {A : Type 0} → List PathElement → Bool → Meaning A → List ℕ → ℕ → Option (Option A)
answer_along [] starts read s p = option_map Some (answer starts read s p)
answer_along (e ∷ path) starts read s p = answer true (read_along (e ∷ path) read) s p

-- nothing without data, and else what is read along the path from the offset
abbrev pub SelectsTo : {T A : Type 0} → (T → A) → (ℕ → Option (Option A)) → Option ℕ → Option T → Type 0
SelectsTo datum read None value = value ≡ None
SelectsTo datum read (Some offset) value = read offset ≡ Some (option_map datum value)

-- the decoder at the end of a path from the start
abbrev pub Reaches : List PathElement → List ℕ → ℕ → State → Type 0
Reaches [] s p σ = σ ≡ begin s p
Reaches (e ∷ path) s p σ = decoded true (selected (e ∷ path)) (begin s p) ≡ Some (true, σ)

-- a path that leads nowhere from a place, and a path along which a lookup's result has nothing: it has no
-- data, or the path leads nowhere in them
abbrev pub LeadsNowhere : List PathElement → List ℕ → ℕ → Type 0
LeadsNowhere path s p = (σ : State) × (decoded true (selected path) (begin s p) ≡ Some (false, σ))

abbrev pub HasNone : List PathElement → List ℕ → Option ℕ → Type 0
HasNone path s None = Unit {0}
HasNone path s (Some offset) = LeadsNowhere path s offset

-- whether a step meets a value of another type: a key no map, an index no array
abbrev pub meets_at_step : PathElement → State → Bool
meets_at_step (Key key) = is_other_than_map
meets_at_step (Index i) = is_other_than_array
meets_at_step (IndexFromEnd i) = is_other_than_array

-- what holds of the place to which a step leads, and nothing where it leads nowhere
abbrev pub holds_there : Option (Bool × State) → (State → Bool) → Bool
holds_there None holds = false
holds_there (Some (false, σ)) holds = false
holds_there (Some (true, σ)) holds = holds σ

-- whether a step of a path meets a value of another type, at a place to which the steps before it lead
abbrev pub meets_other_type : List PathElement → State → Bool
meets_other_type [] σ = false
meets_other_type (e ∷ path) σ = meets_at_step e σ || holds_there (decoded true (at_step e) σ) (meets_other_type path)

-- the same from the offset of a lookup's result, if it has one
abbrev pub meets_other_from : List PathElement → List ℕ → Option ℕ → Bool
meets_other_from path s None = false
meets_other_from path s (Some offset) = meets_other_type path (begin s offset)

-- steps of one kind with the same index or spelling
abbrev pub IsSameStep : PathElement → PathElement → Type 0
IsSameStep (Key a) (Key b) = a.now ≡ b.now
IsSameStep (Index i) (Index j) = i ≡ j
IsSameStep (IndexFromEnd i) (IndexFromEnd j) = i ≡ j
IsSameStep _ _ = ⊥
