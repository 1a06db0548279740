-- Steps of the loop that gives networks to a sink.
use Rattle.std.specs.Prelude.{◌≡◌, ℕ, List, [], length, Option, Some, None, Bool, true, false, Result, Ok, Err}
use Rattle.std.specs.Io.KnownBytes.{Appends}
use Rattle.mmdb_format.specs.Error.{MemoryApart}
use Rattle.mmdb_format.specs.declared.error.MaxMindDbError.{MaxMindDbError}
use Rattle.mmdb_format.specs.declared.error.MaxMindDbError.TheVariants.{Memory, InvalidDatabase, Io, Decoding, ResourceLimit, InvalidNetwork, InvalidInput}
use Rattle.mmdb_query.specs.Had.{Had}
use Rattle.mmdb_query.specs.Walks.{Item, Goes}
use Rattle.mmdb_query.specs.Walks.Item.{Found}
use Rattle.mmdb_query.specs.Ends.{Leaves, left_of, WritesNone}
use Rattle.mmdb_query.specs.Taking.{Asked, IsPicked, ArePicked, Runs, CantBePut}
use Rattle.mmdb_query.specs.declared.error.QueryError.{QueryError}

-- memory is out
abbrev pub is_memory : MaxMindDbError → Bool
is_memory Memory = true
is_memory (InvalidDatabase message offset) = false
is_memory (Io e) = false
is_memory (Decoding message offset path) = false
is_memory (ResourceLimit message offset path) = false
is_memory (InvalidNetwork e) = false
is_memory (InvalidInput message) = false

-- what was taken and written grew by what is put of an item
pub record TakesItem {X : Type 0} (a : Asked X) (item : Item) (fault : ℕ) (old new : X) (before after : Option (List ℕ)) : Type 0 where
  pub put : List Had
  pub text : List ℕ
  pub picked : IsPicked a item put fault
  pub ran : Runs a.puts put old text new
  pub written : Appends before after text

-- a network was put, if it is chosen; or it can't be, unless memory is out, and nothing was taken nor written
abbrev pub IsTried : {X : Type 0} → Asked X → Had → Option MaxMindDbError → X → X → Option (List ℕ) → Option (List ℕ) → Type 0
IsTried a had None old new before after = TakesItem a (Found had) 0 old new before after
IsTried a had (Some e) old new before after = MemoryApart e (CantBePut a had) × (new ≡ old) × Appends before after []

-- that was done of an item that can be read, or nothing was taken nor written
abbrev pub TakesKnown : {X : Type 0} → Asked X → Item → Bool → X → X → Option (List ℕ) → Option (List ℕ) → Type 0
TakesKnown a item true old new before after = TakesItem a item 0 old new before after
TakesKnown a item false old new before after = (new ≡ old) × Appends before after []

-- the same of what a walk hands out: by its data sections, where it is an answer; and else memory is not out
abbrev pub TakesStep : {A X : Type 0} → (List (List ℕ) → Asked X) → (A → List (List ℕ)) → (A → Had) → Result A MaxMindDbError → ℕ → X → X
    → Option (List ℕ) → Option (List ℕ) → Type 0
TakesStep of sections had (Ok answer) fault old new before after = TakesItem (of (sections answer)) (Found (had answer)) fault old new before after
TakesStep of sections had (Err e) fault old new before after = (is_memory e ≡ false) × (fault ≡ 1) × (new ≡ old) × Appends before after []

-- a network was put, as far as it is chosen and can be read; or it was not, and what was written of it
abbrev pub IsPut : {X : Type 0} → Asked X → Had → Result ℕ QueryError → X → X → Option (List ℕ) → Option (List ℕ) → Type 0
IsPut a had (Ok fault) old new before after = TakesItem a (Found had) fault old new before after
IsPut a had (Err e) old new before after = Leaves (left_of a had old) before after e

-- the same of what a walk hands out
abbrev pub StopsStep : {A X : Type 0} → (List (List ℕ) → Asked X) → (A → List (List ℕ)) → (A → Had) → Result A MaxMindDbError → X
    → Option (List ℕ) → Option (List ℕ) → QueryError → Type 0
StopsStep of sections had (Ok answer) old before after e = Leaves (left_of (of (sections answer)) (had answer) old) before after e
StopsStep of sections had (Err unread) old before after e = WritesNone before after e

abbrev pub PutsStep : {A X : Type 0} → (List (List ℕ) → Asked X) → (A → List (List ℕ)) → (A → Had) → Result A MaxMindDbError → Result ℕ QueryError → X → X
    → Option (List ℕ) → Option (List ℕ) → Type 0
PutsStep of sections had item (Ok fault) old new before after = TakesStep of sections had item fault old new before after
PutsStep of sections had item (Err e) old new before after = StopsStep of sections had item old before after e

-- what is kept fits all data sections that it fitted
abbrev pub FitsStill : {K : Type 0} → (List (List ℕ) → K → Type 0) → K → K → Type 0
FitsStill fits old new = (s : List (List ℕ)) → fits s old → fits s new

-- what is kept fits the data sections of an answer; and else those that it fitted
abbrev pub FitsOf : {A K : Type 0} → (A → List (List ℕ)) → (List (List ℕ) → K → Type 0) → Result A MaxMindDbError → K → K → Type 0
FitsOf sections fits (Ok answer) old new = fits (sections answer) new
FitsOf sections fits (Err e) old new = FitsStill fits old new

-- What was taken and written is what is put of the items that came, which are so many.
pub record UnderWay {W X : Type 0} (comes : W → List Item → Type 0) (a : Asked X) (first now : W) (old new : X) (before after : Option (List ℕ)) (faults count : ℕ) : Type 0 where
  pub done : List Item
  pub put : List Had
  pub text : List ℕ
  pub counted : length done ≡ count
  pub came : Goes comes first done now
  pub picked : ArePicked a done put faults
  pub ran : Runs a.puts put old text new
  pub written : Appends before after text
