-- What a read says: exactly what a meaning gives, or that nothing readable is there.
use Rattle.std.specs.Prelude.{◌≡◌, ℕ, List, option_map, Option, Some, None, Bool, true, false, Result, Ok, Err}
use Rattle.mmdb_decode.specs.State.{State, GivenUp, NoneBack, decoded}
use Rattle.mmdb_decode.specs.Reading.{Meaning}
use Rattle.mmdb_format.specs.declared.error.MaxMindDbError.{MaxMindDbError}
use Rattle.mmdb_format.specs.declared.error.MaxMindDbError.TheVariants.{Memory}
use Rattle.mmdb_decode.specs.declared.failed.Failed.{Failed}
use Rattle.mmdb_decode.specs.declared.failed.Failed.TheVariants.{OutOfMemory, Unreadable}

-- what every success keeps: the section, the levels and the charges, of which none is given back
pub record Kept (old new : State) : Type 0 where
  pub section : new.section ≡ old.section
  pub levels : new.levels ≡ old.levels
  pub charges : NoneBack old.budget new.budget

-- nothing readable is there; or memory ran out, unless a success takes none (the flag)
abbrev pub Fails : {A : Type 0} → Bool → MaxMindDbError → Option A → Type 0
Fails true e read = read ≡ None
Fails false Memory read = Unit {0}
Fails false e read = read ≡ None

-- the same of a reading that keeps aside why
abbrev pub Declines : {A : Type 0} → Bool → Failed → Option A → Type 0
Declines true r read = read ≡ None
Declines false OutOfMemory read = Unit {0}
Declines false Unreadable read = read ≡ None

-- what one step did that takes no memory: it gave what the meaning says, or there is nothing to give
abbrev pub Takes : {X A E : Type 0} → (X → A) → Option (A × State) → State → State → Result X E → Type 0
Takes view read old new (Ok x) = read ≡ Some (view x, new)
Takes view read old new (Err e) = GivenUp old new × (read ≡ None)

-- What a typed read did: exactly what the meaning says, or an error. view goes from what is returned
-- to the datum.
abbrev pub Reads : {X A : Type 0} → (X → A) → Bool → Option (A × State) → State → State → Result X MaxMindDbError → Type 0
Reads view free read old new (Ok x) = read ≡ Some (view x, new)
Reads view free read old new (Err e) = GivenUp old new × Fails free e read

-- the same of a read that keeps aside why it fails
abbrev pub Tries : {X A : Type 0} → (X → A) → Bool → Option (A × State) → State → State → Result X Failed → Type 0
Tries view free read old new (Ok x) = read ≡ Some (view x, new)
Tries view free read old new (Err e) = GivenUp old new × Declines free e read

-- A meaning gives this value where a decoder is, and the decoder after it. The flag says whether the reading begins a
-- budget where none has begun.
abbrev pub IsRead : {A : Type 0} → Bool → Meaning A → State → A → State → Type 0
IsRead starts read old v new = decoded starts read old ≡ Some (v, new)

-- no value can be read where a decoder is; or memory ran out, unless a success takes none
abbrev pub FailsToRead : {A : Type 0} → Bool → MaxMindDbError → Bool → Meaning A → State → Type 0
FailsToRead free e starts read old = Fails free e (decoded starts read old)

-- One step took the value where a decoder is, or none can be read there. It begins no budget.
abbrev pub TakesValue : {X A E : Type 0} → (X → A) → Meaning A → State → State → Result X E → Type 0
TakesValue view read old new r = Takes view (decoded false read old) old new r

-- the same of a step that begins a budget where none has begun
abbrev pub TakesUnderBudget : {X A E : Type 0} → (X → A) → Meaning A → State → State →
    Result X E → Type 0
TakesUnderBudget view read old new r = Takes view (decoded true read old) old new r

-- A typed read gave the value where a decoder is, or an error. It begins no budget.
abbrev pub ReadsValue : {X A : Type 0} → (X → A) → Bool → Meaning A → State → State →
    Result X MaxMindDbError → Type 0
ReadsValue view free read old new r = Reads view free (decoded false read old) old new r

-- the same of a read that keeps aside why it fails
abbrev pub TriesValue : {X A : Type 0} → (X → A) → Bool → Meaning A → State → State → Result X Failed → Type 0
TriesValue view free read old new r = Tries view free (decoded false read old) old new r

-- the same of a read that begins a budget where none has begun
abbrev pub ReadsUnderBudget : {X A : Type 0} → (X → A) → Bool → Meaning A → State → State →
    Result X MaxMindDbError → Type 0
ReadsUnderBudget view free read old new r = Reads view free (decoded true read old) old new r

-- What is read at an offset of a section from the start: the value that is there below no level, if it is within the
-- limits.
unfoldable pub answer : {A : Type 0} → Bool → Meaning A → List ℕ → ℕ → Option A
answer starts read s p = option_map (λ x. x.0) (decoded starts read (record { section = s; offset = p; levels = 0; budget = None }))
