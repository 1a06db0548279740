-- Why a walk is not done to its end, and what is written then.
use Rattle.std.specs.Prelude.{◌≡◌, ◌⊎◌, ◌^◌, ◌-◌, ℕ, List, [], ◌∷◌, ◌++◌, length, Option, true}
use Rattle.std.specs.IoError.{error_kind, raw_os_error}
use Rattle.std.specs.Io.KnownBytes.{Appends}
use Rattle.std.specs.declared.io.Error.{Error}
use Rattle.mmdb_query.specs.Walks.{Item, Goes}
use Rattle.mmdb_query.specs.Walks.Item.{Found}
use Rattle.mmdb_query.specs.Had.{Had}
use Rattle.mmdb_query.specs.Taking.{Asked, ArePicked, Runs}
use Rattle.mmdb_query.specs.declared.error.QueryError.{QueryError}
use Rattle.mmdb_query.specs.declared.error.WriteError.{WriteError}
use Rattle.mmdb_query.specs.declared.error.QueryError.TheVariants.{Memory, Write, TooMany, OutOfOrder}

-- the kind of an output's error, and the system's number of it, if it has one
abbrev pub write_error : Error → WriteError
write_error e = record { kind = error_kind e; code = raw_os_error e }

-- the output can't be written, or memory is out
abbrev pub IsOfOutput : QueryError → Type 0
IsOfOutput Memory = Unit {0}
IsOfOutput (Write e) = Unit {0}
IsOfOutput TooMany = ⊥
IsOfOutput OutOfOrder = ⊥

-- the output can't be written, or memory is out, and then nothing was written
abbrev pub WritesNone : Option (List ℕ) → Option (List ℕ) → QueryError → Type 0
WritesNone before after Memory = Appends before after []
WritesNone before after (Write e) = Unit {0}
WritesNone before after TooMany = ⊥
WritesNone before after OutOfOrder = ⊥

-- the output can't be written; or a network was not taken, and known output grew by a text of which this holds
abbrev pub Leaves : (List ℕ → QueryError → Type 0) → Option (List ℕ) → Option (List ℕ) → QueryError → Type 0
Leaves part before after Memory = (text : List ℕ) × part text Memory × Appends before after text
Leaves part before after (Write e) = Unit {0}
Leaves part before after TooMany = ⊥
Leaves part before after OutOfOrder = (text : List ℕ) × part text OutOfOrder × Appends before after text

-- of a network that is not taken nothing is written, and only memory is out then
abbrev pub leaves_none : {F X : Type 0} → F → List (List ℕ) → Had → X → List ℕ → QueryError → Type 0
leaves_none form s had old text e = (e ≡ Memory) × (text ≡ [])

-- what was written of a network that is not put: nothing, where memory is out, or what a sink left of a chosen one
abbrev pub left_of : {X : Type 0} → Asked X → Had → X → List ℕ → QueryError → Type 0
left_of a had old text e = ((e ≡ Memory) × (text ≡ [])) ⊎ (a.says had.offsets true × a.leaves had old text e)

-- Of some items that come first the chosen ones that can be read were put, and known output grew by exactly what is written of
-- them.
pub record Begins {W X : Type 0} (comes : W → List Item → Type 0) (a : Asked X) (walk : W) (old : X) (before after : Option (List ℕ)) : Type 0 where
  pub later : W
  pub items : List Item
  pub put : List Had
  pub text : List ℕ
  pub new : X
  pub faults : ℕ
  pub first : Goes comes walk items later
  pub picked : ArePicked a items put faults
  pub ran : Runs a.puts put old text new
  pub written : Appends before after text

-- more items come than can be counted
abbrev pub TooManyCome : {W : Type 0} → (W → List Item → Type 0) → W → Type 0
TooManyCome comes walk = (items : List Item) × (later : _) × Goes comes walk items later × (length items ≡ 2 ^ 64 - 1)

-- what was written of the network that comes next and is not put, or nothing, where memory is out
abbrev pub IsLeft : {W X : Type 0} → (W → List Item → Type 0) → Asked X → W → X → List ℕ → QueryError → Type 0
IsLeft comes a walk old text e = ((e ≡ Memory) × (text ≡ []))
    ⊎ ((had : Had) × (later : _) × Goes comes walk (Found had ∷ []) later × a.says had.offsets true × a.leaves had old text e)

-- The same, but of the next network may be written what a sink leaves of one that it does not take.
pub record BreaksOff {W X : Type 0} (comes : W → List Item → Type 0) (a : Asked X) (walk : W) (old : X) (before after : Option (List ℕ)) (e : QueryError) : Type 0 where
  pub later : W
  pub items : List Item
  pub put : List Had
  pub text : List ℕ
  pub part : List ℕ
  pub new : X
  pub faults : ℕ
  pub first : Goes comes walk items later
  pub picked : ArePicked a items put faults
  pub ran : Runs a.puts put old text new
  pub left : IsLeft comes a later new part e
  pub written : Appends before after (text ++ part)

-- why it is not done, by any sink
abbrev pub StopsBy : {W X : Type 0} → (W → List Item → Type 0) → Asked X → W → X → Option (List ℕ) → Option (List ℕ) → QueryError → Type 0
StopsBy comes a walk old before after Memory = BreaksOff comes a walk old before after Memory
StopsBy comes a walk old before after (Write e) = Unit {0}
StopsBy comes a walk old before after TooMany = TooManyCome comes walk
StopsBy comes a walk old before after OutOfOrder = BreaksOff comes a walk old before after OutOfOrder

-- the same by a sink that leaves nothing of a network that it does not take: where memory is out, what was written is what is
-- written of some first items
abbrev pub EndsBy : {W X : Type 0} → (W → List Item → Type 0) → Asked X → W → X → Option (List ℕ) → Option (List ℕ) → QueryError → Type 0
EndsBy comes a walk old before after Memory = Begins comes a walk old before after
EndsBy comes a walk old before after (Write e) = Unit {0}
EndsBy comes a walk old before after TooMany = TooManyCome comes walk
EndsBy comes a walk old before after OutOfOrder = ⊥
