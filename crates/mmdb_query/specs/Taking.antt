-- What a sink takes: each item of a walk that is chosen, in order, and nothing else.
use Rattle.std.specs.Prelude.{◌≡◌, ◌⊎◌, ℕ, ◌+◌, List, [], ◌∷◌, ◌++◌, Option, Some, None, Bool, true, false}
use Rattle.std.specs.Io.KnownBytes.{Appends}
use Rattle.mmdb_format.specs.Error.{MemoryApart}
use Rattle.mmdb_format.specs.declared.error.MaxMindDbError.{MaxMindDbError}
use Rattle.mmdb_query.specs.Had.{Had}
use Rattle.mmdb_query.specs.Walks.{Item}
use Rattle.mmdb_query.specs.Walks.Item.{Found, Unread}
use Rattle.mmdb_query.specs.declared.error.QueryError.{QueryError}

-- What is asked of the records at offsets: whether they meet conditions, or that this can't be read; what a sink took before a
-- network, what it writes of it, and what it took then, or that what this needs can't be read; and what it may have written of a
-- network that it did not take, and why.
pub record Asked (X : Type 0) : Type 1 where
  pub says : List (Option ℕ) → Bool → Type 0
  pub unsaid : List (Option ℕ) → Type 0
  pub puts : Had → X → List ℕ → X → Type 0
  pub unput : List (Option ℕ) → Type 0
  pub leaves : Had → X → List ℕ → QueryError → Type 0

-- the same by conditions and the form of a sink, of these data sections
abbrev pub asks : {C F X : Type 0} → (C → List (List ℕ) → List (Option ℕ) → Bool → Type 0) → (C → List (List ℕ) → List (Option ℕ) → Type 0)
    → (F → List (List ℕ) → Had → X → List ℕ → X → Type 0) → (F → List (List ℕ) → List (Option ℕ) → Type 0)
    → (F → List (List ℕ) → Had → X → List ℕ → QueryError → Type 0) → C → F → List (List ℕ) → Asked X
asks says unsaid puts unput leaves conditions form s =
    record { says = says conditions s; unsaid = unsaid conditions s; puts = puts form s; unput = unput form s; leaves = leaves form s }

-- One network was put, and known output grew by what is written of it; or what it needs can't be read.
abbrev pub IsDone : {X : Type 0} → (X → List ℕ → X → Type 0) → Type 0 → Option MaxMindDbError → X → X → Option (List ℕ) → Option (List ℕ) → Type 0
IsDone puts unput None old new before after = (text : List ℕ) × puts old text new × Appends before after text
IsDone puts unput (Some e) old new before after = MemoryApart e unput × (new ≡ old) × Appends before after []

-- One network was put, and known output grew by what is written of it; or nothing was taken nor written.
abbrev pub IsDoneOrNot : {X : Type 0} → (X → List ℕ → X → Type 0) → Bool → X → X → Option (List ℕ) → Option (List ℕ) → Type 0
IsDoneOrNot puts true old new before after = (text : List ℕ) × puts old text new × Appends before after text
IsDoneOrNot puts false old new before after = (new ≡ old) × Appends before after []

-- it can't be read whether a network is chosen, or it is chosen and what it needs can't be read
abbrev pub CantBePut : {X : Type 0} → Asked X → Had → Type 0
CantBePut a had = a.unsaid had.offsets ⊎ (a.says had.offsets true × a.unput had.offsets)

-- a network is put where it is chosen, and not where it isn't
abbrev pub IsChosen : {X : Type 0} → Asked X → Had → List Had → Type 0
IsChosen a had put = (a.says had.offsets true × (put ≡ had ∷ [])) ⊎ (a.says had.offsets false × (put ≡ []))

-- What is put of an item: the network, where it is chosen, and else none; and what it adds to the count of those that can't be
-- read.
abbrev pub IsPicked : {X : Type 0} → Asked X → Item → List Had → ℕ → Type 0
IsPicked a (Found had) put fault = (IsChosen a had put × (fault ≡ 0)) ⊎ (CantBePut a had × (put ≡ []) × (fault ≡ 1))
IsPicked a Unread put fault = (put ≡ []) × (fault ≡ 1)

-- which networks are put of items, in order, and how many can't be read
abbrev pub ArePicked : {X : Type 0} → Asked X → List Item → List Had → ℕ → Type 0
ArePicked a [] put faults = (put ≡ []) × (faults ≡ 0)
ArePicked a (item ∷ items) put faults =
    (first rest : List Had) × (fault others : ℕ) × IsPicked a item first fault × ArePicked a items rest others
    × (put ≡ first ++ rest) × (faults ≡ fault + others)

-- One network after another is put, and this text is what is written of them.
abbrev pub Runs : {X : Type 0} → (Had → X → List ℕ → X → Type 0) → List Had → X → List ℕ → X → Type 0
Runs puts [] old text new = (new ≡ old) × (text ≡ [])
Runs puts (had ∷ others) old text new =
    (one : _) × (first rest : List ℕ) × puts had old first one × Runs puts others one rest new × (text ≡ first ++ rest)

-- Of the items that come exactly the chosen ones that can be read are put, in order; known output grew by exactly what is
-- written of them; and so many items can't be read.
pub record Takes {X : Type 0} (comes : List Item → Type 0) (a : Asked X) (old new : X) (before after : Option (List ℕ)) (unread : ℕ) : Type 0 where
  pub items : List Item
  pub put : List Had
  pub text : List ℕ
  pub come : comes items
  pub picked : ArePicked a items put unread
  pub ran : Runs a.puts put old text new
  pub written : Appends before after text
