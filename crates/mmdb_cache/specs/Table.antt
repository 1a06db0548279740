-- What a table keeps.
use Rattle.std.specs.Prelude.{◌≡◌, ◌⊎◌, List}
use Rattle.std.specs.List.{All, Contains}
use Rattle.mmdb_cache.specs.declared.table.Memo.{Memo}

-- what is kept at a place is this
abbrev pub IsKnown : {K V : Type 0} → Memo K V → Memo K V → Type 0
IsKnown known kept = kept ≡ known

-- what is kept at a place was kept before, or is what is put
abbrev pub IsKnownOr : {K V : Type 0} → Memo K V → List (Memo K V) → Memo K V → Type 0
IsKnownOr put before kept = Contains before kept ⊎ (kept ≡ put)

-- all that is kept was kept before, or is what is put
abbrev pub AreKnownOr : {K V : Type 0} → Memo K V → List (Memo K V) → List (Memo K V) → Type 0
AreKnownOr put before after = All (IsKnownOr put before) after

-- something is known by a key, and kept
abbrev pub HasKey : {K V : Type 0} → K → List (Memo K V) → Type 0
HasKey {V = V} key kept = (value : V) × Contains kept (record { key = key; value = value })
