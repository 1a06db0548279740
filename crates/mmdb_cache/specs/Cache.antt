-- What a cache keeps.
use Rattle.std.specs.Prelude.{◌≡◌, ◌⊎◌, ℕ, ◌+◌, List, Option, Some, None}
use Rattle.std.specs.List.{All, Contains, sum_by}
use Rattle.mmdb_cache.specs.declared.cache.CacheEntry.{CacheEntry}

-- nothing is kept at a place
abbrev pub IsNone : {V : Type 0} → Option (CacheEntry V) → Type 0
IsNone kept = kept ≡ None

-- what is kept at a place was kept before
abbrev pub IsOfBefore : {V : Type 0} → List (Option (CacheEntry V)) → Option (CacheEntry V) → Type 0
IsOfBefore before None = Unit {0}
IsOfBefore before (Some entry) = Contains before (Some entry)

-- all that is kept was kept before
abbrev pub AreOfBefore : {V : Type 0} → List (Option (CacheEntry V)) → List (Option (CacheEntry V)) → Type 0
AreOfBefore before after = All (IsOfBefore before) after

-- what is kept at a place was kept before, or is what is put
abbrev pub IsOfBeforeOr : {V : Type 0} → CacheEntry V → List (Option (CacheEntry V)) → Option (CacheEntry V) → Type 0
IsOfBeforeOr put before None = Unit {0}
IsOfBeforeOr put before (Some entry) = Contains before (Some entry) ⊎ (entry ≡ put)

-- all that is kept was kept before, or is what is put
abbrev pub AreOfBeforeOr : {V : Type 0} → CacheEntry V → List (Option (CacheEntry V)) → List (Option (CacheEntry V)) → Type 0
AreOfBeforeOr put before after = All (IsOfBeforeOr put before) after

-- the bytes of what is kept at a place
abbrev pub bytes_at : {V : Type 0} → Option (CacheEntry V) → ℕ
bytes_at None = 0
bytes_at (Some entry) = entry.bytes

-- all that is kept takes the bytes that are not left
pub record IsBounded {V : Type 0} (places : List (Option (CacheEntry V))) (left most : ℕ) : Type 0 where
  pub sum : left + sum_by bytes_at places ≡ most
