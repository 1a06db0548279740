-- What is kept of pairs of records.
use Rattle.std.specs.Prelude.{◌≡◌, ◌<◌, ◌⊎◌, ℕ, List, Bool, true, false, Option, Some, None}
use Rattle.mmdb_cache.specs.declared.table.Memo.{Memo}
use Rattle.mmdb_cache.specs.Table.{HasKey}
use Rattle.mmdb_compare.specs.declared.pairs.Offsets.{Offsets}
use Rattle.mmdb_compare.specs.declared.pairs.KnownPairs.{KnownPairs}

-- the number by which an offset is kept, or that there is no record
abbrev pub IsKeptAs : Option ℕ → ℕ → Type 0
IsKeptAs None n = n ≡ 4294967295
IsKeptAs (Some offset) n = (n ≡ offset) × (n < 4294967295)

abbrev pub AreKeptAs : Option ℕ → Option ℕ → Offsets → Type 0
AreKeptAs old new offsets = IsKeptAs old offsets.old × IsKeptAs new offsets.new

-- a pair is kept in a table
abbrev pub IsIn : {V : Type 0} → List (Memo Offsets V) → Option Offsets → Type 0
IsIn kept None = ⊥
IsIn kept (Some offsets) = HasKey offsets kept

-- each pair that is kept was kept before, or is what is put
abbrev pub ArePairsOr : {V : Type 0} → Offsets → List (Memo Offsets V) → List (Memo Offsets V) → Type 0
ArePairsOr put before after = (offsets : Offsets) → HasKey offsets after → HasKey offsets before ⊎ (offsets ≡ put)

-- or is this one, if there is one
abbrev pub AreOrThis : {V : Type 0} → Option Offsets → List (Memo Offsets V) → List (Memo Offsets V) → Type 0
AreOrThis put before after = (offsets : Offsets) → HasKey offsets after → HasKey offsets before ⊎ (put ≡ Some offsets)

-- each pair that is kept is that of no records
abbrev pub AreOfNone : {V : Type 0} → List (Memo Offsets V) → Type 0
AreOfNone kept = (offsets : Offsets) → HasKey offsets kept → AreKeptAs None None offsets

-- of two records that are kept so it is kept whether they are shown the same
abbrev pub IsKeptSo : KnownPairs → Offsets → Bool → Type 0
IsKeptSo pairs offsets true = HasKey offsets pairs.same
IsKeptSo pairs offsets false = HasKey offsets pairs.different
