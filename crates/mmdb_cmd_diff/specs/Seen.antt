-- What is seen of two records before they are looked up.
use Rattle.std.specs.Prelude.{ℕ, Option, Some, None, ◌⊎◌}
use Rattle.mmdb_compare.specs.declared.pairs.Offsets.{Offsets}
use Rattle.mmdb_compare.specs.declared.pairs.KnownPairs.{KnownPairs}
use Rattle.mmdb_compare.specs.Kept.{AreKeptAs, IsIn}
use Rattle.mmdb_compare.specs.Same.{Sections, HaveSameValue}

-- there are two records, and they have one value
abbrev pub HaveOneValueAt : Sections → Option ℕ → Option ℕ → Type 0
HaveOneValueAt s None new = ⊥
HaveOneValueAt s (Some old) None = ⊥
HaveOneValueAt s (Some old) (Some new) = HaveSameValue s old new

-- so of the records of a pair
abbrev pub HaveOneValue : Sections → Offsets → Type 0
HaveOneValue s offsets = (old new : ℕ) × AreKeptAs (Some old) (Some new) offsets × HaveSameValue s old new

-- it was kept of a pair that both are shown the same, or they have one value
abbrev pub AreSeenSame : Sections → KnownPairs → Offsets → Type 0
AreSeenSame s kept offsets = IsIn kept.same (Some offsets) ⊎ HaveOneValue s offsets

-- each pair that is kept so was kept before, or has one value
abbrev pub AreKeptAsSeen : Sections → KnownPairs → KnownPairs → Type 0
AreKeptAsSeen s before after = (offsets : Offsets) → IsIn after.same (Some offsets) → AreSeenSame s before offsets
