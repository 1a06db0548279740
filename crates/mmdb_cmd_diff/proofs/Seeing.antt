-- What is kept of pairs that are seen to be the same.
use Rattle.std.proofs.Common.{◌≡◌, ◌⊎◌, inl, inr, Some, subst, sym}
use Rattle.mmdb_compare.specs.declared.pairs.Offsets.{Offsets}
use Rattle.mmdb_compare.specs.declared.pairs.KnownPairs.{KnownPairs}
use Rattle.mmdb_compare.specs.Kept.{IsIn, ArePairsOr}
use Rattle.mmdb_compare.specs.Same.{Sections}
use Rattle.mmdb_cmd_diff.specs.Seen.{HaveOneValue, AreSeenSame, AreKeptAsSeen}

one_seen : (s : Sections) (before : KnownPairs) (put offsets : Offsets) → HaveOneValue s put → IsIn before.same (Some offsets) ⊎ (offsets ≡ put) → AreSeenSame s before offsets
one_seen s before put offsets have (inl there) = inl there
one_seen s before put offsets have (inr is) = inr (subst (HaveOneValue s) (sym is) have)

pub seen_kept : (s : Sections) (before after : KnownPairs) (put : Offsets) → HaveOneValue s put → ArePairsOr put before.same after.same → AreKeptAsSeen s before after
seen_kept s before after put have kept offsets there = one_seen s before put offsets have (kept offsets there)
