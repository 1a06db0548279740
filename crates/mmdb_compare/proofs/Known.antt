-- What is kept of maps.
use Rattle.std.proofs.Common.{◌≡◌, ◌≤◌, ◌+◌, ℕ, List, inl, inr, refl, sym, subst, arith}
use Rattle.std.specs.List.{All}
use Rattle.std.proofs.lemmas.List.Elements.{All-contains}
use Rattle.mmdb_format.specs.Unfolding.{no_pairs, no_pairs_left}
use Rattle.mmdb_cache.specs.declared.table.Memo.{Memo}
use Rattle.mmdb_cache.specs.Table.{IsKnown, IsKnownOr, AreKnownOr}
use Rattle.mmdb_compare.specs.declared.equality.KnownMap.{KnownMap}
use Rattle.mmdb_compare.specs.declared.pairs.Offsets.{Offsets}
use Rattle.mmdb_compare.specs.declared.place.PairPosition.{PairPosition}
use Rattle.mmdb_compare.specs.Same.{Sections}
use Rattle.mmdb_compare.specs.SideBySide.{ArePairs, AreSamePairs, AreSamePairsUpTo, IsKnownMap, AreKnownMaps, Measure}
use Rattle.mmdb_compare.proofs.Same.{pairs_begin, pairs_end}

-- no pairs are the same in all sections
no_map : (s : Sections) (known : Memo Offsets KnownMap) → known.value.pairs ≡ 0 → IsKnownMap s known
no_map s known none =
    let place : PairPosition = record { in_old = known.key.old; in_new = known.key.new; left = known.value.cost } in
    (place, pairs_end s place place known.value.pairs known.value.pairs known.value.depth (pairs_begin s place known.value.pairs known.value.pairs known.value.depth refl) none, omega arith)

pub known_begin : (s : Sections) (known : Memo Offsets KnownMap) (kept : List (Memo Offsets KnownMap)) → known.value.pairs ≡ 0 → All (IsKnown known) kept → AreKnownMaps s kept
known_begin s known kept none all other there =
    subst (IsKnownMap s) (sym (All-contains (IsKnown known) kept other all there)) (no_map s known none)

one_known : (s : Sections) (put other : Memo Offsets KnownMap) (before : List (Memo Offsets KnownMap)) → AreKnownMaps s before → IsKnownMap s put → IsKnownOr put before other → IsKnownMap s other
one_known s put other before all one (inl there) = all other there
one_known s put other before all one (inr is) = subst (IsKnownMap s) (sym is) one

pub known_put : (s : Sections) (put : Memo Offsets KnownMap) (before after : List (Memo Offsets KnownMap)) → AreKnownMaps s before → IsKnownMap s put → AreKnownOr put before after → AreKnownMaps s after
known_put s put before after all one kept other there = one_known s put other before all one (All-contains (IsKnownOr put before) after other kept there)

-- what is kept is so at a place
deeper : (s : List ℕ) (p n q : ℕ) (values : Rattle.mmdb_format.specs.Unfolding.Pairs) (m : Measure) (below depth : ℕ) → below ≤ depth → ArePairs s p n q values m below → ArePairs s p n q values m depth
deeper s p n q values m below depth le a = record { pairs = a.pairs; unfolds = a.unfolds; keyed = a.keyed; texts = a.texts; levels = let l = a.levels in omega (arith, l, le); values = a.values; count = a.count; bytes = a.bytes }

pub known_here : (s : Sections) (known : Memo Offsets KnownMap) (before : PairPosition) (left n depth : ℕ) → IsKnownMap s known → known.key.old ≡ before.in_old → known.key.new ≡ before.in_new → known.value.pairs ≡ n → known.value.depth ≤ depth → left + known.value.cost ≡ before.left → AreSamePairsUpTo s before left n depth
known_here s known before left n depth known_map is_old is_new count deep paid =
    let after : PairPosition = record known_map.0 { left = left } in
    let pairs = known_map.1 in
    let p = pairs.paid in (
      after,
      record {
        values = pairs.values;
        measure = pairs.measure;
        in_old = rw (is_old, count) at (deeper s.in_old known.key.old known.value.pairs known_map.0.in_old pairs.values pairs.measure known.value.depth depth deep pairs.in_old);
        in_new = rw (is_new, count) at (deeper s.in_new known.key.new known.value.pairs known_map.0.in_new pairs.values pairs.measure known.value.depth depth deep pairs.in_new);
        paid = omega (arith, p, paid);
      },
      omega arith,
    )

-- what was read is kept
pub read_known : (s : Sections) (offsets : Offsets) (before after : PairPosition) (cost n depth : ℕ) → offsets.old ≡ before.in_old → offsets.new ≡ before.in_new → before.left ≤ after.left + cost → AreSamePairs s before after n depth → IsKnownMap s (record { key = offsets; value = record { pairs = n; depth = depth; cost = cost } })
read_known s offsets before after cost n depth is_old is_new paid pairs =
    let p = pairs.paid in (
      record after { left = 0 },
      record {
        values = pairs.values;
        measure = pairs.measure;
        in_old = subst (λ q. ArePairs s.in_old q n after.in_old pairs.values pairs.measure depth) (sym is_old) pairs.in_old;
        in_new = subst (λ q. ArePairs s.in_new q n after.in_new pairs.values pairs.measure depth) (sym is_new) pairs.in_new;
        paid = omega (arith, p, paid);
      },
      omega arith,
    )
