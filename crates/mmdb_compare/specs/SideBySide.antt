-- What two readings side by side have passed, and what is kept of it.
use Rattle.std.specs.Prelude.{◌≡◌, ◌≤◌, ℕ, ◌+◌, ◌*◌, List, true}
use Rattle.std.specs.List.{Contains}
use Rattle.mmdb_cache.specs.declared.table.Memo.{Memo}
use Rattle.mmdb_format.specs.Contents.{text}
use Rattle.mmdb_format.specs.Unfolding.{Tree, scalar, Trees, Pairs, Unfolds, AllUnfold, PairsUnfold, levels_without_key_pointers, trees_levels, pairs_levels, key_levels, value_count, trees_count, pairs_count, payload, trees_payload, pairs_payload, has_texts, trees_texts, pairs_texts, is_key, is_keyed, trees_keyed, pairs_keyed, without_pointers, trees_without, pairs_without}
use Rattle.mmdb_compare.specs.declared.equality.KnownMap.{KnownMap}
use Rattle.mmdb_compare.specs.declared.pairs.Offsets.{Offsets}
use Rattle.mmdb_compare.specs.declared.place.PairPosition.{PairPosition}
use Rattle.mmdb_compare.specs.Same.{Sections}

-- how many levels a value may have whose containers nest at most `depth` deep: each of them, and the last value, may be reached
-- through a pointer
abbrev pub most_levels_at : ℕ → ℕ
most_levels_at depth = 2 * depth + 1

-- what is the same in both sections: how many values, and bytes of texts
pub record Measure : Type 0 where
  pub count : ℕ
  pub bytes : ℕ

-- A value is at an offset and ends before another one.
pub record IsValue (s : List ℕ) (p q : ℕ) (v : Tree) (m : Measure) (depth : ℕ) : Type 0 where
  pub tree : Tree
  pub unfolds : Unfolds s p tree q
  pub keyed : is_keyed tree ≡ true
  pub texts : has_texts tree ≡ true
  pub levels : levels_without_key_pointers tree ≤ most_levels_at depth
  pub value : v ≡ without_pointers tree
  pub count : value_count tree ≡ m.count
  pub bytes : payload tree ≡ m.bytes

-- a text that is a key
pub record IsKey (s : List ℕ) (p q : ℕ) (k : List ℕ) (m : Measure) : Type 0 where
  pub tree : Tree
  pub unfolds : Unfolds s p tree q
  pub key : is_key tree ≡ true
  pub texts : has_texts tree ≡ true
  pub levels : key_levels tree ≡ 0
  pub value : scalar (text k) ≡ without_pointers tree
  pub count : value_count tree ≡ m.count
  pub bytes : payload tree ≡ m.bytes

-- `n` values, one after another
pub record AreValues (s : List ℕ) (p n q : ℕ) (vs : Trees) (m : Measure) (depth : ℕ) : Type 0 where
  pub trees : Trees
  pub unfolds : AllUnfold s p n trees q
  pub keyed : trees_keyed trees ≡ true
  pub texts : trees_texts trees ≡ true
  pub levels : trees_levels trees ≤ most_levels_at depth
  pub values : vs ≡ trees_without trees
  pub count : trees_count trees ≡ m.count
  pub bytes : trees_payload trees ≡ m.bytes

-- `n` pairs
pub record ArePairs (s : List ℕ) (p n q : ℕ) (vs : Pairs) (m : Measure) (depth : ℕ) : Type 0 where
  pub pairs : Pairs
  pub unfolds : PairsUnfold s p n pairs q
  pub keyed : pairs_keyed pairs ≡ true
  pub texts : pairs_texts pairs ≡ true
  pub levels : pairs_levels pairs ≤ most_levels_at depth
  pub values : vs ≡ pairs_without pairs
  pub count : pairs_count pairs ≡ m.count
  pub bytes : pairs_payload pairs ≡ m.bytes

-- it costs no more than what was taken
abbrev pub IsPaid : Measure → ℕ → ℕ → Type 0
IsPaid m left rest = 32 * m.count + m.bytes + rest ≤ left

-- From one place to another one the same is in both sections: a value, a key, `n` values or pairs.
pub record IsSame (s : Sections) (before after : PairPosition) (depth : ℕ) : Type 0 where
  pub value : Tree
  pub measure : Measure
  pub in_old : IsValue s.in_old before.in_old after.in_old value measure depth
  pub in_new : IsValue s.in_new before.in_new after.in_new value measure depth
  pub paid : IsPaid measure before.left after.left

pub record IsSameKey (s : Sections) (before after : PairPosition) : Type 0 where
  pub key : List ℕ
  pub measure : Measure
  pub in_old : IsKey s.in_old before.in_old after.in_old key measure
  pub in_new : IsKey s.in_new before.in_new after.in_new key measure
  pub paid : IsPaid measure before.left after.left

pub record AreSameElements (s : Sections) (before after : PairPosition) (n depth : ℕ) : Type 0 where
  pub values : Trees
  pub measure : Measure
  pub in_old : AreValues s.in_old before.in_old n after.in_old values measure depth
  pub in_new : AreValues s.in_new before.in_new n after.in_new values measure depth
  pub paid : IsPaid measure before.left after.left

pub record AreSamePairs (s : Sections) (before after : PairPosition) (n depth : ℕ) : Type 0 where
  pub values : Pairs
  pub measure : Measure
  pub in_old : ArePairs s.in_old before.in_old n after.in_old values measure depth
  pub in_new : ArePairs s.in_new before.in_new n after.in_new values measure depth
  pub paid : IsPaid measure before.left after.left

-- `n` pairs, wherever they end
abbrev pub AreSamePairsUpTo : Sections → PairPosition → ℕ → ℕ → ℕ → Type 0
AreSamePairsUpTo s before left n depth = (after : PairPosition) × AreSamePairs s before after n depth × (left ≤ after.left)

-- what is kept of two maps is so
abbrev pub IsKnownMap : Sections → Memo Offsets KnownMap → Type 0
IsKnownMap s known = AreSamePairsUpTo s (record { in_old = known.key.old; in_new = known.key.new; left = known.value.cost }) 0 known.value.pairs known.value.depth

abbrev pub AreKnownMaps : Sections → List (Memo Offsets KnownMap) → Type 0
AreKnownMaps s kept = (known : Memo Offsets KnownMap) → Contains kept known → IsKnownMap s known
