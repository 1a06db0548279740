-- Which values are given back by each reading within its limits, and why others are not.
use Rattle.std.specs.Prelude.{◌≡◌, ◌<◌, ◌≤◌, ◌*◌, ◌⊎◌, true}
use Rattle.mmdb_format.specs.Unfolding.{Tree, scalar, array, table, pointer, Trees, no_trees, tree, Pairs, no_pairs, pair, is_keyed, value_count, payload, levels}
use Rattle.mmdb_decode.specs.State.{most_values, most_bytes}
use Rattle.mmdb_check.specs.Checking.{most_checked_levels}
use Rattle.mmdb_writer.specs.declared.limits.ValueError.{ValueError}
use Rattle.mmdb_writer.specs.declared.limits.ValueError.TheVariants.{TooManyValues, TooManyBytes, TooDeep, KeyTwice}

-- Keys are texts, and values, bytes and levels are within the limits: each level may have a pointer before it.
pub record IsWithinLimits (v : Tree) : Type 0 where
  pub keyed : is_keyed v ≡ true
  pub values : value_count v ≤ most_values
  pub bytes : payload v ≤ most_bytes
  pub levels : 2 * levels v ≤ most_checked_levels

-- the key is one of those of the pairs
abbrev pub IsKeyIn : Tree → Pairs → Type 0
IsKeyIn k no_pairs = ⊥
IsKeyIn k (pair l v ps) = (k ≡ l) ⊎ IsKeyIn k ps

-- in some map of the value a key occurs twice
abbrev mutual
  pub HasKeyTwice : Tree → Type 0
  HasKeyTwice (scalar c) = ⊥
  HasKeyTwice (array ts) = SomeHasKeyTwice ts
  HasKeyTwice (table ps) = PairsHaveKeyTwice ps
  HasKeyTwice (pointer a t) = HasKeyTwice t

  pub SomeHasKeyTwice : Trees → Type 0
  SomeHasKeyTwice no_trees = ⊥
  SomeHasKeyTwice (tree t ts) = HasKeyTwice t ⊎ SomeHasKeyTwice ts

  pub PairsHaveKeyTwice : Pairs → Type 0
  PairsHaveKeyTwice no_pairs = ⊥
  PairsHaveKeyTwice (pair k v ps) = IsKeyIn k ps ⊎ (HasKeyTwice v ⊎ PairsHaveKeyTwice ps)

-- it is within the limits, and in its maps each key occurs once
pub record CanBeRead (v : Tree) : Type 0 where
  pub within : IsWithinLimits v
  pub once : ¬ HasKeyTwice v

-- which limit a value exceeds, or that a key occurs twice
abbrev pub Exceeds : ValueError → Tree → Type 0
Exceeds TooManyValues v = most_values < value_count v
Exceeds TooManyBytes v = most_bytes < payload v
Exceeds TooDeep v = most_checked_levels < 2 * levels v
Exceeds KeyTwice v = HasKeyTwice v
