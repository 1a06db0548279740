-- What contracts of private functions and proofs name.
use Rattle.std.specs.Prelude.{◌≡◌, ◌≤◌, ℕ, List, Option, Some, true, IfSome}
use Rattle.mmdb_format.specs.declared.header.Header.{Header}
use Rattle.mmdb_format.specs.Header.{header_at}
use Rattle.mmdb_format.specs.Unfolding.{Tree, Trees, Pairs, Unfolds, AllUnfold, PairsUnfold, is_key, is_keyed, trees_keyed, pairs_keyed, value_count, trees_count, pairs_count, payload, trees_payload, pairs_payload}
use Rattle.mmdb_decode.specs.State.{most_values, most_bytes}
use Rattle.mmdb_costs.specs.declared.cost.Cost.{Cost}
use Rattle.mmdb_costs.specs.declared.cost.PartCost.{PartCost}
use Rattle.mmdb_costs.specs.declared.kept_costs.KnownCost.{KnownCost}
use Rattle.mmdb_costs.specs.declared.kept_costs.KnownCost.TheVariants.{Costs, Unreadable}

-- a cost is within the limits of a reading
pub record IsWithin (cost : Cost) : Type 0 where
  pub values : cost.values ≤ most_values
  pub bytes : cost.bytes ≤ most_bytes

-- a value is at an offset, with texts for keys, and has this end and this cost
pub record HasCost (s : List ℕ) (p : ℕ) (part : PartCost) : Type 0 where
  pub tree : Tree
  pub unfolds : Unfolds s p tree part.end
  pub keyed : is_keyed tree ≡ true
  pub values : value_count tree ≡ part.cost.values
  pub bytes : payload tree ≡ part.cost.bytes
  pub within : IsWithin part.cost

-- the same wherever a header is
abbrev pub HasCostBehind : List ℕ → Header → PartCost → Type 0
HasCostBehind s header part = (p : ℕ) → header_at s p ≡ Some header → HasCost s p part

-- the same, whatever its end
abbrev pub HasSomeCost : List ℕ → ℕ → Cost → Type 0
HasSomeCost s p cost = (end : ℕ) × HasCost s p (record { end = end; cost = cost })

-- a map's key
pub record HasKeyCost (s : List ℕ) (p : ℕ) (part : PartCost) : Type 0 where
  pub tree : Tree
  pub unfolds : Unfolds s p tree part.end
  pub key : is_key tree ≡ true
  pub values : value_count tree ≡ part.cost.values
  pub bytes : payload tree ≡ part.cost.bytes

-- `n` elements
pub record ElementsHaveCost (s : List ℕ) (p n : ℕ) (part : PartCost) : Type 0 where
  pub trees : Trees
  pub unfolds : AllUnfold s p n trees part.end
  pub keyed : trees_keyed trees ≡ true
  pub values : trees_count trees ≡ part.cost.values
  pub bytes : trees_payload trees ≡ part.cost.bytes

-- `n` pairs
pub record PairsHaveCost (s : List ℕ) (p n : ℕ) (part : PartCost) : Type 0 where
  pub pairs : Pairs
  pub unfolds : PairsUnfold s p n pairs part.end
  pub keyed : pairs_keyed pairs ≡ true
  pub values : pairs_count pairs ≡ part.cost.values
  pub bytes : pairs_payload pairs ≡ part.cost.bytes

-- what is known of an offset is so
abbrev pub IsKnown : List ℕ → ℕ → KnownCost → Type 0
IsKnown s p (Costs cost) = HasSomeCost s p cost
IsKnown s p Unreadable = Unit {0}

abbrev pub AreKnown : List ℕ → (ℕ → Option KnownCost) → Type 0
AreKnown s known = (p : ℕ) → IfSome (known p) (IsKnown s p)
