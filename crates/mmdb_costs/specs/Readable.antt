-- Which values a reading can take.
use Rattle.std.specs.Prelude.{◌≡◌, ◌≤◌, ℕ, List, Bool, true}
use Rattle.mmdb_format.specs.Unfolding.{Tree, Unfolds, is_keyed, value_count, payload}
use Rattle.mmdb_decode.specs.State.{most_values, most_bytes}
use Rattle.mmdb_value.specs.Standing.{WholeValue}
use Rattle.mmdb_check.specs.Checking.{IsGood}
use Rattle.mmdb_offsets.specs.OffsetSet.{holds}

-- A value unfolds at an offset whose keys are texts, and which is no more values, and no more bytes of texts and byte
-- strings, than a reading may take.
pub record Fits (s : List ℕ) (p : ℕ) : Type 0 where
  pub tree : Tree
  pub end : ℕ
  pub unfolds : Unfolds s p tree end
  pub keyed : is_keyed tree ≡ true
  pub values : value_count tree ≤ most_values
  pub bytes : payload tree ≤ most_bytes

-- a `Value` can be read at an offset; at each offset of a set
abbrev pub IsReadable : List ℕ → ℕ → Type 0
IsReadable s p = (v : Tree) × WholeValue true s p v

abbrev pub AreReadable : List ℕ → List Bool → Type 0
AreReadable s set = (p : ℕ) → holds set p ≡ true → IsReadable s p

-- a check finds an offset good; each offset of a set
abbrev pub IsGoodAt : List ℕ → ℕ → Type 0
IsGoodAt s p = (t : Tree) × IsGood s p t

abbrev pub AreGoodAt : List ℕ → List Bool → Type 0
AreGoodAt s set = (p : ℕ) → holds set p ≡ true → IsGoodAt s p
