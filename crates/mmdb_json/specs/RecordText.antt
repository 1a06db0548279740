-- The text of what is at an offset ("Data Field Format" of the MaxMind DB File Format Specification 2.0).
use Rattle.std.specs.Prelude.{◌≡◌, ◌≤◌, ℕ, List, ◌++◌, true}
use Rattle.mmdb_format.specs.Unfolding.{Tree, value_count, payload}
use Rattle.mmdb_decode.specs.State.{most_values, most_bytes}
use Rattle.mmdb_value.specs.Standing.{Stands}
use Rattle.mmdb_json.specs.Texts.{IsCompact}

-- bytes grow by the compact JSON text of the tree at an offset, which is within the limits of a reading
pub record AppendsRecord (s : List ℕ) (offset : ℕ) (old new : List ℕ) : Type 0 where
  pub tree : Tree
  pub end : ℕ
  pub text : List ℕ
  pub stands : Stands true s offset 0 tree end
  pub few_values : value_count tree ≤ most_values
  pub few_bytes : payload tree ≤ most_bytes
  pub compact : IsCompact tree text
  pub grown : new ≡ old ++ text
