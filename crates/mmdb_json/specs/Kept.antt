-- What is kept of a data section.
use Rattle.std.specs.Prelude.{◌≡◌, ◌≤◌, ℕ, ◌+◌, List, length, Option, Some}
use Rattle.std.specs.List.{Contains}
use Rattle.mmdb_cache.specs.declared.cache.CacheEntry.{CacheEntry}
use Rattle.mmdb_format.specs.Unfolding.{value_count, payload, levels_without_key_pointers}
use Rattle.mmdb_json.specs.declared.kept.KeptText.{KeptText}
use Rattle.mmdb_json.specs.Appended.{IsTextAt, IsOwnNameAt}

-- it is the text of what unfolds at an offset, with what that costs
pub record IsKeptText (s : List ℕ) (offset : ℕ) (kept : KeptText) : Type 0 where
  pub end : ℕ
  pub at : IsTextAt s offset end kept.text.items
  pub levels : levels_without_key_pointers at.tree ≤ kept.levels
  pub values : value_count at.tree ≡ kept.values + 1
  pub bytes : payload at.tree ≡ kept.bytes

-- or the name of the text that is there
pub record IsKeptName (s : List ℕ) (offset : ℕ) (kept : KeptText) : Type 0 where
  pub end : ℕ
  pub at : IsOwnNameAt s offset end kept.text.items
  pub levels : kept.levels ≡ 0
  pub values : kept.values ≡ 0
  pub bytes : length at.key ≡ kept.bytes

pub record AreRight (s : List ℕ) (values names : List (Option (CacheEntry KeptText))) : Type 0 where
  pub values_are : (entry : CacheEntry KeptText) → Contains values (Some entry) → IsKeptText s entry.key entry.value
  pub names_are : (entry : CacheEntry KeptText) → Contains names (Some entry) → IsKeptName s entry.key entry.value
