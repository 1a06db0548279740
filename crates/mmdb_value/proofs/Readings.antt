-- The reading of a tree that unfolds.
use Rattle.std.proofs.Common.{◌≡◌, ℕ, suc, ◌≤◌, List, Bool, true}
use Rattle.mmdb_format.specs.Unfolding.{Tree, Unfolds, levels_without_key_pointers, value_count, payload, has_texts, is_keyed, without_pointers}
use Rattle.mmdb_decode.specs.Reading.{Reading}

-- its keys are texts and, if they are tested, all its texts are UTF-8
pub record IsReadingOf (tested : Bool) (s : List ℕ) (p most : ℕ) (u : Tree) (r : Reading Tree) : Type 0 where
  pub unfolds : Unfolds s p u r.next
  pub keyed : is_keyed u ≡ true
  pub texts : tested ≡ true → has_texts u ≡ true
  pub levels : levels_without_key_pointers u ≤ most
  pub value : r.value ≡ without_pointers u
  pub values : value_count u ≡ suc r.values
  pub bytes : payload u ≡ r.bytes
