-- Which value is at an offset, in the words of the format: a tree that unfolds there, and its measures.
use Rattle.std.specs.Prelude.{◌≡◌, ◌↔◌, ℕ, suc, ◌+◌, ◌≤◌, List, Some, Bool, true}
use Rattle.mmdb_format.specs.Pointer.{most_levels}
use Rattle.mmdb_format.specs.Unfolding.{Tree, Unfolds, levels_without_key_pointers, value_count, payload, has_texts, is_keyed, without_pointers}
use Rattle.mmdb_decode.specs.State.{most_values, most_bytes}
use Rattle.mmdb_decode.specs.Errors.{answer}
use Rattle.mmdb_value.specs.AnyValue.{value_at}

-- below d levels: the tree unfolds, its keys are texts, its texts are UTF-8 if they are tested
pub record Stands (tested : Bool) (s : List ℕ) (p d : ℕ) (u : Tree) (q : ℕ) : Type 0 where
  pub unfolds : Unfolds s p u q
  pub keyed : is_keyed u ≡ true
  pub texts : tested ≡ true → has_texts u ≡ true
  pub levels : d + levels_without_key_pointers u ≤ most_levels

-- a value v that ends before q and costs c values after the first and b bytes
abbrev pub ValueStands : Bool → List ℕ → ℕ → ℕ → Tree → ℕ → ℕ → ℕ → Type 0
ValueStands tested s p d v q c b =
    (u : Tree) × Stands tested s p d u q × (v ≡ without_pointers u) × (value_count u ≡ suc c) × (payload u ≡ b)

-- within the limits of a whole reading
abbrev pub WholeValue : Bool → List ℕ → ℕ → Tree → Type 0
WholeValue tested s p v =
    (u : Tree) × (q : ℕ) × Stands tested s p 0 u q × (v ≡ without_pointers u) × (value_count u ≤ most_values) × (payload u ≤ most_bytes)

-- the reading of any value is what is there
abbrev pub ValueIsWhatStands : Type 0
ValueIsWhatStands =
    (tested : Bool) (s : List ℕ) (p d : ℕ) (v : Tree) (q c b : ℕ) → d ≤ most_levels →
    (value_at tested s p d ≡ Some (record { value = v; next = q; values = c; bytes = b })) ↔ ValueStands tested s p d v q c b

-- at most one value is at an offset, with one end and one cost
abbrev pub OneValueStands : Type 0
OneValueStands =
    (tested : Bool) (s : List ℕ) (p d : ℕ) (v w : Tree) (q r c e b f : ℕ) → d ≤ most_levels →
    ValueStands tested s p d v q c b → ValueStands tested s p d w r e f → (v ≡ w) × (q ≡ r) × (c ≡ e) × (b ≡ f)

-- a whole reading from the start succeeds exactly where there is such a value within the limits
abbrev pub AnswerIsWholeValue : Type 0
AnswerIsWholeValue =
    (tested : Bool) (s : List ℕ) (p : ℕ) (v : Tree) →
    (answer true (value_at tested) s p ≡ Some v) ↔ WholeValue tested s p v
