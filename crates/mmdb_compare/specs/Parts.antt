-- Addresses, and a leaf that can't be read.
use Rattle.std.specs.Prelude.{Option, Some, None, ℕ, ◌^◌, ◌≡◌, Bool, true, List, ◌∷◌}
use Rattle.mmdb_compare.specs.Coming.{Leaf, Coming, coming, coming_from}
use Rattle.mmdb_compare.specs.Coming.Leaf.{Unread}

-- the address that databases are at: after all addresses where none is left
abbrev pub start_of : Option ℕ → ℕ
start_of (Some at) = at
start_of None = 2 ^ 128

-- at an address a leaf came first that can't be read, and is no longer to come
pub record IsPast (at : ℕ) (before after : Coming) : Type 0 where
  pub leaves : List Leaf
  pub is_unknown : Bool
  pub met : coming_from at before ≡ coming (Unread ∷ leaves) is_unknown
  pub left : after ≡ coming_from at (coming leaves true)
