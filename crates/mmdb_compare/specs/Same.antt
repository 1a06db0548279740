-- When records of two databases are equal.
use Rattle.std.specs.Prelude.{ℕ, List, true}
use Rattle.mmdb_format.specs.Unfolding.{Tree}
use Rattle.mmdb_value.specs.Standing.{WholeValue}

-- the data sections of two databases
pub record Sections : Type 0 where
  pub in_old : List ℕ
  pub in_new : List ℕ

-- One value is at both offsets, within the limits of a reading: the same tree with its pointers dropped.
abbrev pub HaveSameValue : Sections → ℕ → ℕ → Type 0
HaveSameValue s old new = (value : Tree) × WholeValue true s.in_old old value × WholeValue true s.in_new new value
