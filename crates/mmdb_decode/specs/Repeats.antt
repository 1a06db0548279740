-- A reading that is repeated where it began before: it is charged once more.
use Rattle.std.specs.Prelude.{◌≡◌, ◌-◌, Option, Some, None}
use Rattle.mmdb_decode.specs.declared.budget.Charges.{Charges}
use Rattle.mmdb_decode.specs.State.{State, spent_of}

-- what was charged between two budgets is charged once more
abbrev pub ChargedAgain : Option Charges → Option Charges → Option Charges → Option Charges → Type 0
ChargedAgain None last old new = ⊥
ChargedAgain (Some first) None old new = ⊥
ChargedAgain (Some first) (Some last) old new = spent_of old (last.values - first.values) (last.bytes - first.bytes) ≡ Some new

-- A decoder goes from where one was to where one is that read on from there.
pub record Repeats (before behind old new : State) : Type 0 where
  pub offset : old.offset ≡ before.offset
  pub levels : old.levels ≡ before.levels
  pub charges : ChargedAgain before.budget behind.budget old.budget new.budget
  pub same : new ≡ record old { offset = behind.offset; budget = new.budget }
