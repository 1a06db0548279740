-- What a check had done when it failed.
use Rattle.std.specs.Prelude.{◌≡◌, ◌⊎◌, ℕ, suc, ◌+◌, ◌≤◌, List, [], ◌∷◌, length, Some, Bool, true, false, ◌||◌, ◌==◌}
use Rattle.mmdb_check.specs.declared.inline.Inline.TheVariants.{Scalar, Parts, Pointer}
use Rattle.mmdb_check.specs.Inline.{inline_at}
use Rattle.mmdb_check.specs.Checking.{Costs}

-- Of n values that come one after the other from p, a part was passed in the order of the file: up to the offset q,
-- where `left` values are still to come. It costs one for each value and pointer, and one for each byte of a text.
pub data Passes : List ℕ → ℕ → ℕ → ℕ → ℕ → ℕ → Type 0 where
  none_passed : {s : List ℕ} {p n : ℕ} → Passes s p n p n 0
  scalar_passed : {s : List ℕ} {p n q left cost size end : ℕ} {valid : Bool} → Passes s p n q (suc left) cost → inline_at s q ≡ Some (Scalar size valid end) → Passes s p n end left (cost + suc size)
  parts_passed : {s : List ℕ} {p n q left cost count start : ℕ} → Passes s p n q (suc left) cost → inline_at s q ≡ Some (Parts count start) → Passes s p n start (count + left) (cost + 1)
  pointer_passed : {s : List ℕ} {p n q left cost target end : ℕ} → Passes s p n q (suc left) cost → inline_at s q ≡ Some (Pointer target end) → Passes s p n end left (cost + 1)

abbrev pub CostOfPart : List ℕ → ℕ → ℕ → ℕ → Type 0
CostOfPart s p n cost = (q : ℕ) × (left : ℕ) × Passes s p n q left cost

-- of these values a part of this cost was passed, and a pointer to the target was passed last
abbrev pub EndsAtPointer : List ℕ → ℕ → ℕ → ℕ → ℕ → Type 0
EndsAtPointer s p n cost target =
    (q : ℕ) × (left : ℕ) × (end : ℕ) × (before : ℕ) × Passes s p n q (suc left) before × (inline_at s q ≡ Some (Pointer target end)) × (cost ≡ before + 1)

-- an offset under check, and what the part of its value cost that was passed
pub record Part : Type 0 where
  pub offset : ℕ
  pub cost : ℕ

abbrev pub is_under : List Part → ℕ → Bool
is_under [] q = false
is_under (x ∷ parts) q = (q == x.offset) || is_under parts q

-- each is there once
abbrev pub Once : List Part → Type 0
Once [] = Unit {0}
Once (x ∷ parts) = (is_under parts x.offset ≡ false) × Once parts

-- each of these offsets is the target of the pointer that was passed last before it, the first of one from p
abbrev pub GoesOn : List ℕ → ℕ → ℕ → ℕ → List Part → Type 0
GoesOn s p n cost [] = Unit {0}
GoesOn s p n cost (x ∷ parts) = EndsAtPointer s p n cost x.offset × GoesOn s x.offset 1 x.cost parts

-- the offsets under check: p, and in turn the targets of the pointers that are followed; none where p is no offset to
-- be checked
abbrev pub IsWay : List ℕ → Type 0 → ℕ → List Part → Type 0
IsWay s NoOffset p [] = NoOffset
IsWay s NoOffset p (x ∷ parts) = (x.offset ≡ p) × GoesOn s x.offset 1 x.cost parts

abbrev pub ArePassed : List ℕ → List Part → Type 0
ArePassed s [] = Unit {0}
ArePassed s (x ∷ parts) = CostOfPart s x.offset 1 x.cost × ArePassed s parts

abbrev pub parts_cost : List Part → ℕ
parts_cost [] = 0
parts_cost (x ∷ parts) = x.cost + parts_cost parts

-- What was charged is the cost of the good offsets, and of the parts passed of the offsets under check, from the offset
-- p on, none of which is good.
pub record IsHalted (s : List ℕ) (good : ℕ → Bool) (p charged : ℕ) : Type 0 where
  pub parts : List Part
  pub way : IsWay s ((good p ≡ true) ⊎ (length s ≤ p)) p parts
  pub passed : ArePassed s parts
  pub once : Once parts
  pub under : (q : ℕ) → is_under parts q ≡ true → good q ≡ false
  pub cost : ℕ
  pub good_cost : Costs s good cost
  pub total : charged ≡ cost + parts_cost parts
