-- Single steps over pointers and into containers, over plain variables.
use Rattle.std.proofs.Common.{◌≡◌, ℕ, ◌+◌, ◌<◌, ◌≤◌, Option, Some, None, true, false, nat_lt, refl, arith}
use Rattle.std.proofs.lemmas.Bool.Decides.{nat_tests}
use Rattle.mmdb_format.specs.declared.header.Header.{Header}
use Rattle.mmdb_format.specs.declared.header.Pointer.{Pointer}
use Rattle.mmdb_format.specs.Pointer.{pointer_at}
use Rattle.mmdb_format.specs.Contents.{Scalar, content_at, content_end, scalar_payload}
use Rattle.mmdb_decode.specs.declared.budget.Charges.{Charges}
use Rattle.mmdb_decode.specs.State.{State, spent_of}
use Rattle.mmdb_decode.specs.Levels.{entered_pointer, entered_parts, content_of}
use Rattle.mmdb_decode.proofs.StepLaws.{state}

pub pointer_deep : (σ : State) (header : Header) → 512 ≤ σ.levels → entered_pointer σ header ≡ None
unfolding entered_pointer
pointer_deep σ header h = let no : nat_lt σ.levels 512 ≡ false = grind (arith, nat_tests) in rw no refl

pub pointer_bad : (σ : State) (header : Header) → σ.levels < 512 → pointer_at σ.section header.body header.size ≡ None → entered_pointer σ header ≡ None
unfolding entered_pointer
pointer_bad σ header h k = let yes : nat_lt σ.levels 512 ≡ true = grind (arith, nat_tests) in rw (yes, k) refl

pub pointer_good : (σ : State) (header : Header) (pointer : Pointer) → σ.levels < 512 → pointer_at σ.section header.body header.size ≡ Some pointer → entered_pointer σ header ≡ Some (pointer.next, state σ.section pointer.target (σ.levels + 1) σ.budget)
unfolding entered_pointer
pointer_good σ header pointer h k = let yes : nat_lt σ.levels 512 ≡ true = grind (arith, nat_tests) in rw (yes, k) refl

pub parts_deep : (σ : State) (header : Header) (n : ℕ) → 512 ≤ σ.levels → entered_parts σ header n ≡ None
unfolding entered_parts
parts_deep σ header n h = let no : nat_lt σ.levels 512 ≡ false = grind (arith, nat_tests) in rw no refl

pub parts_past : (σ : State) (header : Header) (n : ℕ) → σ.levels < 512 → spent_of σ.budget n 0 ≡ None → entered_parts σ header n ≡ None
unfolding entered_parts
parts_past σ header n h k = let yes : nat_lt σ.levels 512 ≡ true = grind (arith, nat_tests) in rw (yes, k) refl

pub parts_in : (σ : State) (header : Header) (n : ℕ) (left : Option Charges) → σ.levels < 512 → spent_of σ.budget n 0 ≡ Some left → entered_parts σ header n ≡ Some (state σ.section header.body (σ.levels + 1) left)
unfolding entered_parts
parts_in σ header n left h k = let yes : nat_lt σ.levels 512 ≡ true = grind (arith, nat_tests) in rw (yes, k) refl

-- what follows a header
pub content_none : (header : Header) (σ : State) → content_at σ.section header ≡ None → content_of header σ.section σ.offset σ.levels ≡ None
unfolding content_of
content_none header σ h = rw h refl

pub content_some : (header : Header) (σ : State) (c : Scalar) → content_at σ.section header ≡ Some c → content_of header σ.section σ.offset σ.levels ≡ Some (record { value = c; next = content_end header; values = 0; bytes = scalar_payload c })
unfolding content_of
content_some header σ c h = rw h refl
