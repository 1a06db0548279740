-- Whole numbers, pointer by pointer.
use Rattle.std.proofs.Common.{◌≡◌, ℕ, suc, zero, ◌-◌, ℤ, List, Option, Some, None, true, false, nat_eq, refl, ◌∙◌, arith}
use Rattle.std.proofs.Common.{◌≤ℤ◌, ◌<ℤ◌}
use Rattle.std.proofs.lemmas.Bool.Decides.{nat_tests}
use Rattle.std.proofs.lemmas.Int.{ints}
use Rattle.mmdb_decode.specs.State.{GivenUp}
use Rattle.mmdb_decode.specs.SmallNumbers.{if_between, small_at}
use Rattle.mmdb_decode.proofs.StepLaws.{kept_decoded, given_up_kept}
use Rattle.mmdb_decode.proofs.ReadingLaws.{checked_ok, checked_missing, checked_none}
use Rattle.mmdb_format.specs.declared.header.Header.{Header}
use Rattle.mmdb_format.specs.declared.header.Pointer.{Pointer}
use Rattle.mmdb_format.specs.Header.{◌>>=◌, header_at}
use Rattle.mmdb_format.specs.Pointer.{pointer_at}
use Rattle.mmdb_format.specs.Contents.{content_at}
use Rattle.mmdb_decode.specs.declared.budget.Charges.{Charges}
use Rattle.mmdb_decode.specs.State.{State, decoded, begun, Within}
use Rattle.mmdb_decode.specs.SmallNumbers.{whole_here, whole_within, whole_at}
use Rattle.mmdb_decode.proofs.StepLaws.{state, read_started}

pub whole_headless : (n : ℕ) (s : List ℕ) (p : ℕ) → header_at s p ≡ None → whole_within n s p ≡ None
unfolding whole_within
whole_headless zero s p h = rw h refl
whole_headless (suc n) s p h = rw h refl

pub whole_plain : (n : ℕ) (s : List ℕ) (p : ℕ) (header : Header) → header_at s p ≡ Some header → nat_eq header.kind 1 ≡ false → whole_within n s p ≡ whole_here s header
unfolding whole_within
whole_plain zero s p header h k = rw h refl
whole_plain (suc n) s p header h k = rw (h, k) refl

pub whole_behind : (n m : ℕ) (s : List ℕ) (p : ℕ) (header : Header) → n ≡ suc m → header_at s p ≡ Some header → nat_eq header.kind 1 ≡ true → whole_within n s p ≡ (pointer_at s header.body header.size >>= λ to. whole_within m s to.target >>= λ x. Some (x.0, to.next))
unfolding whole_within
whole_behind n m s p header e h k = rw (e, h, k) refl

pub whole_none : (σ : State) → whole_within (512 - σ.levels) σ.section σ.offset ≡ None → decoded true whole_at σ ≡ None
unfolding whole_at decoded
whole_none σ h = rw h refl

whole_is : (σ : State) (z : ℤ) (next : ℕ) → whole_within (512 - σ.levels) σ.section σ.offset ≡ Some (z, next) → whole_at σ.section σ.offset σ.levels ≡ Some (record { value = z; next = next; values = 0; bytes = 0 })
unfolding whole_at
whole_is σ z next h = rw h refl

pub whole_some : (σ : State) (z : ℤ) (next : ℕ) (left : Option Charges) → left ≡ begun true σ.budget → Within left → whole_within (512 - σ.levels) σ.section σ.offset ≡ Some (z, next) → decoded true whole_at σ ≡ Some (z, state σ.section next σ.levels left)
whole_some σ z next left e w h = read_started whole_at σ z next left e w (whole_is σ z next h)

-- the pointer of the deepest level
pub whole_deep : (n : ℕ) (s : List ℕ) (p : ℕ) (header : Header) → n ≡ 0 → header_at s p ≡ Some header → nat_eq header.kind 1 ≡ true → whole_within n s p ≡ None
unfolding whole_within whole_here content_at
whole_deep n s p header e h k = let one : header.kind ≡ 1 = grind (arith, nat_tests) in rw (e, h, one) refl

pub whole_no_pointer : (n m : ℕ) (s : List ℕ) (p : ℕ) (header : Header) → n ≡ suc m → header_at s p ≡ Some header → nat_eq header.kind 1 ≡ true → pointer_at s header.body header.size ≡ None → whole_within n s p ≡ None
whole_no_pointer n m s p header e h k q = whole_behind n m s p header e h k ∙ rw q refl

pub whole_no_target : (n m : ℕ) (s : List ℕ) (p : ℕ) (header : Header) (to : Pointer) → n ≡ suc m → header_at s p ≡ Some header → nat_eq header.kind 1 ≡ true → pointer_at s header.body header.size ≡ Some to → whole_within m s to.target ≡ None → whole_within n s p ≡ None
whole_no_target n m s p header to e h k q t = whole_behind n m s p header e h k ∙ rw (q, t) refl

pub whole_target : (n m : ℕ) (s : List ℕ) (p : ℕ) (header : Header) (to : Pointer) (x : ℤ × ℕ) → n ≡ suc m → header_at s p ≡ Some header → nat_eq header.kind 1 ≡ true → pointer_at s header.body header.size ≡ Some to → whole_within m s to.target ≡ Some x → whole_within n s p ≡ Some (x.0, to.next)
whole_target n m s p header to x e h k q t = whole_behind n m s p header e h k ∙ rw (q, t) refl

-- a number within a range, or past it
pub between_yes : (low high z : ℤ) → low ≤ℤ z → z ≤ℤ high → if_between low high z ≡ Some z
between_yes low high z h k = grind (arith, ints)

pub below_low : (low high z : ℤ) → z <ℤ low → if_between low high z ≡ None
below_low low high z h = grind (arith, ints)

pub above_high : (low high z : ℤ) → high <ℤ z → if_between low high z ≡ None
above_high low high z h = grind (arith, ints)

pub small_unread : (low high : ℤ) (σ τ : State) → GivenUp σ τ × (decoded true whole_at σ ≡ None) → GivenUp σ τ × (decoded true (small_at low high) σ ≡ None)
small_unread low high σ τ h = (h.0, checked_none true (if_between low high) whole_at σ h.1)

pub small_read : (low high z : ℤ) (σ τ : State) → decoded true whole_at σ ≡ Some (z, τ) → if_between low high z ≡ Some z → decoded true (small_at low high) σ ≡ Some (z, τ)
small_read low high z σ τ h k = checked_ok true (if_between low high) whole_at σ τ z z h k

pub small_past : (low high z : ℤ) (σ τ : State) → decoded true whole_at σ ≡ Some (z, τ) → if_between low high z ≡ None → GivenUp σ τ × (decoded true (small_at low high) σ ≡ None)
small_past low high z σ τ h k = (given_up_kept σ τ (kept_decoded true whole_at σ τ z h), checked_missing true (if_between low high) whole_at σ τ z h k)
