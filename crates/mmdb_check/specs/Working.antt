-- What contracts of private functions and proofs name.
use Rattle.std.specs.Prelude.{◌≡◌, ℕ, suc, ◌+◌, List, length, Bool, true, ◌||◌, ◌==◌, ◌≢◌, ◌≤◌, ◌⊎◌}
use Rattle.mmdb_check.specs.Values.{Values, End, ScalarThen, PartsThen, PointerThen, count, Stand, nesting, Texts, reaches, work_of}
use Rattle.mmdb_check.specs.Checking.{either}
use Rattle.mmdb_check.specs.Memory.{mark, is_good, Sound}
use Rattle.mmdb_check.specs.Halting.{CostOfPart, Part, is_under, Once, GoesOn, IsWay, ArePassed, parts_cost}
use Rattle.mmdb_check.specs.declared.work.Work.{Work}
use Rattle.mmdb_check.specs.declared.work.Extent.{Extent}

-- the nodes that are under no pointer, and the bytes of the texts among them
abbrev pub own : Values → ℕ
own End = 0
own (ScalarThen n v rest) = suc (n + own rest)
own (PartsThen parts rest) = suc (own parts + own rest)
own (PointerThen a target rest) = suc (own rest)

-- the offset a, and the offsets that the values there lead to
abbrev pub from_offset : ℕ → Values → ℕ → Bool
from_offset a f q = (q == a) || reaches f q

-- the marks m' are the marks m, but for the reached offsets, which are good
pub record Grown (m m' : List ℕ) (reached : ℕ → Bool) : Type 0 where
  pub good : (q : ℕ) → is_good m' q ≡ either (is_good m) reached q
  pub kept : (q : ℕ) → 1 ≤ mark m q → mark m' q ≡ mark m q
  pub under : (q : ℕ) → mark m' q ≡ 1 → mark m q ≡ 1

-- n values below d nesting lie from p to e and have h nesting; the memory grew by what they reach, and the work left
-- went down by theirs and that of the offsets that became good
pub record Passed (s m : List ℕ) (l n p d : ℕ) (m' : List ℕ) (l' e h : ℕ) : Type 0 where
  pub f : Values
  pub many : count f ≡ n
  pub stands : Stand s p f e
  pub texts : Texts f
  pub height : nesting f ≡ h
  pub shallow : d + h ≤ 128
  pub grown : Grown m m' (reaches f)
  pub sound : Sound s m'
  pub spent : l' + own f + work_of s (is_good m') ≡ l + work_of s (is_good m)

-- n values below d nesting are at p that are to be passed
pub record Accepts (s m : List ℕ) (l n p d : ℕ) : Type 0 where
  pub f : Values
  pub e : ℕ
  pub many : count f ≡ n
  pub stands : Stand s p f e
  pub texts : Texts f
  pub shallow : d + nesting f ≤ 128
  pub apart : (q : ℕ) → reaches f q ≡ true → mark m q ≢ 1
  pub affordable : own f + work_of s (either (is_good m) (reaches f)) ≤ l + work_of s (is_good m)

-- the same of the target a of a pointer
pub record Targeted (s m : List ℕ) (l a d : ℕ) (m' : List ℕ) (l' h : ℕ) : Type 0 where
  pub f : Values
  pub e : ℕ
  pub one : count f ≡ 1
  pub stands : Stand s a f e
  pub texts : Texts f
  pub height : nesting f ≡ h
  pub shallow : d + h ≤ 128
  pub grown : Grown m m' (from_offset a f)
  pub sound : Sound s m'
  pub spent : l' + work_of s (is_good m') ≡ l + work_of s (is_good m)

pub record AcceptsTarget (s m : List ℕ) (l a d : ℕ) : Type 0 where
  pub f : Values
  pub e : ℕ
  pub one : count f ≡ 1
  pub stands : Stand s a f e
  pub texts : Texts f
  pub shallow : d + nesting f ≤ 128
  pub apart : (q : ℕ) → from_offset a f q ≡ true → mark m q ≢ 1
  pub affordable : work_of s (either (is_good m) (from_offset a f)) ≤ l + work_of s (is_good m)

-- The same between two memories, where so much was charged that no offset under check was charged for.
pub record Halted (s m : List ℕ) (l cost : ℕ) (m' : List ℕ) (l' : ℕ) : Type 0 where
  pub parts : List Part
  pub passed : ArePassed s parts
  pub once : Once parts
  pub fresh : (q : ℕ) → is_under parts q ≡ true → mark m q ≡ 0
  pub under : (q : ℕ) → is_under parts q ≡ true → mark m' q ≡ 1
  pub kept : (q : ℕ) → 1 ≤ mark m q → mark m' q ≡ mark m q
  pub sound : Sound s m'
  pub spent : l' + (cost + parts_cost parts) + work_of s (is_good m') ≡ l + work_of s (is_good m)

-- the same of the check of the offset p
pub record HaltedAt (s m : List ℕ) (l p : ℕ) (m' : List ℕ) (l' : ℕ) : Type 0 where
  pub rest : Halted s m l 0 m' l'
  pub way : IsWay s ((1 ≤ mark m p) ⊎ (length s ≤ p)) p rest.parts

-- n values from p were being passed
pub record Halts (s m : List ℕ) (l n p : ℕ) (m' : List ℕ) (l' : ℕ) : Type 0 where
  pub cost : ℕ
  pub part : CostOfPart s p n cost
  pub rest : Halted s m l cost m' l'
  pub way : GoesOn s p n cost rest.parts

-- What a check that is under way did to its marks and to the work that is left.

-- it passed n values from p, below d levels, which end and nest as the extent says
abbrev pub PassedValues : Work → Work → ℕ → ℕ → ℕ → Extent → Type 0
PassedValues old new n p d v =
    Passed old.section.now old.marks.items old.left n p d new.marks.items new.left v.end v.height

-- n values begin at p, below d levels, that are to be passed
abbrev pub AcceptsValues : Work → ℕ → ℕ → ℕ → Type 0
AcceptsValues old n p d = Accepts old.section.now old.marks.items old.left n p d

-- it halted while n values from p were being passed
abbrev pub HaltsInValues : Work → Work → ℕ → ℕ → Type 0
HaltsInValues old new n p =
    Halts old.section.now old.marks.items old.left n p new.marks.items new.left

-- the same of the target of a pointer at a
abbrev pub PassedTarget : Work → Work → ℕ → ℕ → ℕ → Type 0
PassedTarget old new a d h =
    Targeted old.section.now old.marks.items old.left a d new.marks.items new.left h

abbrev pub AcceptsTargetAt : Work → ℕ → ℕ → Type 0
AcceptsTargetAt old a d = AcceptsTarget old.section.now old.marks.items old.left a d

abbrev pub HaltsInTarget : Work → Work → ℕ → Type 0
HaltsInTarget old new a =
    HaltedAt old.section.now old.marks.items old.left a new.marks.items new.left
