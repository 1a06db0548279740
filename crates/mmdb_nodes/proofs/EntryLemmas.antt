-- Entries in order, those of a whole block, and the values that addresses have.
use Rattle.std.proofs.Common.{◌≡◌, ℕ, suc, zero, ◌+◌, ◌^◌, ◌<◌, ◌≤◌, inl, inr, Bool, true, false, cond, List, [], ◌∷◌, ◌++◌, Option, length, drop, take, get_or, refl, ap, sym, arith, subst, length-drop, length-take, get_or-take, get_or-drop}
use Rattle.std.specs.List.{AllByRecursion}
use Rattle.std.proofs.lemmas.Bool.{cases_lt}
use Rattle.std.proofs.lemmas.Bool.Decides.{nat_tests}
use Rattle.std.proofs.lemmas.List.Elements.{recursion_from_All}
use Rattle.std.specs.Option.{IfSome}
use Rattle.std.specs.List.Sorted.{IsNonDecreasingBy}
use Rattle.std.proofs.Math.Pow.{pow-lt}
use Rattle.mmdb_nodes.specs.declared.entry.NodeEntry.{NodeEntry}
use Rattle.mmdb_nodes.specs.declared.entry.IpVersion.{IpVersion}
use Rattle.mmdb_blocks.specs.Blocks.{end}
use Rattle.mmdb_nodes.specs.Entries.{has, offset_after, ComesBefore, IsOrdered, block_of, width, IsEntry}
use Rattle.mmdb_nodes.specs.Working.{IsInside, IsSmaller, HasOffsetBelow, IsUnder, free_bits}

-- ---- which value

pub offset_after-append : (found : Option ℕ) (xs ys : List NodeEntry) (a : ℕ) → offset_after found (xs ++ ys) a ≡ offset_after (offset_after found xs a) ys a
offset_after-append found [] ys a = refl
offset_after-append found (x ∷ xs) ys a = offset_after-append (cond (has x a) (x.offset) found) xs ys a

pub offset_after-none : (found : Option ℕ) (es : List NodeEntry) (a : ℕ) → AllByRecursion (λ e. has e a ≡ false) es → offset_after found es a ≡ found
offset_after-none found [] a h = refl
offset_after-none found (e ∷ es) a h = rw h.0 (offset_after-none found es a h.1)

pub has-true : (e : NodeEntry) (a : ℕ) → e.first ≤ a → a < end (block_of e) → has e a ≡ true
has-true e a h k = grind (arith, nat_tests)

pub has-before : (e : NodeEntry) (a : ℕ) → a < e.first → has e a ≡ false
has-before e a h = grind (arith, nat_tests)

pub has-after : (e : NodeEntry) (a : ℕ) → end (block_of e) ≤ a → has e a ≡ false
has-after e a h = grind (arith, nat_tests)

-- an entry for the whole block has each address of it
pub own_holds : (first free a : ℕ) (e : NodeEntry) → IsInside first free e → free_bits e ≡ free → a < 2 ^ free → has e (first + a) ≡ true
own_holds first free a e i same lt =
    let p : 2 ^ free_bits e ≡ 2 ^ free = ap (λ (n : ℕ). 2 ^ n) same in
    let to = i.to in let from = i.from in
    has-true e (first + a) (omega arith) (omega arith)

-- ---- order

pub ordered-drop : (n : ℕ) (es : List NodeEntry) → IsOrdered es → IsOrdered (drop n es)
ordered-drop zero es h = h
ordered-drop (suc n) [] h = tt
ordered-drop (suc n) (e ∷ es) h = ordered-drop n es h.1

pub all-take : (P : NodeEntry → Type 0) (n : ℕ) (es : List NodeEntry) → AllByRecursion P es → AllByRecursion P (take n es)
all-take P zero es h = tt
all-take P (suc n) [] h = tt
all-take P (suc n) (e ∷ es) h = (h.0, all-take P n es h.1)

pub ordered-take : (n : ℕ) (es : List NodeEntry) → IsOrdered es → IsOrdered (take n es)
ordered-take zero es h = tt
ordered-take (suc n) [] h = tt
ordered-take (suc n) (e ∷ es) h = (all-take (ComesBefore e) n es h.0, ordered-take n es h.1)

pub all-drop : (P : NodeEntry → Type 0) (n : ℕ) (es : List NodeEntry) → AllByRecursion P es → AllByRecursion P (drop n es)
all-drop P zero es h = h
all-drop P (suc n) [] h = tt
all-drop P (suc n) (e ∷ es) h = all-drop P n es h.1

-- what is after an entry that is no whole block is none either
smaller_behind : (first free : ℕ) (e f : NodeEntry) → IsInside first free e → IsInside first free f → free_bits e < free → ComesBefore e f → free_bits f < free
smaller_behind first free e f i j lt (inl before) = elim (cases_lt (free_bits f) free) [
  | inl small ↦ small
  | inr large ↦
      let same : free_bits f ≡ free = (let s = j.small in omega arith) in
      let p : 2 ^ free_bits f ≡ 2 ^ free = ap (λ (n : ℕ). 2 ^ n) same in
      let a = j.to in let b = i.from in
      absurd (omega arith)
]
smaller_behind first free e f i j lt (inr same) = omega (arith, same.1)

all_smaller_behind : (first free : ℕ) (e : NodeEntry) (es : List NodeEntry) → IsInside first free e → free_bits e < free → AllByRecursion (IsInside first free) es → AllByRecursion (ComesBefore e) es → AllByRecursion (IsSmaller free) es
all_smaller_behind first free e [] i lt all before = tt
all_smaller_behind first free e (f ∷ fs) i lt all before = (smaller_behind first free e f i all.0 lt before.0, all_smaller_behind first free e fs i lt all.1 before.1)

pub all_smaller : (first free : ℕ) (es : List NodeEntry) (d : NodeEntry) → IsOrdered es → AllByRecursion (IsInside first free) es → 0 < length es → free_bits (get_or es 0 d) < free → AllByRecursion (IsSmaller free) es
all_smaller first free [] d o all some lt = tt
all_smaller first free (e ∷ es) d o all some lt = (lt, all_smaller_behind first free e es all.0 lt all.1 o.0)

-- ---- cuts

all_at_least : (e : NodeEntry) (es : List NodeEntry) (j : ℕ) (d : NodeEntry) → AllByRecursion (ComesBefore e) es → j < length es → e.first ≤ (get_or es j d).first
all_at_least e [] j d h lt = absurd (omega arith)
all_at_least e (f ∷ fs) zero d h lt = elim h.0 [ inl before ↦ omega arith | inr same ↦ omega (arith, same.0) ]
all_at_least e (f ∷ fs) (suc j) d h lt = all_at_least e fs j d h.1 (omega arith)

pub firsts_rise : (es : List NodeEntry) → IsOrdered es → IsNonDecreasingBy (λ (e : NodeEntry). e.first) es
firsts_rise [] o i j d le lt = absurd (omega arith)
firsts_rise (e ∷ es) o zero zero d le lt = omega arith
firsts_rise (e ∷ es) o zero (suc j) d le lt = all_at_least e es j d o.0 (omega arith)
firsts_rise (e ∷ es) o (suc i) zero d le lt = absurd (omega arith)
firsts_rise (e ∷ es) o (suc i) (suc j) d le lt = firsts_rise es o.1 i j d (omega arith) (omega arith)

module _ (P : NodeEntry → Type 0) (es : List NodeEntry) (n : ℕ) where
  pub all_front : n ≤ length es → ((k : ℕ) (d : NodeEntry) → k < n → P (get_or es k d)) → AllByRecursion P (take n es)
  all_front fits h = recursion_from_All P (take n es) (λ k d lt.
      let l : k < n = omega (arith, length-take n es) in
      subst P (sym (get_or-take n es k d l)) (h k d l))

  pub all_back : n ≤ length es → ((k : ℕ) (d : NodeEntry) → n ≤ k → k < length es → P (get_or es k d)) → AllByRecursion P (drop n es)
  all_back fits h = recursion_from_All P (drop n es) (λ k d lt.
      subst P (sym (get_or-drop n es k d)) (h (n + k) d (omega arith) (omega (arith, length-drop n es))))

-- ---- bounds of values

pub offset_below : (bound : ℕ) (found : Option ℕ) (es : List NodeEntry) (a : ℕ) → AllByRecursion (HasOffsetBelow bound) es → IfSome found (IsUnder bound) → IfSome (offset_after found es a) (IsUnder bound)
offset_below bound found [] a all given = given
offset_below bound found (e ∷ es) a all given =
    let next : IfSome (cond (has e a) (e.offset) found) (IsUnder bound) = elim (has e a) as (λ (b : Bool). IfSome (cond b (e.offset) found) (IsUnder bound)) [ true ↦ all.0 | false ↦ given ] in
    offset_below bound (cond (has e a) (e.offset) found) es a all.1 next

-- ---- entries of a whole tree

wide_enough : (w : ℕ) (e : NodeEntry) → end (block_of e) ≤ 2 ^ w → free_bits e ≤ w
wide_enough w e to = elim (cases_lt w (free_bits e)) [
  | inl more ↦ let p = pow-lt more in absurd (omega arith)
  | inr fits ↦ fits
]

pub all_inside : (version : IpVersion) (data_len : ℕ) (es : List NodeEntry) → AllByRecursion (IsEntry version data_len) es → AllByRecursion (IsInside 0 (width version)) es
all_inside version data_len [] all = tt
all_inside version data_len (e ∷ es) all = (
  record {
    from = omega arith;
    to = (let t = all.0.within in omega arith);
    small = wide_enough (width version) e all.0.within;
    aligned = all.0.block.aligned;
    prefix = all.0.block.prefix;
  },
  all_inside version data_len es all.1,
)

pub all_below : (version : IpVersion) (data_len : ℕ) (es : List NodeEntry) → AllByRecursion (IsEntry version data_len) es → AllByRecursion (HasOffsetBelow data_len) es
all_below version data_len [] all = tt
all_below version data_len (e ∷ es) all = (all.0.offset, all_below version data_len es all.1)

-- ---- neighbours in order

before_all : (d e f : NodeEntry) → ComesBefore d e → ComesBefore e f → ComesBefore d f
before_all d e f (inl h) (inl k) = inl (omega arith)
before_all d e f (inl h) (inr k) = inl (omega (arith, k.0))
before_all d e f (inr h) (inl k) = inl (omega (arith, h.0))
before_all d e f (inr h) (inr k) = inr (omega (arith, h.0, k.0), omega (arith, h.1, k.1))

one_more_behind : (d : NodeEntry) (es : List NodeEntry) (i : ℕ) (x : NodeEntry) → AllByRecursion (ComesBefore d) (take (suc i) es) → suc i < length es → ComesBefore (get_or es i x) (get_or es (suc i) x) → AllByRecursion (ComesBefore d) (take (suc (suc i)) es)
one_more_behind d [] i x all lt next = absurd (omega arith)
one_more_behind d (e ∷ []) i x all lt next = absurd (omega arith)
one_more_behind d (e ∷ f ∷ es) zero x all lt next = (all.0, (before_all d e f all.0 next, tt))
one_more_behind d (e ∷ f ∷ es) (suc i) x all lt next = (all.0, one_more_behind d (f ∷ es) i x all.1 (omega arith) next)

pub one_more_ordered : (es : List NodeEntry) (i : ℕ) (x : NodeEntry) → IsOrdered (take (suc i) es) → suc i < length es → ComesBefore (get_or es i x) (get_or es (suc i) x) → IsOrdered (take (suc (suc i)) es)
one_more_ordered [] i x o lt next = absurd (omega arith)
one_more_ordered (e ∷ []) i x o lt next = absurd (omega arith)
one_more_ordered (e ∷ f ∷ es) zero x o lt next = ((next, tt), (tt, tt))
one_more_ordered (e ∷ f ∷ es) (suc i) x o lt next = (one_more_behind e (f ∷ es) i x o.0 (omega arith) next, one_more_ordered (f ∷ es) i x o.1 (omega arith) next)

pub neighbours : (es : List NodeEntry) (i : ℕ) (x : NodeEntry) → IsOrdered es → suc i < length es → ComesBefore (get_or es i x) (get_or es (suc i) x)
neighbours [] i x o lt = absurd (omega arith)
neighbours (e ∷ []) i x o lt = absurd (omega arith)
neighbours (e ∷ f ∷ es) zero x o lt = o.0.0
neighbours (e ∷ f ∷ es) (suc i) x o lt = neighbours (f ∷ es) i x o.1 (omega arith)

pub one_more_holds : (P : NodeEntry → Type 0) (es : List NodeEntry) (i : ℕ) (x : NodeEntry) → AllByRecursion P (take i es) → i < length es → P (get_or es i x) → AllByRecursion P (take (i + 1) es)
one_more_holds P [] i x all lt here = absurd (omega arith)
one_more_holds P (e ∷ es) zero x all lt here = (here, tt)
one_more_holds P (e ∷ es) (suc i) x all lt here =
    let next : suc i + 1 ≡ suc (i + 1) = omega arith in
    subst (λ (n : ℕ). AllByRecursion P (take n (e ∷ es))) (sym next) (all.0, one_more_holds P es i x all.1 (omega arith) here)
