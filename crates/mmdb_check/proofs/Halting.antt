-- A check that fails, step by step.
use Rattle.std.proofs.Common.{◌≡◌, ◌≢◌, ◌⊎◌, ℕ, zero, suc, ◌+◌, ◌-◌, ◌*◌, ◌<◌, ◌≤◌, List, [], ◌∷◌, length, Some, Bool, true, ◌==◌, set, map, leb, refl, sym, ◌∙◌, subst, inl, inr, arith}
use Rattle.std.proofs.lemmas.Bool.{or_cases, cases_eq, eqb-true, false≢true}
use Rattle.mmdb_check.specs.declared.inline.Inline.TheVariants.{Scalar, Parts, Pointer}
use Rattle.mmdb_check.specs.Inline.{inline_at}
use Rattle.mmdb_check.specs.Checking.{Costs}
use Rattle.mmdb_offsets.specs.OffsetSet.{holds}
use Rattle.mmdb_check.specs.Values.{Values, End, ScalarThen, PartsThen, PointerThen, Stand, count, work_of}
use Rattle.mmdb_check.specs.Working.{own, Passed, Halted, HaltedAt, Halts}
use Rattle.mmdb_check.specs.Memory.{mark, is_good, Sound, Ready}
use Rattle.mmdb_check.specs.Halting.{Passes, none_passed, scalar_passed, parts_passed, pointer_passed, EndsAtPointer, Part, GoesOn, IsWay, is_under, IsHalted}
use Rattle.mmdb_check.proofs.Checks.{marked}
use Rattle.mmdb_check.proofs.Costs.{cost_is_work, allowed_same, good_allowed}
use Rattle.mmdb_check.proofs.Marks.{mark_same, mark_other, good_when, bad_when, under_work, not_true}
use Rattle.mmdb_check.proofs.Sums.{work_same}

-- ---- parts that were passed

passes_as : (s : List ℕ) (p n q left left' cost cost' : ℕ) → left ≡ left' → cost ≡ cost' → Passes s p n q left cost → Passes s p n q left' cost'
passes_as s p n q left left' cost cost' a b h = subst (λ z. Passes s p n q left' z) b (subst (λ z. Passes s p n q z cost) a h)

-- what was passed of values that are themselves the first to come
passes_more : {s : List ℕ} {a n q left cost : ℕ} → Passes s a n q left cost → (p m r more : ℕ) → Passes s p m a (n + r) more → Passes s p m q (left + r) (more + cost)
passes_more {s = s} {a = a} {n = n} none_passed p m r more h = passes_as s p m a (n + r) (n + r) more (more + 0) refl (omega arith) h
passes_more {s = s} (scalar_passed {q = q} {left = left} {cost = cost} {size = size} {end = end} g e) p m r more h =
    passes_as s p m end (left + r) (left + r) ((more + cost) + suc size) (more + (cost + suc size)) refl (omega arith)
    (scalar_passed (passes_as s p m q (suc left + r) (suc (left + r)) (more + cost) (more + cost) (omega arith) refl (passes_more g p m r more h)) e)
passes_more {s = s} (parts_passed {q = q} {left = left} {cost = cost} {count = count} {start = start} g e) p m r more h =
    passes_as s p m start (count + (left + r)) ((count + left) + r) ((more + cost) + 1) (more + (cost + 1)) (omega arith) (omega arith)
    (parts_passed (passes_as s p m q (suc left + r) (suc (left + r)) (more + cost) (more + cost) (omega arith) refl (passes_more g p m r more h)) e)
passes_more {s = s} (pointer_passed {q = q} {left = left} {cost = cost} {target = target} {end = end} g e) p m r more h =
    passes_as s p m end (left + r) (left + r) ((more + cost) + 1) (more + (cost + 1)) refl (omega arith)
    (pointer_passed (passes_as s p m q (suc left + r) (suc (left + r)) (more + cost) (more + cost) (omega arith) refl (passes_more g p m r more h)) e)

-- whole values
passes_values : (s : List ℕ) (f : Values) (p n q r left cost : ℕ) → Passes s p n q (count f + left) cost → Stand s q f r → Passes s p n r left (cost + own f)
passes_values s End p n q r left cost h st =
    subst (λ z. Passes s p n z left (cost + 0)) st (passes_as s p n q (0 + left) left cost (cost + 0) (omega arith) (omega arith) h)
passes_values s (ScalarThen size v rest) p n q r left cost h (end, e, st) =
    passes_as s p n r left left ((cost + suc size) + own rest) (cost + suc (size + own rest)) refl (omega arith)
    (passes_values s rest p n end r left (cost + suc size) (scalar_passed (passes_as s p n q (suc (count rest) + left) (suc (count rest + left)) cost cost (omega arith) refl h) e) st)
passes_values s (PartsThen parts rest) p n q r left cost h (start, end, e, inner, st) =
    passes_as s p n r left left (((cost + 1) + own parts) + own rest) (cost + suc (own parts + own rest)) refl (omega arith)
    (passes_values s rest p n end r left ((cost + 1) + own parts)
    (passes_values s parts p n start end (count rest + left) (cost + 1) (parts_passed (passes_as s p n q (suc (count rest) + left) (suc (count rest + left)) cost cost (omega arith) refl h) e) inner) st)
passes_values s (PointerThen a target rest) p n q r left cost h (end, k, e, one, there, st) =
    passes_as s p n r left left ((cost + 1) + own rest) (cost + suc (own rest)) refl (omega arith)
    (passes_values s rest p n end r left (cost + 1) (pointer_passed (passes_as s p n q (suc (count rest) + left) (suc (count rest + left)) cost cost (omega arith) refl h) e) st)

-- ---- the way of offsets under check

ends_more : (s : List ℕ) (a n cost t : ℕ) → EndsAtPointer s a n cost t → (p m r more : ℕ) → Passes s p m a (n + r) more → EndsAtPointer s p m (more + cost) t
ends_more s a n cost t (q, left, end, before, g, e, c) p m r more h =
    (q, left + r, end, more + before, passes_as s p m q (suc left + r) (suc (left + r)) (more + before) (more + before) (omega arith) refl (passes_more g p m r more h), e, omega (arith, c))

goes_more : (s : List ℕ) (a n cost : ℕ) (parts : List Part) → GoesOn s a n cost parts → (p m r more : ℕ) → Passes s p m a (n + r) more → GoesOn s p m (more + cost) parts
goes_more s a n cost [] w p m r more h = tt
goes_more s a n cost (x ∷ parts) w p m r more h = (ends_more s a n cost x.offset w.0 p m r more h, w.1)

goes_by : (s : List ℕ) (p a end : ℕ) (A : Type 0) (parts : List Part) → inline_at s p ≡ Some (Pointer a end) → IsWay s A a parts → GoesOn s p 1 (1 + 0) parts
goes_by s p a end A [] e w = tt
goes_by s p a end A (x ∷ parts) e w =
    (subst (λ z. EndsAtPointer s p 1 (1 + 0) z) (sym w.0) (p, 0, end, 0, none_passed, e, refl), w.1)

-- ---- errors

pub halted_here : (s m : List ℕ) (l l' cost : ℕ) → Sound s m → l' + cost ≡ l → Halted s m l cost m l'
halted_here s m l l' cost sound paid = record {
  parts = [];
  passed = tt;
  once = tt;
  fresh = λ q h. absurd (false≢true h);
  under = λ q h. absurd (false≢true h);
  kept = λ q k. refl;
  sound = sound;
  spent = omega (arith, paid);
}

-- nothing was passed
pub halts_first : (s m : List ℕ) (l n p : ℕ) (m' : List ℕ) (l' : ℕ) → Sound s m → m' ≡ m → l' ≡ l → Halts s m l n p m' l'
unfolding halted_here
halts_first s m l n p m' l' sound em el =
    subst (λ z. Halts s m l n p z l') (sym em) (record { cost = 0; part = (p, n, none_passed); rest = halted_here s m l l' 0 sound (omega (arith, el)); way = tt })

module _ (s s' m m' : List ℕ) (l l' p : ℕ) (es : s' ≡ s) (em : m' ≡ m) where
  paid_more : (m1 : List ℕ) (l1 cost more : ℕ) → l' + more ≡ l → Halted s m l' cost m1 l1 → Halted s m l (more + cost) m1 l1
  paid_more m1 l1 cost more paid w = record {
    parts = w.parts;
    passed = w.passed;
    once = w.once;
    fresh = w.fresh;
    under = w.under;
    kept = w.kept;
    sound = w.sound;
    spent = omega (arith, w.spent, paid);
  }

  -- a scalar was charged, and failed for its text
  pub halts_scalar : (size end : ℕ) (v : Bool) → Sound s m → inline_at s p ≡ Some (Scalar size v end) → l' + (1 + size) ≡ l → Halts s m l 1 p m' l'
  unfolding halted_here
  halts_scalar size end v sound e paid =
      subst (λ z. Halts s m l 1 p z l') (sym em)
      (record {
        cost = 0 + suc size;
        part = (end, 0, scalar_passed none_passed e);
        rest = halted_here s m l l' (0 + suc size) sound (omega (arith, paid));
        way = tt;
      })

  -- a container was charged, and is too deep
  pub halts_at_parts : (n a : ℕ) → Sound s m → inline_at s p ≡ Some (Parts n a) → l' + (1 + 0) ≡ l → Halts s m l 1 p m' l'
  unfolding halted_here
  halts_at_parts n a sound e paid =
      subst (λ z. Halts s m l 1 p z l') (sym em)
      (record { cost = 0 + 1; part = (a, n + 0, parts_passed none_passed e); rest = halted_here s m l l' (0 + 1) sound (omega (arith, paid)); way = tt })

  pub halts_at_pointer : (a end : ℕ) → Sound s m → inline_at s p ≡ Some (Pointer a end) → l' + (1 + 0) ≡ l → Halts s m l 1 p m' l'
  unfolding halted_here
  halts_at_pointer a end sound e paid =
      subst (λ z. Halts s m l 1 p z l') (sym em)
      (record { cost = 0 + 1; part = (end, 0, pointer_passed none_passed e); rest = halted_here s m l l' (0 + 1) sound (omega (arith, paid)); way = tt })

  -- among its parts
  pub halts_parts : (n a : ℕ) (m1 : List ℕ) (l1 : ℕ) → inline_at s p ≡ Some (Parts n a) → l' + (1 + 0) ≡ l → Halts s' m' l' n a m1 l1 → Halts s m l 1 p m1 l1
  unfolding paid_more
  halts_parts n a m1 l1 e paid w0 =
      let w : Halts s m l' n a m1 l1 = subst (λ z. Halts s z l' n a m1 l1) em (subst (λ z. Halts z m' l' n a m1 l1) es w0) in
      record {
        cost = 1 + w.cost;
        part = (w.part.0, w.part.1 + 0, passes_more w.part.2 p 1 0 1 (passes_as s p 1 a (n + 0) (n + 0) (0 + 1) 1 refl (omega arith) (parts_passed none_passed e)));
        rest = paid_more m1 l1 w.cost 1 (omega (arith, paid)) w.rest;
        way = goes_more s a n w.cost w.rest.parts w.way p 1 0 1 (passes_as s p 1 a (n + 0) (n + 0) (0 + 1) 1 refl (omega arith) (parts_passed none_passed e));
      }

  -- at its target
  pub halts_pointer : (a end : ℕ) (m1 : List ℕ) (l1 : ℕ) → inline_at s p ≡ Some (Pointer a end) → l' + (1 + 0) ≡ l → HaltedAt s' m' l' a m1 l1 → Halts s m l 1 p m1 l1
  unfolding paid_more
  halts_pointer a end m1 l1 e paid w0 =
      let w : HaltedAt s m l' a m1 l1 = subst (λ z. HaltedAt s z l' a m1 l1) em (subst (λ z. HaltedAt z m' l' a m1 l1) es w0) in
      record {
        cost = 1 + 0;
        part = (end, 0, passes_as s p 1 end 0 0 (0 + 1) (1 + 0) refl (omega arith) (pointer_passed none_passed e));
        rest = paid_more m1 l1 0 1 (omega (arith, paid)) w.rest;
        way = goes_by s p a end _ w.rest.parts e w.way;
      }

-- after values that were passed
pub halts_after : (s s' m m1 : List ℕ) (l n i p d l1 k h : ℕ) (m2 : List ℕ) (l2 : ℕ) → s' ≡ s → i < n → Passed s m l i p d m1 l1 k h → Halts s' m1 l1 1 k m2 l2 → Halts s m l n p m2 l2
halts_after s s' m m1 l n i p d l1 k h m2 l2 es lt a w0 =
    let w : Halts s m1 l1 1 k m2 l2 = subst (λ z. Halts z m1 l1 1 k m2 l2) es w0 in
    let r : ℕ = n - (i + 1) in
    let whole : Passes s p n k (1 + r) (0 + own a.f) =
    passes_values s a.f p n p k (1 + r) 0 (passes_as s p n p n (count a.f + (1 + r)) 0 0 (omega (arith, a.many, lt)) refl none_passed) a.stands in
    record {
      cost = own a.f + w.cost;
      part = (w.part.0, w.part.1 + r, passes_more w.part.2 p n r (own a.f) (passes_as s p n k (1 + r) (1 + r) (0 + own a.f) (own a.f) refl (omega arith) whole));
      rest = record {
        parts = w.rest.parts;
        passed = w.rest.passed;
        once = w.rest.once;
        fresh = λ q u. fresh_before (mark m q) (mark m1 q) (a.grown.kept q) (w.rest.fresh q u);
        under = w.rest.under;
        kept = λ q u. (let y : mark m1 q ≡ mark m q = a.grown.kept q u in w.rest.kept q (omega arith) ∙ y);
        sound = w.rest.sound;
        spent = omega (arith, w.rest.spent, a.spent);
      };
      way = goes_more s k 1 w.cost w.rest.parts w.way p n r (own a.f) (passes_as s p n k (1 + r) (1 + r) (0 + own a.f) (own a.f) refl (omega arith) whole);
    }
  where
    fresh_before : (x y : ℕ) → (1 ≤ x → y ≡ x) → y ≡ 0 → x ≡ 0
    fresh_before zero y kept none = refl
    fresh_before (suc x) y kept none = let e : y ≡ suc x = kept (omega arith) in omega arith

-- below a target that was put under check
halted_below : (s m : List ℕ) (l a : ℕ) (m1 : List ℕ) (l1 : ℕ) → Sound s m → mark m a ≡ 0 → a < length s → Halts s (set m a 1) l 1 a m1 l1 → Halted s m l 0 m1 l1
halted_below s m l a m1 l1 sound unseen inside w =
    let long : a < length m = omega (arith, inside, sound.len) in
    let here : mark (set m a 1) a ≡ 1 = mark_same m a 1 long in
    record {
      parts = record { offset = a; cost = w.cost } ∷ w.rest.parts;
      passed = (w.part, w.rest.passed);
      once = (not_true (is_under w.rest.parts a) (λ u. let none = w.rest.fresh a u in omega (arith, here, none)), w.rest.once);
      fresh = λ q u. elim (or_cases (q == a) (is_under w.rest.parts q) u) [
        | inl e ↦ subst (λ z. mark m z ≡ 0) (sym (eqb-true q a e)) unseen
        | inr v ↦ elim (cases_eq q a) [
          | inl e ↦ subst (λ z. mark m z ≡ 0) (sym e) unseen
          | inr ne ↦ sym (mark_other m a 1 q ne) ∙ w.rest.fresh q v
        ]
      ];
      under = λ q u. elim (or_cases (q == a) (is_under w.rest.parts q) u) [
        | inl e ↦ subst (λ z. mark m1 z ≡ 1) (sym (eqb-true q a e)) (w.rest.kept a (omega (arith, here)) ∙ here)
        | inr v ↦ w.rest.under q v
      ];
      kept = λ q u. elim (cases_eq q a) [
        | inl e ↦ absurd (let none : mark m q ≡ 0 = subst (λ z. mark m z ≡ 0) (sym e) unseen in omega (arith, u, none))
        | inr ne ↦ (let same = mark_other m a 1 q ne in w.rest.kept q (omega (arith, u, same)) ∙ same)
      ];
      sound = w.rest.sound;
      spent = omega (arith, w.rest.spent, under_work s m a sound unseen inside);
    }

pub halted_target : (s m : List ℕ) (l a : ℕ) (m1 : List ℕ) (l1 : ℕ) → Sound s m → mark m a ≡ 0 → a < length s → Halts s (set m a 1) l 1 a m1 l1 → HaltedAt s m l a m1 l1
unfolding halted_below
halted_target s m l a m1 l1 sound unseen inside w = record { rest = halted_below s m l a m1 l1 sound unseen inside w; way = (refl, w.way) }

-- nothing was done at a target that is known, or outside of the section
pub halted_at_once : (s m : List ℕ) (l a : ℕ) (m' : List ℕ) (l' : ℕ) → Sound s m → m' ≡ m → l' ≡ l → (1 ≤ mark m a) ⊎ (length s ≤ a) → HaltedAt s m l a m' l'
unfolding halted_here
halted_at_once s m l a m' l' sound em el why =
    subst (λ z. HaltedAt s m l a z l') (sym em) (record { rest = halted_here s m l l' 0 sound (omega (arith, el)); way = why })

-- ---- from outside

way_out : (s : List ℕ) (A B : Type 0) (p : ℕ) (parts : List Part) → (A → B) → IsWay s A p parts → IsWay s B p parts
way_out s A B p [] f w = f w
way_out s A B p (x ∷ parts) f w = w

-- an offset that is known, and is not under check, is good
known_good : (s m m1 : List ℕ) (p : ℕ) → (mark m p ≢ 1) → (1 ≤ mark m p → mark m1 p ≡ mark m p) → (1 ≤ mark m p) ⊎ (length s ≤ p) → (holds (map (leb 2) m1) p ≡ true) ⊎ (length s ≤ p)
known_good s m m1 p idle kept (inl seen) =
    inl (marked m1 p ∙ good_when m1 p (mark m1 p) refl (let same = kept seen in let other : 2 ≤ mark m p = omega (arith, idle, seen) in omega (arith, same, other)))
known_good s m m1 p idle kept (inr out) = inr out

pub is_halted : (s m s1 : List ℕ) (l : ℕ) (m1 : List ℕ) (l1 : ℕ) → s1 ≡ s → Ready s m l → (p : ℕ) → HaltedAt s m l p m1 l1 → IsHalted s1 (holds (map (leb 2) m1)) p (8 * length s1 - l1)
is_halted s m s1 l m1 l1 es ready p halted = let w = halted.rest in subst (λ z. IsHalted z (holds (map (leb 2) m1)) p (8 * length z - l1)) (sym es) (record {
  parts = w.parts;
  way = way_out s _ _ p w.parts (known_good s m m1 p (ready.idle p) (w.kept p)) halted.way;
  passed = w.passed;
  once = w.once;
  under = λ q u. marked m1 q ∙ bad_when m1 q 1 (w.under q u) (omega arith);
  cost = work_of s (is_good m1);
  good_cost = costs;
  total = omega (arith, w.spent, ready.spent);
})
  where
    costs : Costs s (holds (map (leb 2) m1)) (work_of s (is_good m1))
    costs =
        let allowed = allowed_same s (is_good m1) (holds (map (leb 2) m1)) (λ q. sym (marked m1 q)) (good_allowed s m1 halted.rest.sound (omega (arith, halted.rest.spent, ready.spent))) in
        let cost = cost_is_work s (holds (map (leb 2) m1)) allowed.trees allowed.each (length s) in
        let same = work_same s (is_good m1) (holds (map (leb 2) m1)) (λ q. sym (marked m1 q)) in
        record { trees = allowed.trees; each = allowed.each; total = omega (arith, cost, same) }
