-- A walk that looks at both halves of a node together: what it has met does not depend on the order.
use Rattle.std.proofs.Common.{◌≡◌, ℕ, ◌+◌, ◌-◌, ◌*◌, ◌<◌, zero, suc, Bool, true, false, not, ◌||◌, ◌==◌, List, [], ◌∷◌, ◌++◌, length, arith, sym, ap, ◌∙◌, refl, subst, append_assoc, length-append, get_or, ◌⊎◌, inl, inr, nat_lt}
use Rattle.std.specs.List.{list_any}
use Rattle.std.proofs.lemmas.List.{append-nil, get_or_append_left}
use Rattle.std.proofs.Math.Seq.{get_or-append_seam}
use Rattle.std.proofs.lemmas.Bool.{cases_lt, not-true}
use Rattle.mmdb_offsets.specs.OffsetSet.{holds}
use Rattle.mmdb_tree.specs.Tree.{step}
use Rattle.mmdb_tree.specs.declared.walked.WalkEnd.TheVariants.{Whole}
use Rattle.mmdb_tree.specs.Stops.{WalkedTree, is_fault, offset_of, most_stops_of, walk_cost_of}
use Rattle.mmdb_tree.specs.Walked.{half_of, IsVerdict}
use Rattle.mmdb_tree.specs.Working.{goes_on_from, end_from, IsPlaced, GoesOn, IsStopped, Keeps, Takes}
use Rattle.mmdb_tree.specs.declared.walked.Point.{Point}
use Rattle.mmdb_tree.specs.declared.record.TreeRecord.{TreeRecord}
use Rattle.mmdb_tree.proofs.Visits.{Visit, visit, with_lead, with_lead-zero, length-lead, visits_below, some_visit, below-node, below-stop, total, cut_visits, offsets_of, has_fault}
use Rattle.mmdb_tree.proofs.Points.{visits_of_stack, visits_of_stack-push, step-node, step-stop, half-placed}
use Rattle.mmdb_tree.proofs.Progress.{all_visits, cut-past, cut-none, cost-is, length-is, fault-is, offsets-are}

-- ---- lists of visits

fault-lead : (lead : ℕ) (vs : List Visit) → has_fault (with_lead lead vs) ≡ has_fault vs
unfolding with_lead has_fault
fault-lead lead [] = refl
fault-lead lead (v ∷ vs) = refl

offsets-lead : (lead : ℕ) (vs : List Visit) → offsets_of (with_lead lead vs) ≡ offsets_of vs
unfolding with_lead offsets_of
offsets-lead lead [] = refl
offsets-lead lead (v ∷ vs) = refl

-- whether an offset is among those of visits
unfoldable pub among : ℕ → List Visit → Bool
among q vs = list_any (λ o. o == q) (offsets_of vs)

or_assoc : (x y z : Bool) → ((x || y) || z) ≡ (x || (y || z))
or_assoc true y z = refl
or_assoc false y z = refl

or_swap : (x y z : Bool) → (x || (y || z)) ≡ (y || (x || z))
or_swap true true z = refl
or_swap true false z = refl
or_swap false true z = refl
or_swap false false z = refl

any-append : {A : Type 0} (f : A → Bool) (xs ys : List A) → list_any f (xs ++ ys) ≡ (list_any f xs || list_any f ys)
any-append f [] ys = refl
any-append f (x ∷ xs) ys = ap (λ b. f x || b) (any-append f xs ys) ∙ sym (or_assoc (f x) (list_any f xs) (list_any f ys))

fault-append : (vs ws : List Visit) → has_fault (vs ++ ws) ≡ (has_fault vs || has_fault ws)
unfolding has_fault
fault-append vs ws = any-append (λ v. is_fault v.end) vs ws

offsets-append : (vs ws : List Visit) → offsets_of (vs ++ ws) ≡ offsets_of vs ++ offsets_of ws
unfolding offsets_of
offsets-append [] ws = refl
offsets-append (v ∷ vs) ws = ap (λ os. offset_of v.end ++ os) (offsets-append vs ws) ∙ sym (append_assoc (offset_of v.end) (offsets_of vs) (offsets_of ws))

among-append : (q : ℕ) (vs ws : List Visit) → among q (vs ++ ws) ≡ (among q vs || among q ws)
unfolding among
among-append q vs ws = ap (list_any (λ o. o == q)) (offsets-append vs ws) ∙ any-append (λ o. o == q) (offsets_of vs) (offsets_of ws)

-- ---- what is left

-- The visits that are left, with those that were met, are all: in number, in faults and in offsets. `nodes` nodes, less
-- one, were passed.
pub record IsSwept (walked : WalkedTree) (points : List Point) (nodes : ℕ) (has : ℕ → Bool) : Type 0 where
  pub count : length (all_visits walked) + length points ≡ length (visits_of_stack walked points) + nodes
  pub faults : has_fault (all_visits walked) ≡ has_fault (visits_of_stack walked points)
  pub keeps : (q : ℕ) → among q (all_visits walked) ≡ (has q || among q (visits_of_stack walked points))

pub swept-start : (walked : WalkedTree) (p : Point) (has : ℕ → Bool) → p.number ≡ 0 → p.high ≡ false → p.prefix ≡ 0 → ((q : ℕ) → has q ≡ false) → IsSwept walked (p ∷ []) 1 has
unfolding visits_of_stack
swept-start walked p has number_is high_is prefix_is none =
    let whole : walked.width - p.prefix ≡ walked.width = omega (arith, prefix_is) in
    let same : visits_of_stack walked (p ∷ []) ≡ all_visits walked = cc in
    record {
      count = omega (arith, ap length same);
      faults = ap has_fault (sym same);
      keeps = λ q. ap (among q) (sym same) ∙ ap (λ b. b || among q (visits_of_stack walked (p ∷ []))) (sym (none q));
    }

pub swept-node : (walked : WalkedTree) (xs : List Point) (p : Point) (nodes : ℕ) (has : ℕ → Bool) → GoesOn walked p → IsSwept walked (xs ++ p ∷ []) nodes has
    → IsSwept walked ((xs ++ half_of walked p true ∷ []) ++ half_of walked p false ∷ []) (nodes + 1) has
unfolding among
swept-node walked xs p nodes has on w =
    let next : List Visit = visits_of_stack walked ((xs ++ half_of walked p true ∷ []) ++ half_of walked p false ∷ []) in
    let same : visits_of_stack walked (xs ++ p ∷ []) ≡ with_lead 1 next = sym (with_lead-zero (visits_of_stack walked (xs ++ p ∷ []))) ∙ step-node walked xs p 0 on in
    record {
      count = omega (arith, w.count, ap length same, length-lead 1 next, length-append xs (p ∷ []), length-append (xs ++ half_of walked p true ∷ []) (half_of walked p false ∷ []), length-append xs (half_of walked p true ∷ []));
      faults = w.faults ∙ ap has_fault same ∙ fault-lead 1 next;
      keeps = λ q. w.keeps q ∙ ap (λ b. has q || b) (ap (among q) same ∙ ap (list_any (λ o. o == q)) (offsets-lead 1 next));
    }

-- the order of two points does not matter
pub swept-swap : (walked : WalkedTree) (xs : List Point) (a b : Point) (nodes : ℕ) (has : ℕ → Bool) → IsSwept walked ((xs ++ a ∷ []) ++ b ∷ []) nodes has → IsSwept walked ((xs ++ b ∷ []) ++ a ∷ []) nodes has
swept-swap walked xs a b nodes has w =
    let va : List Visit = visits_below walked (walked.width - a.prefix) a.number a.high in
    let vb : List Visit = visits_below walked (walked.width - b.prefix) b.number b.high in
    let vs : List Visit = visits_of_stack walked xs in
    let old : visits_of_stack walked ((xs ++ a ∷ []) ++ b ∷ []) ≡ vb ++ (va ++ vs) = visits_of_stack-push walked (xs ++ a ∷ []) b ∙ ap (λ v. vb ++ v) (visits_of_stack-push walked xs a) in
    let new : visits_of_stack walked ((xs ++ b ∷ []) ++ a ∷ []) ≡ va ++ (vb ++ vs) = visits_of_stack-push walked (xs ++ b ∷ []) a ∙ ap (λ v. va ++ v) (visits_of_stack-push walked xs b) in
    let fault3 : (x y z : List Visit) → has_fault (x ++ (y ++ z)) ≡ (has_fault x || (has_fault y || has_fault z)) = (λ x y z. fault-append x (y ++ z) ∙ ap (λ c. has_fault x || c) (fault-append y z)) in
    let among3 : (q : ℕ) (x y z : List Visit) → among q (x ++ (y ++ z)) ≡ (among q x || (among q y || among q z)) = (λ q x y z. among-append q x (y ++ z) ∙ ap (λ c. among q x || c) (among-append q y z)) in
    record {
      count = omega (
        arith,
        w.count,
        ap length old,
        ap length new,
        length-append vb (va ++ vs),
        length-append va vs,
        length-append va (vb ++ vs),
        length-append vb vs,
        length-append (xs ++ a ∷ []) (b ∷ []),
        length-append xs (a ∷ []),
        length-append (xs ++ b ∷ []) (a ∷ []),
        length-append xs (b ∷ []),
      );
      faults = w.faults ∙ ap has_fault old ∙ fault3 vb va vs ∙ or_swap (has_fault vb) (has_fault va) (has_fault vs) ∙ sym (ap has_fault new ∙ fault3 va vb vs);
      keeps = λ q. w.keeps q ∙ ap (λ c. has q || c) (ap (among q) old ∙ among3 q vb va vs ∙ or_swap (among q vb) (among q va) (among q vs) ∙ sym (ap (among q) new ∙ among3 q va vb vs));
    }

fault-first : (end : TreeRecord) (vs : List Visit) → is_fault end ≡ false → has_fault (visit 1 end ∷ vs) ≡ has_fault vs
unfolding has_fault
fault-first end vs fine = rw fine refl

among-first : (q : ℕ) (end : TreeRecord) (vs : List Visit) → among q (visit 1 end ∷ vs) ≡ (list_any (λ o. o == q) (offset_of end) || among q vs)
unfolding among offsets_of
among-first q end vs = any-append (λ o. o == q) (offset_of end) (offsets_of vs)

pub swept-stop : (walked : WalkedTree) (xs : List Point) (p : Point) (nodes : ℕ) (has has' : ℕ → Bool) → IsStopped walked p → is_fault (end_from walked p.number p.high) ≡ false
    → ((q : ℕ) → has' q ≡ (has q || list_any (λ o. o == q) (offset_of (end_from walked p.number p.high))))
    → IsSwept walked (xs ++ p ∷ []) nodes has → IsSwept walked xs nodes has'
swept-stop walked xs p nodes has has' stopped fine adds w =
    let end : TreeRecord = end_from walked p.number p.high in
    let vs : List Visit = visits_of_stack walked xs in
    let same : visits_of_stack walked (xs ++ p ∷ []) ≡ visit 1 end ∷ vs = sym (with_lead-zero (visits_of_stack walked (xs ++ p ∷ []))) ∙ step-stop walked xs p 0 end refl stopped in
    record {
      count = omega (arith, w.count, ap length same, length-append xs (p ∷ []));
      faults = w.faults ∙ ap has_fault same ∙ fault-first end vs fine;
      keeps = λ q. w.keeps q ∙ ap (λ b. has q || b) (ap (among q) same ∙ among-first q end vs) ∙ sym (or_assoc (has q) (list_any (λ o. o == q) (offset_of end)) (among q vs)) ∙ ap (λ b. b || among q vs) (sym (adds q));
    }

-- a point that is taken
pub swept-taken : (walked : WalkedTree) (xs new : List Point) (upper lower : Point) (nodes : ℕ) (old has : List Bool) → Takes walked upper xs new old has
    → IsSwept walked ((xs ++ upper ∷ []) ++ lower ∷ []) nodes (holds old) → IsSwept walked (new ++ lower ∷ []) nodes (holds has)
swept-taken walked xs new upper lower nodes old has (inl (on, pushed, same)) w =
    subst (λ m. IsSwept walked (new ++ lower ∷ []) nodes (holds m)) (sym same) (subst (λ s. IsSwept walked (s ++ lower ∷ []) nodes (holds old)) (sym pushed) w)
swept-taken walked xs new upper lower nodes old has (inr (stopped, fine, same, keeps)) w =
    subst (λ s. IsSwept walked (s ++ lower ∷ []) nodes (holds has)) (sym same) (swept-stop walked (xs ++ lower ∷ []) upper nodes (holds old) (holds has) stopped fine keeps (swept-swap walked xs upper lower nodes (holds old) w))

-- a node whose lower half is a stop
pub swept-both : (walked : WalkedTree) (xs new : List Point) (p lower : Point) (nodes : ℕ) (old mid has : List Bool) → half_of walked p false ≡ lower → GoesOn walked p → Takes walked (half_of walked p true) xs new old mid
    → IsStopped walked lower → true ≡ not (is_fault (end_from walked lower.number lower.high)) → Keeps walked lower mid has → IsSwept walked (xs ++ p ∷ []) nodes (holds old) → IsSwept walked new (nodes + 1) (holds has)
swept-both walked xs new p lower nodes old mid has is on takes stopped fine keeps w =
    let next = swept-taken walked xs new (half_of walked p true) (half_of walked p false) (nodes + 1) old mid takes (swept-node walked xs p nodes (holds old) on w) in
    swept-stop walked new lower (nodes + 1) (holds mid) (holds has) stopped (not-true _ (sym fine)) keeps (subst (λ (l : Point). IsSwept walked (new ++ l ∷ []) (nodes + 1) (holds mid)) is next)

-- ---- the points on the way

-- a point is placed, and the walk goes on below it
pub record IsNode (walked : WalkedTree) (index : ℕ) (p : Point) : Type 0 where
  pub placed : IsPlaced walked index p
  pub on : GoesOn walked p

abbrev pub AreNodes : WalkedTree → List Point → Type 0
AreNodes walked points = (index : ℕ) (d : Point) → index < length points → IsNode walked index (get_or points index d)

module _ (walked : WalkedTree) (xs : List Point) (p : Point) where
  pub AreNodes-front : AreNodes walked (xs ++ p ∷ []) → AreNodes walked xs
  AreNodes-front are index d below = subst (IsNode walked index) (get_or_append_left xs (p ∷ []) d index below) (are index d (omega (arith, length-append xs (p ∷ []))))

  pub AreNodes-top : AreNodes walked (xs ++ p ∷ []) → IsNode walked (length xs) p
  AreNodes-top are = subst (IsNode walked (length xs)) (get_or-append_seam xs p [] p) (are (length xs) p (omega (arith, length-append xs (p ∷ []))))

  pub AreNodes-push : AreNodes walked xs → IsNode walked (length xs) p → AreNodes walked (xs ++ p ∷ [])
  AreNodes-push are top index d below = elim (cases_lt index (length xs)) [
    | inl low ↦ subst (IsNode walked index) (sym (get_or_append_left xs (p ∷ []) d index low)) (are index d low)
    | inr high ↦
        let e : length xs ≡ index = omega (arith, length-append xs (p ∷ [])) in
        subst (λ (i : ℕ). IsNode walked i (get_or (xs ++ p ∷ []) i d)) e (subst (IsNode walked (length xs)) (sym (get_or-append_seam xs p [] d)) top)
  ]

pub node-room : (walked : WalkedTree) (xs : List Point) (p : Point) → AreNodes walked (xs ++ p ∷ []) → length xs < walked.width
node-room walked xs p are =
    let top = AreNodes-top walked xs p are in
    let room = top.placed.room in
    let inner = top.on.inner in
    omega (arith, room, inner)

-- with the upper half taken, and the lower one next
pub nodes-below : (walked : WalkedTree) (xs new : List Point) (p : Point) (old has : List Bool) → Takes walked (half_of walked p true) xs new old has → AreNodes walked (xs ++ p ∷ []) → GoesOn walked (half_of walked p false)
    → AreNodes walked (new ++ half_of walked p false ∷ [])
nodes-below walked xs new p old has takes are on =
    let top = AreNodes-top walked xs p are in
    let front = AreNodes-front walked xs p are in
    let inner = top.on.inner in
    elim takes [
      | inl (goes, pushed, same) ↦
          let upper = AreNodes-push walked xs (half_of walked p true) front (record { placed = half-placed walked (length xs) (length xs) p true (omega arith) top.placed inner; on = goes }) in
          let long = length-append xs (half_of walked p true ∷ []) in
          subst (λ s. AreNodes walked (s ++ half_of walked p false ∷ [])) (sym pushed)
          (AreNodes-push walked (xs ++ half_of walked p true ∷ []) (half_of walked p false) upper (record { placed = half-placed walked (length xs) (length (xs ++ half_of walked p true ∷ [])) p false (omega (arith, long)) top.placed inner; on = on }))
      | inr (stopped, fine, same, keeps) ↦
          subst (λ s. AreNodes walked (s ++ half_of walked p false ∷ [])) (sym same)
          (AreNodes-push walked xs (half_of walked p false) front (record { placed = half-placed walked (length xs) (length xs) p false (omega arith) top.placed inner; on = on }))
    ]

pub nodes-left : (walked : WalkedTree) (xs new : List Point) (p : Point) (old has : List Bool) → Takes walked (half_of walked p true) xs new old has → AreNodes walked (xs ++ p ∷ []) → AreNodes walked new
nodes-left walked xs new p old has takes are =
    let top = AreNodes-top walked xs p are in
    let front = AreNodes-front walked xs p are in
    let inner = top.on.inner in
    elim takes [
      | inl (goes, pushed, same) ↦ subst (AreNodes walked) (sym pushed) (AreNodes-push walked xs (half_of walked p true) front (record { placed = half-placed walked (length xs) (length xs) p true (omega arith) top.placed inner; on = goes }))
      | inr (stopped, fine, same, keeps) ↦ subst (AreNodes walked) (sym same) front
    ]

-- ---- the end

total-append : (vs ws : List Visit) → total (vs ++ ws) ≡ total vs + total ws
unfolding total
total-append [] ws = omega arith
total-append (v ∷ vs) ws = omega (arith, total-append vs ws)

total-lead : (lead : ℕ) (vs : List Visit) → 0 < length vs → total (with_lead lead vs) ≡ lead + total vs
unfolding total with_lead
total-lead lead [] some = absurd (omega arith)
total-lead lead (v ∷ vs) some = omega arith

cases_bool : (b : Bool) → (b ≡ true) ⊎ (b ≡ false)
cases_bool true = inl refl
cases_bool false = inr refl

total-one : (end : TreeRecord) → total (visit 1 end ∷ []) ≡ 1
unfolding total
total-one end = refl

-- each stop but the last takes two positions, and the last one
positions : (walked : WalkedTree) (rest number : ℕ) (high : Bool) → total (visits_below walked rest number high) + 1 ≡ 2 * length (visits_below walked rest number high)
positions walked zero number high =
    let one = below-stop walked zero number high (inl refl) in
    omega (arith, ap total one, ap length one, total-one (end_from walked number high))
positions walked (suc rest) number high = elim (cases_bool (goes_on_from walked number high)) [
  | inr ends ↦
      let one = below-stop walked (suc rest) number high (inr ends) in
      omega (arith, ap total one, ap length one, total-one (end_from walked number high))
  | inl on ↦
      let low : List Visit = visits_below walked rest (step walked.tree number false) high in
      let up : List Visit = visits_below walked rest (step walked.tree number true) (high || nat_lt 31 rest) in
      let both : visits_below walked (suc rest) number high ≡ with_lead 1 low ++ up = below-node walked rest number high on in
      omega (
        arith,
        ap total both,
        ap length both,
        total-append (with_lead 1 low) up,
        length-append (with_lead 1 low) up,
        length-lead 1 low,
        total-lead 1 low (some_visit walked rest (step walked.tree number false) high),
        positions walked rest (step walked.tree number false) high,
        positions walked rest (step walked.tree number true) (high || nat_lt 31 rest),
      )
]

nothing-left : (walked : WalkedTree) → visits_of_stack walked [] ≡ []
unfolding visits_of_stack
nothing-left walked = refl

fault-nothing : has_fault [] ≡ false
unfolding has_fault
fault-nothing = refl

among-nothing : (q : ℕ) → among q [] ≡ false
unfolding among offsets_of
among-nothing q = refl

or_none : (b : Bool) → b ≡ (b || false)
or_none true = refl
or_none false = refl

-- where nothing is left
pub swept-whole : (walked : WalkedTree) (points : List Point) (nodes : ℕ) (set : List Bool) → points ≡ [] → nodes < most_stops_of walked → IsSwept walked points (nodes + 1) (holds set)
    → IsVerdict walked set (2 * nodes + 1) Whole × (2 * nodes + 1 ≡ walk_cost_of walked)
unfolding among
swept-whole walked points nodes set none few w =
    let nothing : visits_of_stack walked points ≡ [] = ap (visits_of_stack walked) none ∙ nothing-left walked in
    let long : length (all_visits walked) ≡ nodes + 1 = omega (arith, w.count, ap length nothing, ap length none) in
    let clean : has_fault (all_visits walked) ≡ false = w.faults ∙ ap has_fault nothing ∙ fault-nothing in
    let kept : (q : ℕ) → holds set q ≡ among q (all_visits walked) = (λ q. or_none (holds set q) ∙ ap (λ b. holds set q || b) (sym (ap (among q) nothing ∙ among-nothing q)) ∙ sym (w.keeps q)) in
    let uncut : cut_visits (suc (most_stops_of walked)) (all_visits walked) ≡ all_visits walked =
    ap (cut_visits (suc (most_stops_of walked))) (sym (append-nil (all_visits walked))) ∙ cut-past (suc (most_stops_of walked)) (all_visits walked) [] clean (omega (arith, long))
    ∙ ap (λ (vs : List Visit). all_visits walked ++ vs) (cut-none (suc (most_stops_of walked) - length (all_visits walked))) ∙ append-nil (all_visits walked) in
    let all = positions walked walked.width 0 false in (
      (
        record { faultless = sym (fault-is walked) ∙ clean; few = omega (arith, long, length-is walked) },
        ((λ q. kept q ∙ ap (λ (os : List ℕ). list_any (λ o. o == q) os) (offsets-are walked)), omega (arith, long, length-is walked)),
      ),
      omega (arith, long, all) ∙ sym (ap total uncut) ∙ cost-is walked,
    )
