-- How many stops are left of a walk that looks at both halves of a node together.
use Rattle.std.proofs.Common.{◌≡◌, ℕ, ◌+◌, ◌-◌, ◌<◌, ◌≤◌, nat_le, Bool, true, false, List, [], ◌∷◌, ◌++◌, length, arith, sym, ap, ◌∙◌, refl, subst, length-append, ◌⊎◌, inl, inr}
use Rattle.std.proofs.lemmas.Bool.{le-leb, lt-leb}
use Rattle.mmdb_tree.specs.Tree.{walk}
use Rattle.mmdb_tree.specs.Stops.{WalkedTree, stops_below}
use Rattle.mmdb_tree.specs.Walked.{half_of}
use Rattle.mmdb_tree.specs.Working.{goes_on_from, GoesOn, IsStopped, IsPointAt, IsFewFrom, Puts, end_from}
use Rattle.mmdb_tree.specs.declared.walked.Point.{Point}
use Rattle.mmdb_tree.proofs.Visits.{Visit, with_lead, with_lead-zero, length-lead, length-below, visits_below, some_visit, below-stop}
use Rattle.mmdb_tree.proofs.HighBits.{high-is}
use Rattle.mmdb_tree.proofs.Points.{visits_of_stack, visits_of_stack-push, step-node, step-stop, half-placed}
use Rattle.mmdb_tree.proofs.Sweeps.{AreNodes, AreNodes-top, AreNodes-front, AreNodes-push}

-- All stops are those below the points, less one for each point, and one for each node that was passed: `nodes` less one.
abbrev pub IsCounted : WalkedTree → List Point → ℕ → ℕ → Type 0
IsCounted walked points nodes all = all + length points ≡ length (visits_of_stack walked points) + nodes

pub counted-start : (walked : WalkedTree) (p : Point) → IsCounted walked (p ∷ []) 1 (length (visits_below walked (walked.width - p.prefix) p.number p.high))
unfolding visits_of_stack
counted-start walked p = omega arith

counted-node : (walked : WalkedTree) (xs : List Point) (p : Point) (nodes all : ℕ) → GoesOn walked p → IsCounted walked (xs ++ p ∷ []) nodes all
    → IsCounted walked ((xs ++ half_of walked p true ∷ []) ++ half_of walked p false ∷ []) (nodes + 1) all
counted-node walked xs p nodes all on w =
    let next : List Visit = visits_of_stack walked ((xs ++ half_of walked p true ∷ []) ++ half_of walked p false ∷ []) in
    let same : visits_of_stack walked (xs ++ p ∷ []) ≡ with_lead 1 next = sym (with_lead-zero (visits_of_stack walked (xs ++ p ∷ []))) ∙ step-node walked xs p 0 on in
    omega (arith, w, ap length same, length-lead 1 next, length-append xs (p ∷ []), length-append (xs ++ half_of walked p true ∷ []) (half_of walked p false ∷ []), length-append xs (half_of walked p true ∷ []))

counted-stop : (walked : WalkedTree) (xs : List Point) (p : Point) (nodes all : ℕ) → IsStopped walked p → IsCounted walked (xs ++ p ∷ []) nodes all → IsCounted walked xs nodes all
counted-stop walked xs p nodes all stopped w =
    let same = sym (with_lead-zero (visits_of_stack walked (xs ++ p ∷ []))) ∙ step-stop walked xs p 0 (end_from walked p.number p.high) refl stopped in
    omega (arith, w, ap length same, length-append xs (p ∷ []))

length-two : (walked : WalkedTree) (xs : List Point) (p q : Point)
    → length (visits_of_stack walked ((xs ++ p ∷ []) ++ q ∷ [])) ≡ length (visits_below walked (walked.width - q.prefix) q.number q.high) + length (visits_below walked (walked.width - p.prefix) p.number p.high) + length (visits_of_stack walked xs)
length-two walked xs p q =
    let vp : List Visit = visits_below walked (walked.width - p.prefix) p.number p.high in
    let vq : List Visit = visits_below walked (walked.width - q.prefix) q.number q.high in
    omega (
      arith,
      ap length (visits_of_stack-push walked (xs ++ p ∷ []) q),
      length-append vq (visits_of_stack walked (xs ++ p ∷ [])),
      ap length (visits_of_stack-push walked xs p),
      length-append vp (visits_of_stack walked xs),
    )

counted-swap : (walked : WalkedTree) (xs : List Point) (p q : Point) (nodes all : ℕ) → IsCounted walked ((xs ++ p ∷ []) ++ q ∷ []) nodes all → IsCounted walked ((xs ++ q ∷ []) ++ p ∷ []) nodes all
counted-swap walked xs p q nodes all w = omega (
  arith,
  w,
  length-two walked xs p q,
  length-two walked xs q p,
  length-append (xs ++ p ∷ []) (q ∷ []),
  length-append xs (p ∷ []),
  length-append (xs ++ q ∷ []) (p ∷ []),
  length-append xs (q ∷ []),
)

counted-put : (walked : WalkedTree) (xs new : List Point) (upper lower : Point) (nodes all : ℕ) → Puts walked upper xs new → IsCounted walked ((xs ++ upper ∷ []) ++ lower ∷ []) nodes all → IsCounted walked (new ++ lower ∷ []) nodes all
counted-put walked xs new upper lower nodes all (inl (on, pushed)) w = subst (λ s. IsCounted walked (s ++ lower ∷ []) nodes all) (sym pushed) w
counted-put walked xs new upper lower nodes all (inr (stopped, same)) w =
    subst (λ s. IsCounted walked (s ++ lower ∷ []) nodes all) (sym same) (counted-stop walked (xs ++ lower ∷ []) upper nodes all stopped (counted-swap walked xs upper lower nodes all w))

-- a node of which the lower half is next, or has stopped
pub counted-on : (walked : WalkedTree) (xs new : List Point) (p : Point) (nodes all : ℕ) → GoesOn walked p → Puts walked (half_of walked p true) xs new → IsCounted walked (xs ++ p ∷ []) nodes all
    → IsCounted walked (new ++ half_of walked p false ∷ []) (nodes + 1) all
counted-on walked xs new p nodes all on puts w = counted-put walked xs new (half_of walked p true) (half_of walked p false) (nodes + 1) all puts (counted-node walked xs p nodes all on w)

pub counted-both : (walked : WalkedTree) (xs new : List Point) (p : Point) (nodes all : ℕ) → GoesOn walked p → Puts walked (half_of walked p true) xs new → IsStopped walked (half_of walked p false) → IsCounted walked (xs ++ p ∷ []) nodes all
    → IsCounted walked new (nodes + 1) all
counted-both walked xs new p nodes all on puts stopped w = counted-stop walked new (half_of walked p false) (nodes + 1) all stopped (counted-on walked xs new p nodes all on puts w)

-- nothing is left
pub counted-none : (walked : WalkedTree) (points : List Point) (nodes all : ℕ) → points ≡ [] → IsCounted walked points nodes all → all ≡ nodes
unfolding visits_of_stack
counted-none walked points nodes all none w = let empty : IsCounted walked [] nodes all = subst (λ s. IsCounted walked s nodes all) none w in omega (arith, empty)

-- each point has a stop below it, and a node two
few-below : (walked : WalkedTree) (points : List Point) → length points ≤ length (visits_of_stack walked points)
unfolding visits_of_stack
few-below walked [] = omega arith
few-below walked (p ∷ points) = omega (arith, few-below walked points, length-append (visits_of_stack walked points) (visits_below walked (walked.width - p.prefix) p.number p.high), some_visit walked (walked.width - p.prefix) p.number p.high)

pub counted-many : (walked : WalkedTree) (xs : List Point) (p : Point) (nodes all : ℕ) → GoesOn walked p → IsCounted walked (xs ++ p ∷ []) nodes all → nodes < all
counted-many walked xs p nodes all on w =
    let halves : List Point = (xs ++ half_of walked p true ∷ []) ++ half_of walked p false ∷ [] in
    omega (arith, counted-node walked xs p nodes all on w, few-below walked halves)

-- ---- the points stay nodes

module _ (walked : WalkedTree) (xs new : List Point) (p : Point) (puts : Puts walked (half_of walked p true) xs new) (are : AreNodes walked (xs ++ p ∷ [])) where
  pub nodes-put : AreNodes walked new
  nodes-put =
      let top = AreNodes-top walked xs p are in
      let front = AreNodes-front walked xs p are in
      let inner = top.on.inner in
      elim puts [
        | inl (goes, pushed) ↦ subst (AreNodes walked) (sym pushed) (AreNodes-push walked xs (half_of walked p true) front (record { placed = half-placed walked (length xs) (length xs) p true (omega arith) top.placed inner; on = goes }))
        | inr (stopped, same) ↦ subst (AreNodes walked) (sym same) front
      ]

  pub nodes-on : GoesOn walked (half_of walked p false) → AreNodes walked (new ++ half_of walked p false ∷ [])
  nodes-on on =
      let top = AreNodes-top walked xs p are in
      let inner = top.on.inner in
      let long : length new ≤ length xs + 1 = elim puts [
        | inl (goes, pushed) ↦ omega (arith, ap length pushed, length-append xs (half_of walked p true ∷ []))
        | inr (stopped, same) ↦ omega (arith, ap length same)
      ] in
      AreNodes-push walked new (half_of walked p false) nodes-put (record { placed = half-placed walked (length xs) (length new) p false long top.placed inner; on = on })

-- ---- in the words of the contract

-- how many stops are below a point
abbrev pub count_below : WalkedTree → Point → ℕ
count_below walked p = length (visits_below walked (walked.width - p.prefix) p.number p.high)

count-is : (walked : WalkedTree) (p : Point) (bits : List Bool) → length bits ≤ walked.width → IsPointAt walked bits p → count_below walked p ≡ length (stops_below walked (walked.width - length bits) bits)
count-is walked p bits within at =
    ap (λ (n : ℕ). length (visits_below walked (walked.width - n) p.number p.high)) at.prefix
    ∙ ap (λ (n : ℕ). length (visits_below walked (walked.width - length bits) n p.high)) at.number
    ∙ ap (λ (b : Bool). length (visits_below walked (walked.width - length bits) (walk walked.tree bits) b)) (at.high ∙ sym (high-is walked bits))
    ∙ length-below walked (walked.width - length bits) bits (omega arith)

pub few-yes : (walked : WalkedTree) (p : Point) (most : ℕ) → count_below walked p ≤ most → IsFewFrom walked p most true
few-yes walked p most few bits within at = sym (le-leb (length (stops_below walked (walked.width - length bits) bits)) most (omega (arith, few, count-is walked p bits within at)))

pub few-no : (walked : WalkedTree) (p : Point) (most : ℕ) → most < count_below walked p → IsFewFrom walked p most false
few-no walked p most many bits within at = sym (lt-leb (length (stops_below walked (walked.width - length bits) bits)) most (omega (arith, many, count-is walked p bits within at)))

pub few-one : (walked : WalkedTree) (p : Point) (most : ℕ) → IsStopped walked p → 0 < most → IsFewFrom walked p most true
few-one walked p most stopped some =
    let here : ((walked.width - p.prefix ≡ 0) ⊎ (goes_on_from walked p.number p.high ≡ false)) = elim stopped [ inl full ↦ inl (omega arith) | inr ends ↦ inr ends ] in
    let one = ap length (below-stop walked (walked.width - p.prefix) p.number p.high here) in
    few-yes walked p most (omega (arith, one))

-- the same for a walker that walks the same tree
pub few-along : (walked other : WalkedTree) (bits : List Bool) (prefix most : ℕ) (p : Point) (few : Bool) → other ≡ walked → length bits ≡ prefix → prefix ≤ walked.width → IsPointAt walked bits p → IsFewFrom other p most few
    → few ≡ nat_le (length (stops_below walked (walked.width - prefix) bits)) most
few-along walked other bits prefix most p few same len within at h =
    let is : IsFewFrom walked p most few = subst (λ (w : WalkedTree). IsFewFrom w p most few) same h in
    is bits (omega (arith, len, within)) at ∙ ap (λ (n : ℕ). nat_le (length (stops_below walked (walked.width - n) bits)) most) len
