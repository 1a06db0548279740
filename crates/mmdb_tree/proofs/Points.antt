-- The points that a walk has still to go to, and the visits that they lead to.
use Rattle.std.proofs.Common.{◌≡◌, ℕ, ◌+◌, ◌-◌, ◌<◌, ◌≤◌, suc, Bool, true, false, ◌||◌, ltb, List, [], ◌∷◌, ◌++◌, length, get_or, arith, sym, ap, ◌∙◌, refl, append_assoc, length-append, subst, ◌⊎◌, inl, inr}
use Rattle.std.proofs.lemmas.List.{append-nil, get_or_append_left}
use Rattle.std.proofs.Math.Seq.{get_or-append_seam}
use Rattle.std.proofs.lemmas.Bool.{cases_lt}
use Rattle.mmdb_tree.specs.Stops.{WalkedTree}
use Rattle.mmdb_tree.specs.Walked.{half_of}
use Rattle.mmdb_tree.specs.Working.{goes_on_from, end_from, IsPlaced, IsStack, GoesOn, IsStopped}
use Rattle.mmdb_tree.specs.declared.walked.Point.{Point}
use Rattle.mmdb_tree.specs.declared.record.TreeRecord.{TreeRecord}
use Rattle.mmdb_tree.proofs.HighBits.{lt_same}
use Rattle.mmdb_tree.proofs.Visits.{Visit, visit, with_lead, with_lead-append, with_lead-twice, visits_below, some_visit, below-node, below-stop}

module _ (walked : WalkedTree) (xs : List Point) (p : Point) where
  -- what lies below the top keeps its place, and the top has one
  pub IsStack-front : IsStack walked (xs ++ p ∷ []) → IsStack walked xs
  IsStack-front placed index d below = subst (IsPlaced walked index) (get_or_append_left xs (p ∷ []) d index below) (placed index d (omega (arith, length-append xs (p ∷ []))))

  pub IsStack-top : IsStack walked (xs ++ p ∷ []) → IsPlaced walked (length xs) p
  IsStack-top placed = subst (IsPlaced walked (length xs)) (get_or-append_seam xs p [] p) (placed (length xs) p (omega (arith, length-append xs (p ∷ []))))

  -- a placed point may be put on top
  pub IsStack-push : IsStack walked xs → IsPlaced walked (length xs) p → IsStack walked (xs ++ p ∷ [])
  IsStack-push placed top index d below = elim (cases_lt index (length xs)) [
    | inl low ↦ subst (IsPlaced walked index) (sym (get_or_append_left xs (p ∷ []) d index low)) (placed index d low)
    | inr high ↦
        let e : length xs ≡ index = omega (arith, length-append xs (p ∷ [])) in
        subst (λ (i : ℕ). IsPlaced walked i (get_or (xs ++ p ∷ []) i d)) e (subst (IsPlaced walked (length xs)) (sym (get_or-append_seam xs p [] d)) top)
  ]

-- the halves of a node are placed, at its place and the one above
pub half-placed : (walked : WalkedTree) (index above : ℕ) (p : Point) (right : Bool) → above ≤ index + 1 → IsPlaced walked index p → p.prefix < walked.width → IsPlaced walked above (half_of walked p right)
half-placed walked index above p right near h inner = let room = h.room in record {
  within = omega arith;
  room = omega (arith, room);
}

-- both halves of a node are put in its place
pub IsStack-halves : (walked : WalkedTree) (xs : List Point) (p : Point) → IsStack walked (xs ++ p ∷ []) → p.prefix < walked.width
    → IsStack walked ((xs ++ half_of walked p true ∷ []) ++ half_of walked p false ∷ [])
IsStack-halves walked xs p placed inner =
    let top = IsStack-top walked xs p placed in
    let front = IsStack-front walked xs p placed in
    let first = IsStack-push walked xs (half_of walked p true) front (half-placed walked (length xs) (length xs) p true (omega arith) top inner) in
    let long : length (xs ++ half_of walked p true ∷ []) ≤ length xs + 1 = omega (arith, length-append xs (half_of walked p true ∷ [])) in
    IsStack-push walked (xs ++ half_of walked p true ∷ []) (half_of walked p false) first (half-placed walked (length xs) (length (xs ++ half_of walked p true ∷ [])) p false long top inner)

-- what lies below a point fits
pub below-room : (walked : WalkedTree) (xs : List Point) (p : Point) → IsStack walked (xs ++ p ∷ []) → length xs ≤ p.prefix
below-room walked xs p placed = let top = IsStack-top walked xs p placed in let room = top.room in let within = top.within in omega (arith, room, within)

pub below-width : (walked : WalkedTree) (xs : List Point) (p : Point) → IsStack walked (xs ++ p ∷ []) → length xs ≤ walked.width
below-width walked xs p placed = let top = IsStack-top walked xs p placed in let room = top.room in omega (arith, room)

-- ---- visits

-- the visits that the points lead to, the last point first
unfoldable pub visits_of_stack : WalkedTree → List Point → List Visit
visits_of_stack walked [] = []
visits_of_stack walked (p ∷ above) = visits_of_stack walked above ++ visits_below walked (walked.width - p.prefix) p.number p.high

pub visits_of_stack-push : (walked : WalkedTree) (xs : List Point) (p : Point)
    → visits_of_stack walked (xs ++ p ∷ []) ≡ visits_below walked (walked.width - p.prefix) p.number p.high ++ visits_of_stack walked xs
unfolding visits_of_stack
visits_of_stack-push walked [] p = sym (append-nil _)
visits_of_stack-push walked (x ∷ xs) p = rw (visits_of_stack-push walked xs p, append_assoc) refl

or_false : (b : Bool) → (b || false) ≡ b
or_false true = refl
or_false false = refl

-- a node gives what its halves give, with one more position taken first
pub step-node : (walked : WalkedTree) (xs : List Point) (p : Point) (lead : ℕ) → GoesOn walked p
    → with_lead lead (visits_of_stack walked (xs ++ p ∷ []))
    ≡ with_lead (lead + 1) (visits_of_stack walked ((xs ++ half_of walked p true ∷ []) ++ half_of walked p false ∷ []))
step-node walked xs p lead on =
    let inner = on.inner in
    let rest : ℕ = walked.width - (p.prefix + 1) in
    let lower : Point = half_of walked p false in
    let upper : Point = half_of walked p true in
    let vl : List Visit = visits_below walked rest lower.number lower.high in
    let vu : List Visit = visits_below walked rest upper.number upper.high in
    let vs : List Visit = visits_of_stack walked xs in
    let e : walked.width - p.prefix ≡ suc (walked.width - (p.prefix + 1)) = omega arith in
    let split : visits_below walked (walked.width - p.prefix) p.number p.high ≡ with_lead 1 (visits_below walked rest lower.number p.high) ++ visits_below walked rest upper.number (p.high || ltb 31 rest) =
    ap (λ (n : ℕ). visits_below walked n p.number p.high) e ∙ below-node walked rest p.number p.high on.on in
    let low : visits_below walked rest lower.number p.high ≡ vl = ap (λ (b : Bool). visits_below walked rest lower.number b) (sym (or_false p.high)) in
    let test : ltb 31 rest ≡ ltb (p.prefix + 32) walked.width = lt_same 31 rest (p.prefix + 32) walked.width (λ h. omega arith) (λ h. omega arith) in
    let high : visits_below walked rest upper.number (p.high || ltb 31 rest) ≡ vu = ap (λ (b : Bool). visits_below walked rest upper.number (p.high || b)) test in
    let parts : visits_below walked (walked.width - p.prefix) p.number p.high ≡ with_lead 1 vl ++ vu = split ∙ ap (λ (v : List Visit). with_lead 1 v ++ visits_below walked rest upper.number (p.high || ltb 31 rest)) low ∙ ap (λ (v : List Visit). with_lead 1 vl ++ v) high in
    let old : visits_of_stack walked (xs ++ p ∷ []) ≡ with_lead 1 (vl ++ (vu ++ vs)) =
    visits_of_stack-push walked xs p ∙ ap (λ (v : List Visit). v ++ vs) parts ∙ append_assoc (with_lead 1 vl) vu vs ∙ sym (with_lead-append 1 vl (vu ++ vs) (some_visit walked rest lower.number lower.high)) in
    let new : visits_of_stack walked ((xs ++ upper ∷ []) ++ lower ∷ []) ≡ vl ++ (vu ++ vs) =
    visits_of_stack-push walked (xs ++ upper ∷ []) lower ∙ ap (λ (v : List Visit). vl ++ v) (visits_of_stack-push walked xs upper) in
    ap (with_lead lead) old ∙ with_lead-twice lead 1 (vl ++ (vu ++ vs)) ∙ ap (with_lead (lead + 1)) (sym new)

-- a stop gives itself
pub step-stop : (walked : WalkedTree) (xs : List Point) (p : Point) (lead : ℕ) (end : TreeRecord) → end ≡ end_from walked p.number p.high → IsStopped walked p
    → with_lead lead (visits_of_stack walked (xs ++ p ∷ [])) ≡ visit (lead + 1) end ∷ visits_of_stack walked xs
unfolding with_lead
step-stop walked xs p lead end is ended =
    let here : ((walked.width - p.prefix ≡ 0) ⊎ (goes_on_from walked p.number p.high ≡ false)) = elim ended [ inl full ↦ inl (omega arith) | inr ends ↦ inr ends ] in
    let one = below-stop walked (walked.width - p.prefix) p.number p.high here in
    ap (with_lead lead) (visits_of_stack-push walked xs p ∙ ap (λ (v : List Visit). v ++ visits_of_stack walked xs) one) ∙ ap (λ (e : TreeRecord). visit (lead + 1) e ∷ visits_of_stack walked xs) (sym is)
