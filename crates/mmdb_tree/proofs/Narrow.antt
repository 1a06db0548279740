-- How few positions wait while a walk is under way, and how few stops it takes.
use Rattle.std.proofs.Common.{◌≡◌, ◌⊎◌, ℕ, ◌+◌, ◌-◌, ◌*◌, ◌<◌, ◌≤◌, zero, suc, Bool, true, false, ◌||◌, nat_lt, List, [], ◌∷◌, ◌++◌, take, length, arith, ap, ◌∙◌, sym, refl, inl, inr, length-append}
use Rattle.std.proofs.lemmas.Bool.{cases_Bool, cases_lt, false≢true}
use Rattle.std.proofs.lemmas.List.{take-append-le}
use Rattle.std.proofs.Math.Seq.{take-append-add}
use Rattle.mmdb_tree.specs.Tree.{step}
use Rattle.mmdb_tree.specs.Stops.{WalkedTree, Stop, stops_of, shared, cost, cut, is_fault, EndsAtFault, AreFirst}
use Rattle.mmdb_tree.specs.declared.record.TreeRecord.TheVariants.{Empty}
use Rattle.mmdb_tree.specs.Working.{goes_on_from}
use Rattle.mmdb_tree.proofs.Progress.{total-append}
use Rattle.mmdb_tree.proofs.Visits.{Visit, visit, with_lead, total, visits_below, visits_of, visits_after, total-visits_of, length-visits_of, some_visit, below-node, below-stop, visits-stops}

-- ---- the first visits of a list

total-one : (gap : ℕ) (v : Visit) → total (v ∷ []) ≡ v.gap
unfolding total
total-one gap v = omega arith

total-with_lead : (lead : ℕ) (vs : List Visit) → 0 < length vs → total (with_lead lead vs) ≡ lead + total vs
unfolding total with_lead
total-with_lead lead [] some = absurd (omega arith)
total-with_lead lead (v ∷ vs) some = omega arith

length-with_lead : (lead : ℕ) (vs : List Visit) → length (with_lead lead vs) ≡ length vs
unfolding with_lead
length-with_lead lead [] = refl
length-with_lead lead (v ∷ vs) = refl

take-with_lead : (k lead : ℕ) (vs : List Visit) → take (suc k) (with_lead lead vs) ≡ with_lead lead (take (suc k) vs)
unfolding with_lead
take-with_lead k lead [] = refl
take-with_lead k lead (v ∷ vs) = refl

some-take : (k : ℕ) (vs : List Visit) → 0 < length vs → 0 < length (take (suc k) vs)
some-take k [] some = absurd (omega arith)
some-take k (v ∷ vs) some = omega arith

one-visit : (k : ℕ) (v : Visit) (vs : List Visit) → vs ≡ v ∷ [] → k < length vs → (total (take (suc k) vs) ≡ v.gap) × (length vs ≡ 1) × (total vs ≡ v.gap) × (k ≡ 0)
one-visit zero v vs e less = (rw e (total-one 0 v), ap length e, ap total e ∙ total-one 0 v, refl)
one-visit (suc k) v vs e less = absurd (omega (arith, ap length e))

module _ (walked : WalkedTree) where
  -- a node has one inner position for each stop but the last
  total-below : (rest number : ℕ) (high : Bool) → total (visits_below walked rest number high) + 1 ≡ 2 * length (visits_below walked rest number high)
  total-below zero number high =
      let one = one-visit 0 _ _ (below-stop walked zero number high (inl refl)) (some_visit walked zero number high) in omega (arith, one.1, one.2)
  total-below (suc rest) number high = elim (cases_Bool (goes_on_from walked number high)) [
    | inr off ↦ (let one = one-visit 0 _ _ (below-stop walked (suc rest) number high (inr off)) (some_visit walked (suc rest) number high) in omega (arith, one.1, one.2))
    | inl on ↦
        let low = visits_below walked rest (step walked.tree number false) high in
        let upper = visits_below walked rest (step walked.tree number true) (high || nat_lt 31 rest) in
        let is = below-node walked rest number high on in
        omega (
          arith,
          ap total is,
          ap length is,
          total-append (with_lead 1 low) upper,
          length-append (with_lead 1 low) upper,
          total-with_lead 1 low (some_visit walked rest (step walked.tree number false) high),
          length-with_lead 1 low,
          total-below rest (step walked.tree number false) high,
          total-below rest (step walked.tree number true) (high || nat_lt 31 rest),
        )
  ]

  first-below : (rest number : ℕ) (high : Bool) (k : ℕ) → k < length (visits_below walked rest number high) → total (take (suc k) (visits_below walked rest number high)) ≤ 2 * k + 1 + rest
  first-below zero number high k less =
      let one = one-visit k _ _ (below-stop walked zero number high (inl refl)) less in omega (arith, one.0)
  first-below (suc rest) number high k less = elim (cases_Bool (goes_on_from walked number high)) [
    | inr off ↦ (let one = one-visit k _ _ (below-stop walked (suc rest) number high (inr off)) less in omega (arith, one.0))
    | inl on ↦
        let low = visits_below walked rest (step walked.tree number false) high in
        let upper = visits_below walked rest (step walked.tree number true) (high || nat_lt 31 rest) in
        let is = below-node walked rest number high on in
        let some = some_visit walked rest (step walked.tree number false) high in
        let long = length-append (with_lead 1 low) upper in
        let same = length-with_lead 1 low in
        elim (cases_lt k (length low)) [
          | inl here ↦
              let part : total (take (suc k) (with_lead 1 low ++ upper)) ≡ 1 + total (take (suc k) low) =
              ap total (take-append-le (suc k) (with_lead 1 low) upper (omega (arith, here, same)) ∙ take-with_lead k 1 low) ∙ total-with_lead 1 (take (suc k) low) (some-take k low some) in
              omega (arith, ap (λ (vs : List Visit). total (take (suc k) vs)) is, part, first-below rest (step walked.tree number false) high k here)
          | inr past ↦
              let j : ℕ = k - length low in
              let cut_at : suc k ≡ length (with_lead 1 low) + suc j = omega (arith, past, same) in
              let part : total (take (suc k) (with_lead 1 low ++ upper)) ≡ total (with_lead 1 low) + total (take (suc j) upper) =
              ap (λ (n : ℕ). total (take n (with_lead 1 low ++ upper))) cut_at ∙ ap total (take-append-add (with_lead 1 low) upper (suc j)) ∙ total-append (with_lead 1 low) (take (suc j) upper) in
              omega (
                arith,
                ap (λ (vs : List Visit). total (take (suc k) vs)) is,
                part,
                past,
                total-with_lead 1 low some,
                total-below rest (step walked.tree number false) high,
                first-below rest (step walked.tree number true) (high || nat_lt 31 rest) j (omega (arith, past, less, ap length is, long, same)),
              )
        ]
  ]

-- ---- the first stops

take-after : (n : ℕ) (before : List Bool) (ms : List Stop) → take n (visits_after before ms) ≡ visits_after before (take n ms)
unfolding visits_after
take-after zero before ms = refl
take-after (suc n) before [] = refl
take-after (suc n) before (m ∷ ms) = ap (λ (vs : List Visit). visit (length m.bits - shared before m.bits) m.end ∷ vs) (take-after n m.bits ms)

take-visits_of : (n : ℕ) (ms : List Stop) → take n (visits_of ms) ≡ visits_of (take n ms)
unfolding visits_of
take-visits_of zero ms = refl
take-visits_of (suc n) [] = refl
take-visits_of (suc n) (m ∷ ms) = ap (λ (vs : List Visit). visit (length m.bits + 1) m.end ∷ vs) (take-after n m.bits ms)

-- the stops up to the nth and the one after it take so few positions
pub few-wait : (walked : WalkedTree) (n : ℕ) → n < length (stops_of walked) → cost (take (suc n) (stops_of walked)) ≤ 2 * n + 1 + walked.width
few-wait walked n less =
    let all = visits-stops walked in
    let long : length (visits_below walked walked.width 0 false) ≡ length (stops_of walked) = ap length all ∙ length-visits_of (stops_of walked) in
    let costs : total (take (suc n) (visits_below walked walked.width 0 false)) ≡ cost (take (suc n) (stops_of walked)) =
    ap (λ (vs : List Visit). total (take (suc n) vs)) all ∙ ap total (take-visits_of (suc n) (stops_of walked)) ∙ total-visits_of (take (suc n) (stops_of walked)) in
    omega (arith, costs, first-below walked walked.width 0 false n (omega (arith, long, less)))

no-stop : Stop
no-stop = record { bits = []; end = Empty }

first-of : List Stop → Stop
first-of [] = no-stop
first-of (m ∷ ms) = m

after-first : List Stop → List Stop
after-first [] = []
after-first (m ∷ ms) = ms

-- a faulty leaf is last in a list whose first one is faulty and alone
fault-alone : (m : Stop) (before after : List Stop) (x : Stop) → m ∷ [] ≡ before ++ x ∷ after → after ≡ []
unfolding after-first
fault-alone m [] after x e = sym (ap after-first e)
fault-alone m (y ∷ []) after x e = absurd (let l = ap length e in let k : length (y ∷ [] ++ x ∷ after) ≡ suc (suc (length after)) = refl in omega (arith, l, k))
fault-alone m (y ∷ z ∷ before) after x e = absurd (let l = ap length e in omega (arith, l))

fault-later : (m : Stop) (ms : List Stop) → is_fault m.end ≡ false → ((before after : List Stop) (x : Stop) → ms ≡ before ++ x ∷ after → is_fault x.end ≡ true → after ≡ []) → (before after : List Stop) (x : Stop) → m ∷ ms ≡ before ++ x ∷ after → is_fault x.end ≡ true → after ≡ []
unfolding first-of after-first
fault-later m ms fine last [] after x e bad = absurd (false≢true (sym fine ∙ ap (λ l. is_fault (first-of l).end) e ∙ bad))
fault-later m ms fine last (y ∷ before) after x e bad = last before after x (ap after-first e) bad

fault-here : (m : Stop) (most : ℕ) (ms : List Stop) → is_fault m.end ≡ true → AreFirst (suc most) (m ∷ ms) (m ∷ [])
fault-here m most ms bad = record {
  rest = ms;
  parts = refl;
  few = omega arith;
  last = λ before after x e _. fault-alone m before after x e;
  ends = inr (inr ([], m, refl, bad));
}

ends-later : (m : Stop) (most : ℕ) (rest taken : List Stop) → (rest ≡ []) ⊎ (length taken ≡ most) ⊎ EndsAtFault taken → (rest ≡ []) ⊎ (length (m ∷ taken) ≡ suc most) ⊎ EndsAtFault (m ∷ taken)
ends-later m most rest taken (inl e) = inl e
ends-later m most rest taken (inr (inl e)) = inr (inl (ap suc e))
ends-later m most rest taken (inr (inr (before, x, e, bad))) = inr (inr (m ∷ before, x, ap (λ l. m ∷ l) e, bad))

no-fault-here : (m : Stop) (most : ℕ) (ms taken : List Stop) → is_fault m.end ≡ false → AreFirst most ms taken → AreFirst (suc most) (m ∷ ms) (m ∷ taken)
no-fault-here m most ms taken fine h = record {
  rest = h.rest;
  parts = ap (λ l. m ∷ l) h.parts;
  few = omega (arith, h.few);
  last = fault-later m taken fine h.last;
  ends = ends-later m most h.rest taken h.ends;
}

none-taken : (most : ℕ) (ms : List Stop) → (ms ≡ []) ⊎ (0 ≡ most) → AreFirst most ms []
none-taken most ms why = record {
  rest = ms;
  parts = refl;
  few = omega arith;
  last = λ before after x e _. absurd (no-split before after x e);
  ends = elim why [ inl e ↦ inl e | inr e ↦ inr (inl e) ];
}
  where
    no-split : (before after : List Stop) (x : Stop) → [] ≡ before ++ x ∷ after → ⊥
    no-split [] after x e = let l = ap length e in omega (arith, l)
    no-split (y ∷ before) after x e = let l = ap length e in omega (arith, l)

pub cut-first : (most : ℕ) (ms : List Stop) → AreFirst most ms (cut most ms)
unfolding cut
cut-first zero ms = none-taken zero ms (inr refl)
cut-first (suc most) [] = none-taken (suc most) [] (inl refl)
cut-first (suc most) (m ∷ ms) = elim (cases_Bool (is_fault m.end)) [
  | inl bad ↦ rw bad (fault-here m most ms bad)
  | inr fine ↦ rw fine (no-fault-here m most ms (cut most ms) fine (cut-first most ms))
]
