-- The stops of a tree, each with the positions that are taken from the stop before up to it.
use Rattle.std.proofs.Common.{◌≡◌, ℕ, ◌+◌, ◌-◌, ◌<◌, zero, suc, Bool, true, false, ◌||◌, nat_lt, List, [], ◌∷◌, ◌++◌, length, arith, sym, ap, ◌∙◌, refl, ◌⊎◌, inl, inr, if◌then◌else◌, append_assoc, length-append}
use Rattle.std.specs.List.{list_any}
use Rattle.std.proofs.lemmas.List.{append-nil}
use Rattle.mmdb_tree.specs.Tree.{step, walk}
use Rattle.mmdb_tree.specs.Stops.{WalkedTree, Stop, stop, end_at, goes_on, stops_below, stops_of, shared, cost, cost_after, cut, is_fault, offset_of, offsets}
use Rattle.mmdb_tree.specs.Working.{goes_on_from, end_from}
use Rattle.mmdb_tree.specs.declared.record.TreeRecord.{TreeRecord}
use Rattle.mmdb_tree.proofs.HighBits.{lt_same, high_of, high-nil, high-snoc, goes-on-is, end-at-is}
use Rattle.mmdb_tree.proofs.WalkLemmas.{walk-append, walk-nil, walk-one}

-- a stop, and how many positions are taken after the stop before
pub record Visit : Type 0 where
  pub gap : ℕ
  pub end : TreeRecord

abbrev pub visit : ℕ → TreeRecord → Visit
visit gap end = record { gap = gap; end = end }

-- this many more positions are taken first
unfoldable pub with_lead : ℕ → List Visit → List Visit
with_lead lead [] = []
with_lead lead (v ∷ vs) = visit (lead + v.gap) v.end ∷ vs

unfoldable pub total : List Visit → ℕ
total [] = 0
total (v ∷ vs) = v.gap + total vs

unfoldable pub cut_visits : ℕ → List Visit → List Visit
cut_visits zero vs = []
cut_visits (suc most) [] = []
cut_visits (suc most) (v ∷ vs) = v ∷ (if is_fault v.end then [] else cut_visits most vs)

unfoldable pub offsets_of : List Visit → List ℕ
offsets_of [] = []
offsets_of (v ∷ vs) = offset_of v.end ++ offsets_of vs

unfoldable pub has_fault : List Visit → Bool
has_fault vs = list_any (λ v. is_fault v.end) vs

-- the visits below a point
unfoldable pub visits_below : WalkedTree → ℕ → ℕ → Bool → List Visit
visits_below walked zero number high = visit 1 (end_from walked number high) ∷ []
visits_below walked (suc rest) number high =
    if goes_on_from walked number high
    then with_lead 1 (visits_below walked rest (step walked.tree number false) high) ++ visits_below walked rest (step walked.tree number true) (high || nat_lt 31 rest)
    else visit 1 (end_from walked number high) ∷ []

-- ---- the visits of a list of stops

unfoldable pub visits_after : List Bool → List Stop → List Visit
visits_after before [] = []
visits_after before (m ∷ ms) = visit (length m.bits - shared before m.bits) m.end ∷ visits_after m.bits ms

unfoldable pub visits_of : List Stop → List Visit
visits_of [] = []
visits_of (m ∷ ms) = visit (length m.bits + 1) m.end ∷ visits_after m.bits ms

total-after : (before : List Bool) (ms : List Stop) → total (visits_after before ms) ≡ cost_after before ms
unfolding total visits_after cost_after
total-after before [] = refl
total-after before (m ∷ ms) = ap (λ n. (length m.bits - shared before m.bits) + n) (total-after m.bits ms)

pub total-visits_of : (ms : List Stop) → total (visits_of ms) ≡ cost ms
unfolding total visits_of cost
total-visits_of [] = refl
total-visits_of (m ∷ ms) = ap (λ n. (length m.bits + 1) + n) (total-after m.bits ms)

length-after : (before : List Bool) (ms : List Stop) → length (visits_after before ms) ≡ length ms
unfolding visits_after
length-after before [] = refl
length-after before (m ∷ ms) = ap suc (length-after m.bits ms)

pub length-visits_of : (ms : List Stop) → length (visits_of ms) ≡ length ms
unfolding visits_of
length-visits_of [] = refl
length-visits_of (m ∷ ms) = ap suc (length-after m.bits ms)

offsets-after : (before : List Bool) (ms : List Stop) → offsets_of (visits_after before ms) ≡ offsets ms
unfolding visits_after offsets_of offsets
offsets-after before [] = refl
offsets-after before (m ∷ ms) = ap (λ os. offset_of m.end ++ os) (offsets-after m.bits ms)

pub offsets-visits_of : (ms : List Stop) → offsets_of (visits_of ms) ≡ offsets ms
unfolding visits_of offsets_of offsets
offsets-visits_of [] = refl
offsets-visits_of (m ∷ ms) = ap (λ os. offset_of m.end ++ os) (offsets-after m.bits ms)

cases_bool : (b : Bool) → (b ≡ true) ⊎ (b ≡ false)
cases_bool true = inl refl
cases_bool false = inr refl

fault-after : (before : List Bool) (ms : List Stop) → has_fault (visits_after before ms) ≡ list_any (λ m. is_fault m.end) ms
unfolding visits_after has_fault
fault-after before [] = refl
fault-after before (m ∷ ms) = rw (fault-after m.bits ms) refl

pub fault-visits_of : (ms : List Stop) → has_fault (visits_of ms) ≡ list_any (λ m. is_fault m.end) ms
unfolding visits_of has_fault
fault-visits_of [] = refl
fault-visits_of (m ∷ ms) = rw (fault-after m.bits ms) refl

cut-after : (most : ℕ) (before : List Bool) (ms : List Stop) → cut_visits most (visits_after before ms) ≡ visits_after before (cut most ms)
unfolding visits_after cut_visits cut
cut-after zero before ms = refl
cut-after (suc most) before [] = refl
cut-after (suc most) before (m ∷ ms) = elim (cases_bool (is_fault m.end)) [
  | inl fault ↦ rw fault refl
  | inr good ↦ rw good (ap (λ (vs : List Visit). visit (length m.bits - shared before m.bits) m.end ∷ vs) (cut-after most m.bits ms))
]

pub cut-visits_of : (most : ℕ) (ms : List Stop) → cut_visits most (visits_of ms) ≡ visits_of (cut most ms)
unfolding visits_of cut_visits cut visits_after
cut-visits_of zero ms = refl
cut-visits_of (suc most) [] = refl
cut-visits_of (suc most) (m ∷ ms) = elim (cases_bool (is_fault m.end)) [
  | inl fault ↦ rw fault refl
  | inr good ↦ rw good (ap (λ (vs : List Visit). visit (length m.bits + 1) m.end ∷ vs) (cut-after most m.bits ms))
]

-- ---- more positions first

pub with_lead-append : (lead : ℕ) (vs ws : List Visit) → 0 < length vs → with_lead lead (vs ++ ws) ≡ with_lead lead vs ++ ws
unfolding with_lead
with_lead-append lead [] ws some = absurd (omega arith)
with_lead-append lead (v ∷ vs) ws some = refl

pub with_lead-twice : (lead more : ℕ) (vs : List Visit) → with_lead lead (with_lead more vs) ≡ with_lead (lead + more) vs
unfolding with_lead
with_lead-twice lead more [] = refl
with_lead-twice lead more (v ∷ vs) = ap (λ n. visit n v.end ∷ vs) (sym (omega arith))

pub with_lead-zero : (vs : List Visit) → with_lead 0 vs ≡ vs
unfolding with_lead
with_lead-zero [] = refl
with_lead-zero (v ∷ vs) = ap (λ n. visit n v.end ∷ vs) (omega arith)

pub length-lead : (lead : ℕ) (vs : List Visit) → length (with_lead lead vs) ≡ length vs
unfolding with_lead
length-lead lead [] = refl
length-lead lead (v ∷ vs) = refl

pub some-with_lead : (lead : ℕ) (vs : List Visit) → 0 < length vs → 0 < length (with_lead lead vs)
unfolding with_lead
some-with_lead lead [] h = absurd (omega arith)
some-with_lead lead (v ∷ vs) h = omega arith

pub some_visit : (walked : WalkedTree) (rest number : ℕ) (high : Bool) → 0 < length (visits_below walked rest number high)
unfolding visits_below
some_visit walked zero number high = omega arith
some_visit walked (suc rest) number high = elim (cases_bool (goes_on_from walked number high)) [
  | inl on ↦
      let left = with_lead 1 (visits_below walked rest (step walked.tree number false) high) in
      let right = visits_below walked rest (step walked.tree number true) (high || nat_lt 31 rest) in
      let some = some-with_lead 1 (visits_below walked rest (step walked.tree number false) high) (some_visit walked rest (step walked.tree number false) high) in
      rw on (let long : 0 < length (left ++ right) = omega (arith, length-append left right, some) in long)
  | inr ends ↦ rw ends (omega arith)
]

pub below-node : (walked : WalkedTree) (rest number : ℕ) (high : Bool) → goes_on_from walked number high ≡ true
    → visits_below walked (suc rest) number high ≡ with_lead 1 (visits_below walked rest (step walked.tree number false) high) ++ visits_below walked rest (step walked.tree number true) (high || nat_lt 31 rest)
unfolding visits_below
below-node walked rest number high on = rw on refl

pub below-stop : (walked : WalkedTree) (rest number : ℕ) (high : Bool) → ((rest ≡ 0) ⊎ (goes_on_from walked number high ≡ false)) → visits_below walked rest number high ≡ visit 1 (end_from walked number high) ∷ []
unfolding visits_below
below-stop walked zero number high ended = refl
below-stop walked (suc rest) number high (inl full) = absurd (omega arith)
below-stop walked (suc rest) number high (inr ends) = rw ends refl

-- ---- the visits below a point are those of its stops

or_false : (b : Bool) → (b || false) ≡ b
or_false true = refl
or_false false = refl

unfoldable last_bits : List Bool → List Stop → List Bool
last_bits before [] = before
last_bits before (m ∷ ms) = last_bits m.bits ms

after-append : (before : List Bool) (ms ns : List Stop) → visits_after before (ms ++ ns) ≡ visits_after before ms ++ visits_after (last_bits before ms) ns
unfolding visits_after last_bits
after-append before [] ns = refl
after-append before (m ∷ ms) ns = ap (λ (vs : List Visit). visit (length m.bits - shared before m.bits) m.end ∷ vs) (after-append m.bits ms ns)

of-append : (ms ns : List Stop) → 0 < length ms → visits_of (ms ++ ns) ≡ visits_of ms ++ visits_after (last_bits [] ms) ns
unfolding visits_of last_bits
of-append [] ns some = absurd (omega arith)
of-append (m ∷ ms) ns some = ap (λ (vs : List Visit). visit (length m.bits + 1) m.end ∷ vs) (after-append m.bits ms ns)

last-append : (before : List Bool) (ms ns : List Stop) → last_bits before (ms ++ ns) ≡ last_bits (last_bits before ms) ns
unfolding last_bits
last-append before [] ns = refl
last-append before (m ∷ ms) ns = last-append m.bits ms ns

shared-split : (c s t : List Bool) → shared (c ++ false ∷ s) (c ++ true ∷ t) ≡ length c
shared-split [] s t = refl
shared-split (true ∷ c) s t = ap suc (shared-split c s t)
shared-split (false ∷ c) s t = ap suc (shared-split c s t)

module _ (walked : WalkedTree) where
  pub stops-node : (left : ℕ) (bits : List Bool) → goes_on walked bits ≡ true → stops_below walked (suc left) bits ≡ stops_below walked left (bits ++ false ∷ []) ++ stops_below walked left (bits ++ true ∷ [])
  unfolding stops_below
  stops-node left bits on = rw on refl

  pub stops-end : (left : ℕ) (bits : List Bool) → ((left ≡ 0) ⊎ (goes_on walked bits ≡ false)) → stops_below walked left bits ≡ stop bits (end_at walked bits) ∷ []
  unfolding stops_below
  stops-end zero bits ended = refl
  stops-end (suc left) bits (inl full) = absurd (omega arith)
  stops-end (suc left) bits (inr ends) = rw ends refl

  pub some_stop : (left : ℕ) (bits : List Bool) → 0 < length (stops_below walked left bits)
  some_stop zero bits = omega (arith, ap length (stops-end zero bits (inl refl)))
  some_stop (suc left) bits = elim (cases_bool (goes_on walked bits)) [
    | inl on ↦ omega (arith, ap length (stops-node left bits on), length-append (stops_below walked left (bits ++ false ∷ [])) (stops_below walked left (bits ++ true ∷ [])), some_stop left (bits ++ false ∷ []))
    | inr ends ↦ omega (arith, ap length (stops-end (suc left) bits (inr ends)))
  ]

  last-one : (before bits : List Bool) (ms : List Stop) → ms ≡ stop bits (end_at walked bits) ∷ [] → last_bits before ms ≡ bits
  unfolding last_bits
  last-one before bits ms e = rw e refl

  -- the last stop below bits begins with them
  last-below : (left : ℕ) (bits before : List Bool) → (s : List Bool) × (last_bits before (stops_below walked left bits) ≡ bits ++ s)
  last-below zero bits before = ([], last-one before bits (stops_below walked zero bits) (stops-end zero bits (inl refl)) ∙ sym (append-nil bits))
  last-below (suc left) bits before = elim (cases_bool (goes_on walked bits)) [
    | inl on ↦
        let low : List Stop = stops_below walked left (bits ++ false ∷ []) in
        let w = last-below left (bits ++ true ∷ []) (last_bits before low) in (
          true ∷ w.0,
          ap (last_bits before) (stops-node left bits on) ∙ last-append before low (stops_below walked left (bits ++ true ∷ [])) ∙ w.1 ∙ append_assoc bits (true ∷ []) w.0,
        )
    | inr ends ↦ ([], last-one before bits (stops_below walked (suc left) bits) (stops-end (suc left) bits (inr ends)) ∙ sym (append-nil bits))
  ]

  -- the visits below bits, as a walk comes to them
  abbrev there : ℕ → List Bool → List Visit
  there left bits = visits_below walked left (walk walked.tree bits) (high_of walked bits)

  there-node : (left : ℕ) (bits : List Bool) → length bits + suc left ≡ walked.width → goes_on walked bits ≡ true → there (suc left) bits ≡ with_lead 1 (there left (bits ++ false ∷ [])) ++ there left (bits ++ true ∷ [])
  there-node left bits full on =
      let go : (x : Bool) → step walked.tree (walk walked.tree bits) x ≡ walk walked.tree (bits ++ x ∷ []) = λ x. sym (walk-append walked.tree 0 bits (x ∷ []) ∙ walk-one walked.tree (walk walked.tree bits) x) in
      let low : high_of walked (bits ++ false ∷ []) ≡ high_of walked bits = high-snoc walked bits false (omega arith) ∙ or_false (high_of walked bits) in
      let same : nat_lt (length bits + 32) walked.width ≡ nat_lt 31 left = lt_same (length bits + 32) walked.width 31 left (λ h. omega arith) (λ h. omega arith) in
      let high : high_of walked (bits ++ true ∷ []) ≡ (high_of walked bits || nat_lt 31 left) = high-snoc walked bits true (omega arith) ∙ ap (λ (b : Bool). high_of walked bits || b) same in
      below-node walked left (walk walked.tree bits) (high_of walked bits) (sym (goes-on-is walked bits) ∙ on)
      ∙ ap (λ (n : ℕ). with_lead 1 (visits_below walked left n (high_of walked bits)) ++ visits_below walked left (step walked.tree (walk walked.tree bits) true) (high_of walked bits || nat_lt 31 left)) (go false)
      ∙ ap (λ (n : ℕ). with_lead 1 (visits_below walked left (walk walked.tree (bits ++ false ∷ [])) (high_of walked bits)) ++ visits_below walked left n (high_of walked bits || nat_lt 31 left)) (go true)
      ∙ ap (λ (b : Bool). with_lead 1 (visits_below walked left (walk walked.tree (bits ++ false ∷ [])) b) ++ visits_below walked left (walk walked.tree (bits ++ true ∷ [])) (high_of walked bits || nat_lt 31 left)) (sym low)
      ∙ ap (λ (b : Bool). with_lead 1 (there left (bits ++ false ∷ [])) ++ visits_below walked left (walk walked.tree (bits ++ true ∷ [])) b) (sym high)

  there-end : (left : ℕ) (bits : List Bool) → ((left ≡ 0) ⊎ (goes_on walked bits ≡ false)) → there left bits ≡ visit 1 (end_at walked bits) ∷ []
  there-end left bits ended =
      let here : ((left ≡ 0) ⊎ (goes_on_from walked (walk walked.tree bits) (high_of walked bits) ≡ false)) = elim ended [ inl full ↦ inl full | inr ends ↦ inr (sym (goes-on-is walked bits) ∙ ends) ] in
      below-stop walked left (walk walked.tree bits) (high_of walked bits) here ∙ ap (λ (e : TreeRecord). visit 1 e ∷ []) (sym (end-at-is walked bits))

  after-one : (before bits : List Bool) (k : ℕ) (ms : List Stop) (vs : List Visit) → ms ≡ stop bits (end_at walked bits) ∷ [] → vs ≡ visit 1 (end_at walked bits) ∷ [] → shared before bits ≡ k → k < length bits → visits_after before ms ≡ with_lead (length bits - k - 1) vs
  unfolding visits_after with_lead
  after-one before bits k ms vs em ev same less = rw (em, ev) (ap (λ (n : ℕ). visit n (end_at walked bits) ∷ []) (omega (arith, same)))

  of-one : (bits : List Bool) (ms : List Stop) (vs : List Visit) → ms ≡ stop bits (end_at walked bits) ∷ [] → vs ≡ visit 1 (end_at walked bits) ∷ [] → visits_of ms ≡ with_lead (length bits) vs
  unfolding visits_of visits_after with_lead
  of-one bits ms vs em ev = rw (em, ev) refl

  -- two leads before two halves
  two-leads : (lead more : ℕ) (vl vu : List Visit) → 0 < length vl → more ≡ lead + 1 → with_lead more vl ++ vu ≡ with_lead lead (with_lead 1 vl ++ vu)
  two-leads lead more vl vu some e =
      ap (λ (n : ℕ). with_lead n vl ++ vu) e ∙ ap (λ (vs : List Visit). vs ++ vu) (sym (with_lead-twice lead 1 vl)) ∙ sym (with_lead-append lead (with_lead 1 vl) vu (some-with_lead 1 vl some))

  -- the stops of the upper half come after those of the lower one
  abbrev Comes : ℕ → List Bool → Type 0
  Comes left bits =
      (before : List Bool) (k : ℕ) → length bits + left ≡ walked.width → ((s : List Bool) → shared before (bits ++ s) ≡ k) → k < length bits → visits_after before (stops_below walked left bits) ≡ with_lead (length bits - k - 1) (there left bits)

  upper : (left : ℕ) (bits before : List Bool) → Comes left (bits ++ true ∷ []) → length bits + suc left ≡ walked.width → visits_after (last_bits before (stops_below walked left (bits ++ false ∷ []))) (stops_below walked left (bits ++ true ∷ [])) ≡ there left (bits ++ true ∷ [])
  upper left bits before comes full =
      let w = last-below left (bits ++ false ∷ []) before in
      let last : List Bool = last_bits before (stops_below walked left (bits ++ false ∷ [])) in
      let is : last ≡ bits ++ false ∷ w.0 = w.1 ∙ append_assoc bits (false ∷ []) w.0 in
      let none : length (bits ++ true ∷ []) - length bits - 1 ≡ 0 = omega (arith, length-append bits (true ∷ [])) in
      comes last (length bits) (omega (arith, length-append bits (true ∷ [])))
      (λ s. ap (λ (t : List Bool). shared t ((bits ++ true ∷ []) ++ s)) is ∙ ap (shared (bits ++ false ∷ w.0)) (append_assoc bits (true ∷ []) s) ∙ shared-split bits w.0 s)
      (omega (arith, length-append bits (true ∷ [])))
      ∙ ap (λ (n : ℕ). with_lead n (there left (bits ++ true ∷ []))) none ∙ with_lead-zero (there left (bits ++ true ∷ []))

  after-below : (left : ℕ) (bits : List Bool) → Comes left bits
  after-below zero bits before k full same less =
      after-one before bits k (stops_below walked zero bits) (there zero bits) (stops-end zero bits (inl refl)) (there-end zero bits (inl refl)) (ap (shared before) (sym (append-nil bits)) ∙ same []) less
  after-below (suc left) bits before k full same less = elim (cases_bool (goes_on walked bits)) [
    | inr ends ↦ after-one before bits k (stops_below walked (suc left) bits) (there (suc left) bits) (stops-end (suc left) bits (inr ends)) (there-end (suc left) bits (inr ends)) (ap (shared before) (sym (append-nil bits)) ∙ same []) less
    | inl on ↦
        let low : List Stop = stops_below walked left (bits ++ false ∷ []) in
        let high : List Stop = stops_below walked left (bits ++ true ∷ []) in
        let first : visits_after before low ≡ with_lead (length (bits ++ false ∷ []) - k - 1) (there left (bits ++ false ∷ [])) =
        after-below left (bits ++ false ∷ []) before k (omega (arith, length-append bits (false ∷ []))) (λ s. ap (shared before) (append_assoc bits (false ∷ []) s) ∙ same (false ∷ s)) (omega (arith, length-append bits (false ∷ []))) in
        ap (visits_after before) (stops-node left bits on) ∙ after-append before low high
        ∙ ap (λ (vs : List Visit). vs ++ visits_after (last_bits before low) high) first
        ∙ ap (λ (vs : List Visit). with_lead (length (bits ++ false ∷ []) - k - 1) (there left (bits ++ false ∷ [])) ++ vs) (upper left bits before (after-below left (bits ++ true ∷ [])) full)
        ∙ two-leads (length bits - k - 1) (length (bits ++ false ∷ []) - k - 1) (there left (bits ++ false ∷ [])) (there left (bits ++ true ∷ [])) (some_visit walked left _ _) (omega (arith, length-append bits (false ∷ [])))
        ∙ ap (with_lead (length bits - k - 1)) (sym (there-node left bits full on))
  ]

  of-below : (left : ℕ) (bits : List Bool) → length bits + left ≡ walked.width → visits_of (stops_below walked left bits) ≡ with_lead (length bits) (there left bits)
  of-below zero bits full = of-one bits (stops_below walked zero bits) (there zero bits) (stops-end zero bits (inl refl)) (there-end zero bits (inl refl))
  of-below (suc left) bits full = elim (cases_bool (goes_on walked bits)) [
    | inr ends ↦ of-one bits (stops_below walked (suc left) bits) (there (suc left) bits) (stops-end (suc left) bits (inr ends)) (there-end (suc left) bits (inr ends))
    | inl on ↦
        let low : List Stop = stops_below walked left (bits ++ false ∷ []) in
        let high : List Stop = stops_below walked left (bits ++ true ∷ []) in
        ap visits_of (stops-node left bits on) ∙ of-append low high (some_stop left (bits ++ false ∷ []))
        ∙ ap (λ (vs : List Visit). vs ++ visits_after (last_bits [] low) high) (of-below left (bits ++ false ∷ []) (omega (arith, length-append bits (false ∷ []))))
        ∙ ap (λ (vs : List Visit). with_lead (length (bits ++ false ∷ [])) (there left (bits ++ false ∷ [])) ++ vs) (upper left bits [] (after-below left (bits ++ true ∷ [])) full)
        ∙ two-leads (length bits) (length (bits ++ false ∷ [])) (there left (bits ++ false ∷ [])) (there left (bits ++ true ∷ [])) (some_visit walked left _ _) (omega (arith, length-append bits (false ∷ [])))
        ∙ ap (with_lead (length bits)) (sym (there-node left bits full on))
  ]

-- all visits are those of all stops
pub visits-stops : (walked : WalkedTree) → visits_below walked walked.width 0 false ≡ visits_of (stops_of walked)
visits-stops walked =
    sym (of-below walked walked.width [] (omega arith) ∙ with_lead-zero (visits_below walked walked.width (walk walked.tree []) (high_of walked []))
    ∙ ap (λ (n : ℕ). visits_below walked walked.width n (high_of walked [])) (walk-nil walked.tree 0) ∙ ap (visits_below walked walked.width 0) (high-nil walked))

-- below bits there are as many visits as stops
pub length-below : (walked : WalkedTree) (left : ℕ) (bits : List Bool) → length bits + left ≡ walked.width → length (visits_below walked left (walk walked.tree bits) (high_of walked bits)) ≡ length (stops_below walked left bits)
length-below walked left bits full =
    sym (length-lead (length bits) (visits_below walked left (walk walked.tree bits) (high_of walked bits))) ∙ sym (ap length (of-below walked left bits full)) ∙ length-visits_of (stops_below walked left bits)
