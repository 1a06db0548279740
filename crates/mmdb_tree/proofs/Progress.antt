-- How far a walk over a tree has come.
use Rattle.std.proofs.Common.{◌≡◌, ℕ, ◌+◌, ◌-◌, ◌<◌, ◌≤◌, zero, suc, Bool, true, false, not, List, [], ◌∷◌, ◌++◌, length, arith, sym, ap, ◌∙◌, refl, length-append, append_assoc, ◌⊎◌, inl, inr, ◌||◌, ◌==◌}
use Rattle.std.proofs.lemmas.List.{append-nil}
use Rattle.std.specs.List.{list_any}
use Rattle.mmdb_tree.specs.declared.record.TreeRecord.{TreeRecord}
use Rattle.mmdb_tree.specs.declared.record.TreeRecord.TheVariants.{Data, Empty, Invalid, Node}
use Rattle.mmdb_tree.specs.Records.{record_of}
use Rattle.mmdb_tree.proofs.LeadLemmas.{data-inside}
use Rattle.mmdb_tree.specs.Stops.{WalkedTree, stops_of, cut, is_fault, offset_of, offsets, most_stops_of, walk_cost_of, at_stop}
use Rattle.mmdb_tree.specs.Walked.{half_of}
use Rattle.mmdb_tree.specs.Working.{GoesOn, IsStopped, end_from}
use Rattle.mmdb_tree.specs.declared.walked.Point.{Point}
use Rattle.mmdb_tree.proofs.Visits.{Visit, visit, with_lead, with_lead-zero, visits_below, total, cut_visits, offsets_of, has_fault, visits_of, total-visits_of, length-visits_of, offsets-visits_of, fault-visits_of, cut-visits_of, visits-stops}
use Rattle.mmdb_tree.proofs.Points.{visits_of_stack, step-node, step-stop}

cases_bool : (b : Bool) → (b ≡ true) ⊎ (b ≡ false)
cases_bool true = inl refl
cases_bool false = inr refl

-- ---- lists of visits

pub total-append : (vs ws : List Visit) → total (vs ++ ws) ≡ total vs + total ws
unfolding total
total-append [] ws = omega arith
total-append (v ∷ vs) ws = let h = total-append vs ws in omega (arith, h)

total-one : (gap : ℕ) (end : TreeRecord) (vs : List Visit) → total (visit gap end ∷ vs) ≡ gap + total vs
unfolding total
total-one gap end vs = refl

total-none : total [] ≡ 0
unfolding total
total-none = refl

fault-append : (vs ws : List Visit) → has_fault vs ≡ false → has_fault (vs ++ ws) ≡ has_fault ws
unfolding has_fault
fault-append [] ws good = refl
fault-append (v ∷ vs) ws good = elim (cases_bool (is_fault v.end)) [
  | inl fault ↦ absurd (let bad : true ≡ false = rw fault at good in cc)
  | inr fine ↦ rw fine (fault-append vs ws (rw fine at good))
]

fault-one : (gap : ℕ) (end : TreeRecord) (vs : List Visit) → is_fault end ≡ false → has_fault (visit gap end ∷ vs) ≡ has_fault vs
unfolding has_fault
fault-one gap end vs good = rw good refl

fault-here : (gap : ℕ) (end : TreeRecord) (vs : List Visit) → is_fault end ≡ true → has_fault (visit gap end ∷ vs) ≡ true
unfolding has_fault
fault-here gap end vs bad = rw bad refl

fault-none : has_fault [] ≡ false
unfolding has_fault
fault-none = refl

offsets-append : (vs ws : List Visit) → offsets_of (vs ++ ws) ≡ offsets_of vs ++ offsets_of ws
unfolding offsets_of
offsets-append [] ws = refl
offsets-append (v ∷ vs) ws = rw (offsets-append vs ws, append_assoc) refl

offsets-one : (gap : ℕ) (end : TreeRecord) → offsets_of (visit gap end ∷ []) ≡ offset_of end
unfolding offsets_of
offsets-one gap end = append-nil _

-- the cut goes past visits without a fault
pub cut-past : (most : ℕ) (vs ws : List Visit) → has_fault vs ≡ false → length vs ≤ most → cut_visits most (vs ++ ws) ≡ vs ++ cut_visits (most - length vs) ws
unfolding cut_visits has_fault
cut-past most [] ws good fits = ap (λ n. cut_visits n ws) (omega arith)
cut-past zero (v ∷ vs) ws good fits = absurd (omega arith)
cut-past (suc most) (v ∷ vs) ws good fits = elim (cases_bool (is_fault v.end)) [
  | inl fault ↦ absurd (let bad : true ≡ false = rw fault at good in cc)
  | inr fine ↦
      let rest = cut-past most vs ws (rw fine at good) (omega arith) in
      let same : suc most - suc (length vs) ≡ most - length vs = omega arith in
      rw (fine, rest, same) refl
]

pub cut-none : (most : ℕ) → cut_visits most [] ≡ []
unfolding cut_visits
cut-none zero = refl
cut-none (suc most) = refl

cut-zero : (vs : List Visit) → cut_visits zero vs ≡ []
unfolding cut_visits
cut-zero vs = refl

-- the first visit after the cut's beginning is in it
cut-more : (most gap : ℕ) (end : TreeRecord) (vs : List Visit) → 0 < most → gap ≤ total (cut_visits most (visit gap end ∷ vs))
unfolding cut_visits total
cut-more zero gap end vs h = absurd (omega arith)
cut-more (suc most) gap end vs h = omega arith

cut-fault : (most gap : ℕ) (end : TreeRecord) (vs : List Visit) → 0 < most → is_fault end ≡ true → cut_visits most (visit gap end ∷ vs) ≡ visit gap end ∷ []
unfolding cut_visits
cut-fault zero gap end vs h bad = absurd (omega arith)
cut-fault (suc most) gap end vs h bad = rw bad refl

any-append : (q : ℕ) (xs ys : List ℕ) → list_any (λ o. o == q) (xs ++ ys) ≡ (list_any (λ o. o == q) xs || list_any (λ o. o == q) ys)
any-append q [] ys = refl
any-append q (x ∷ xs) ys = elim (cases_bool (x == q)) [
  | inl same ↦ rw same refl
  | inr other ↦ rw other (any-append q xs ys)
]

lead-nothing : (walked : WalkedTree) (lead : ℕ) → with_lead lead (visits_of_stack walked []) ≡ []
unfolding with_lead visits_of_stack
lead-nothing walked lead = refl

-- ---- the walk

abbrev pub all_visits : WalkedTree → List Visit
all_visits walked = visits_below walked walked.width 0 false

abbrev most : WalkedTree → ℕ
most walked = suc (most_stops_of walked)

-- after `steps` steps the walk has passed some visits, and taken positions on the way to the next
pub record IsProgress (walked : WalkedTree) (stack : List Point) (steps counted : ℕ) (has : ℕ → Bool) : Type 0 where
  pub passed : List Visit
  pub lead : ℕ
  pub split : all_visits walked ≡ passed ++ with_lead lead (visits_of_stack walked stack)
  pub steps_are : steps ≡ total passed + lead
  pub counted_are : counted ≡ length passed
  pub sound : has_fault passed ≡ false
  pub keeps : (q : ℕ) → has q ≡ list_any (λ o. o == q) (offsets_of passed)
  pub at_end : stack ≡ [] → lead ≡ 0
  pub at_most : most_stops_of walked < counted → lead ≡ 0

pub progress-start : (walked : WalkedTree) (p : Point) (has : ℕ → Bool) → p.number ≡ 0 → p.high ≡ false → p.prefix ≡ 0 → ((q : ℕ) → has q ≡ false)
    → IsProgress walked (p ∷ []) 0 0 has
unfolding offsets_of has_fault total visits_of_stack
progress-start walked p has number_is high_is prefix_is none = record {
  passed = [];
  lead = 0;
  split =
      let whole : walked.width - p.prefix ≡ walked.width = omega (arith, prefix_is) in
      let same : visits_below walked (walked.width - p.prefix) p.number p.high ≡ all_visits walked = cc in
      sym (with_lead-zero (visits_of_stack walked (p ∷ [])) ∙ same);
  steps_are = refl;
  counted_are = refl;
  sound = refl;
  keeps = none;
  at_end = λ e. refl;
  at_most = λ e. refl;
}

pub progress-node : (walked : WalkedTree) (xs : List Point) (p : Point) (steps counted : ℕ) (has : ℕ → Bool) → IsProgress walked (xs ++ p ∷ []) steps counted has
    → GoesOn walked p → counted ≤ most_stops_of walked
    → IsProgress walked ((xs ++ half_of walked p true ∷ []) ++ half_of walked p false ∷ []) (steps + 1) counted has
progress-node walked xs p steps counted has w on few = record {
  passed = w.passed;
  lead = w.lead + 1;
  split = w.split ∙ ap (λ (vs : List Visit). w.passed ++ vs) (step-node walked xs p w.lead on);
  steps_are = omega (arith, w.steps_are);
  counted_are = w.counted_are;
  sound = w.sound;
  keeps = w.keeps;
  at_end = λ e. absurd (let n = ap length e in omega (arith, n, length-append (xs ++ half_of walked p true ∷ []) (half_of walked p false ∷ [])));
  at_most = λ h. absurd (omega arith);
}

module _ (walked : WalkedTree) (xs : List Point) (p : Point) (steps counted : ℕ) (has : ℕ → Bool) (w : IsProgress walked (xs ++ p ∷ []) steps counted has) (end : TreeRecord) (is : end ≡ end_from walked p.number p.high) (stopped : IsStopped walked p) where
  split-stop : all_visits walked ≡ (w.passed ++ visit (w.lead + 1) end ∷ []) ++ visits_of_stack walked xs
  split-stop =
      w.split ∙ ap (λ (vs : List Visit). w.passed ++ vs) (step-stop walked xs p w.lead end is stopped)
      ∙ sym (append_assoc w.passed (visit (w.lead + 1) end ∷ []) (visits_of_stack walked xs))

  pub progress-stop : (has' : ℕ → Bool) → is_fault end ≡ false
      → ((q : ℕ) → has' q ≡ (has q || list_any (λ o. o == q) (offset_of end)))
      → IsProgress walked xs (steps + 1) (counted + 1) has'
  progress-stop has' good adds = record {
    passed = w.passed ++ visit (w.lead + 1) end ∷ [];
    lead = 0;
    split = split-stop ∙ ap (λ (vs : List Visit). (w.passed ++ visit (w.lead + 1) end ∷ []) ++ vs) (sym (with_lead-zero (visits_of_stack walked xs)));
    steps_are = omega (arith, w.steps_are, total-append w.passed (visit (w.lead + 1) end ∷ []), total-one (w.lead + 1) end [], total-none);
    counted_are = omega (arith, w.counted_are, length-append w.passed (visit (w.lead + 1) end ∷ []));
    sound = fault-append w.passed (visit (w.lead + 1) end ∷ []) w.sound ∙ fault-one (w.lead + 1) end [] good ∙ fault-none;
    keeps = λ q. adds q ∙ ap (λ b. b || list_any (λ o. o == q) (offset_of end)) (w.keeps q)
        ∙ sym (any-append q (offsets_of w.passed) (offset_of end))
        ∙ ap (list_any (λ o. o == q)) (ap (λ (os : List ℕ). offsets_of w.passed ++ os) (sym (offsets-one (w.lead + 1) end)) ∙ sym (offsets-append w.passed (visit (w.lead + 1) end ∷ [])));
    at_end = λ e. refl;
    at_most = λ e. refl;
  }

  cut-stop : counted ≤ most_stops_of walked → cut_visits (most walked) (all_visits walked) ≡ w.passed ++ cut_visits (most walked - length w.passed) (visit (w.lead + 1) end ∷ visits_of_stack walked xs)
  cut-stop few =
      ap (cut_visits (most walked)) (w.split ∙ ap (λ (vs : List Visit). w.passed ++ vs) (step-stop walked xs p w.lead end is stopped))
      ∙ cut-past (most walked) w.passed (visit (w.lead + 1) end ∷ visits_of_stack walked xs) w.sound (omega (arith, w.counted_are))

  -- where the walk fails at a faulty leaf, it has cost what the cut does
  pub rejected-fault : counted ≤ most_stops_of walked → is_fault end ≡ true → (steps + 1 ≡ total (cut_visits (most walked) (all_visits walked))) × (has_fault (all_visits walked) ≡ true)
  rejected-fault few bad =
      let same = cut-stop few ∙ ap (λ (vs : List Visit). w.passed ++ vs) (cut-fault (most walked - length w.passed) (w.lead + 1) end (visits_of_stack walked xs) (omega (arith, w.counted_are)) bad) in (
        omega (arith, ap total same, total-append w.passed (visit (w.lead + 1) end ∷ []), total-one (w.lead + 1) end [], total-none, w.steps_are),
        ap has_fault (w.split ∙ ap (λ (vs : List Visit). w.passed ++ vs) (step-stop walked xs p w.lead end is stopped))
            ∙ fault-append w.passed (visit (w.lead + 1) end ∷ visits_of_stack walked xs) w.sound ∙ fault-here (w.lead + 1) end (visits_of_stack walked xs) bad,
      )

-- a walk that has counted too much has cost what the cut does
pub rejected-many : (walked : WalkedTree) (stack : List Point) (steps counted : ℕ) (has : ℕ → Bool) → IsProgress walked stack steps counted has → counted ≡ most walked
    → (steps ≡ total (cut_visits (most walked) (all_visits walked))) × (most walked ≤ length (all_visits walked))
rejected-many walked stack steps counted has w many =
    let rest : List Visit = with_lead w.lead (visits_of_stack walked stack) in
    let same = ap (cut_visits (most walked)) w.split ∙ cut-past (most walked) w.passed rest w.sound (omega (arith, w.counted_are)) in
    let none : most walked - length w.passed ≡ 0 = omega (arith, w.counted_are) in
    let all = same ∙ ap (λ (n : ℕ). w.passed ++ cut_visits n rest) none ∙ ap (λ (vs : List Visit). w.passed ++ vs) (cut-zero rest) ∙ append-nil w.passed in
    let no_lead = w.at_most (omega arith) in
    (omega (arith, ap total all, w.steps_are, no_lead), omega (arith, ap length w.split, length-append w.passed rest, w.counted_are))

-- a walk that has nothing left has passed everything
pub walked-all : (walked : WalkedTree) (stack : List Point) (steps counted : ℕ) (has : ℕ → Bool) → IsProgress walked stack steps counted has → stack ≡ [] → counted ≤ most_stops_of walked
    → (steps ≡ total (cut_visits (most walked) (all_visits walked))) × (counted ≡ length (all_visits walked)) × (has_fault (all_visits walked) ≡ false)
    × ((q : ℕ) → has q ≡ list_any (λ o. o == q) (offsets_of (all_visits walked)))
walked-all walked stack steps counted has w none few =
    let nothing = ap (λ (s : List Point). with_lead w.lead (visits_of_stack walked s)) none ∙ lead-nothing walked w.lead in
    let all : all_visits walked ≡ w.passed = w.split ∙ ap (λ (vs : List Visit). w.passed ++ vs) nothing ∙ append-nil w.passed in
    let past = cut-past (most walked) w.passed [] w.sound (omega (arith, w.counted_are)) in
    let uncut : cut_visits (most walked) (all_visits walked) ≡ w.passed =
    ap (cut_visits (most walked)) (all ∙ sym (append-nil w.passed)) ∙ past ∙ ap (λ (vs : List Visit). w.passed ++ vs) (cut-none (most walked - length w.passed)) ∙ append-nil w.passed in
    let no_lead = w.at_end none in (
      omega (arith, ap total uncut, w.steps_are, no_lead),
      omega (arith, ap length all, w.counted_are),
      ap has_fault all ∙ w.sound,
      λ q. w.keeps q ∙ ap (λ (vs : List Visit). list_any (λ o. o == q) (offsets_of vs)) (sym all),
    )

-- ---- in the words of the contract

all-stops : (walked : WalkedTree) → all_visits walked ≡ visits_of (stops_of walked)
all-stops walked = visits-stops walked

pub cost-is : (walked : WalkedTree) → total (cut_visits (most walked) (all_visits walked)) ≡ walk_cost_of walked
cost-is walked = ap (λ (vs : List Visit). total (cut_visits (most walked) vs)) (all-stops walked) ∙ ap total (cut-visits_of (most walked) (stops_of walked)) ∙ total-visits_of (cut (most walked) (stops_of walked))

pub length-is : (walked : WalkedTree) → length (all_visits walked) ≡ length (stops_of walked)
length-is walked = ap length (all-stops walked) ∙ length-visits_of (stops_of walked)

pub fault-is : (walked : WalkedTree) → has_fault (all_visits walked) ≡ list_any (λ m. is_fault m.end) (stops_of walked)
fault-is walked = ap has_fault (all-stops walked) ∙ fault-visits_of (stops_of walked)

pub offsets-are : (walked : WalkedTree) → offsets_of (all_visits walked) ≡ offsets (stops_of walked)
offsets-are walked = ap offsets_of (all-stops walked) ∙ offsets-visits_of (stops_of walked)

or_none : (b : Bool) → b ≡ (b || false)
or_none true = refl
or_none false = refl

-- what an insertion into the set adds
pub adds_offset : (x : TreeRecord) (aliased : Bool) (offset q : ℕ) (old : Bool) → x ≡ Data offset → (old || (offset == q)) ≡ (old || list_any (λ o. o == q) (offset_of (at_stop x aliased)))
adds_offset x aliased offset q old e = ap (λ b. old || b) (or_none (offset == q)) ∙ ap (λ (x : TreeRecord). old || list_any (λ o. o == q) (offset_of (at_stop x aliased))) (sym e)

pub adds_node : (x : TreeRecord) (aliased : Bool) (number q : ℕ) (old : Bool) → x ≡ Node number → old ≡ (old || list_any (λ o. o == q) (offset_of (at_stop x aliased)))
adds_node x true number q old e = rw e (or_none old)
adds_node x false number q old e = rw e (or_none old)

pub adds_empty : (x : TreeRecord) (aliased : Bool) (q : ℕ) (old : Bool) → x ≡ Empty → old ≡ (old || list_any (λ o. o == q) (offset_of (at_stop x aliased)))
adds_empty x aliased q old e = rw e (or_none old)

pub adds_nothing : (x : TreeRecord) (aliased : Bool) (q : ℕ) (old : Bool) → x ≡ Invalid → old ≡ (old || list_any (λ o. o == q) (offset_of (at_stop x aliased)))
adds_nothing x aliased q old e = rw e (or_none old)

-- a node is no fault where an alias leads to it
pub node_fault : (x : TreeRecord) (aliased : Bool) (number : ℕ) → x ≡ Node number → aliased ≡ not (is_fault (at_stop x aliased))
node_fault x true number e = rw e refl
node_fault x false number e = rw e refl

-- an offset to which a number leads is one of the data section
pub found_inside : (count len number offset : ℕ) (x : TreeRecord) → x ≡ record_of count len number → x ≡ Data offset → offset < len
found_inside count len number offset x is e = data-inside count len number offset (sym is ∙ e)
