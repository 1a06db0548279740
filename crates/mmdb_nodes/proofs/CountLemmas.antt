-- How many ends there are below what was planted, and at what a walk of all of it stops.
use Rattle.std.proofs.Common.{◌≡◌, inl, inr, ℕ, suc, zero, ◌+◌, ◌^◌, ◌<◌, ◌≤◌, ltb, Bool, true, false, cond, List, [], ◌∷◌, ◌++◌, Option, Some, None, length, refl, ap, sym, ◌∙◌, arith, subst, length-append}
use Rattle.std.specs.Prelude.{not, ◌&&◌, ◌||◌}
use Rattle.std.specs.List.{slice_get, list_any}
use Rattle.std.proofs.Math.Nat.{pow-suc}
use Rattle.std.proofs.lemmas.Bool.{lt-ltb, le-ltb, true≢false}
use Rattle.mmdb_net.specs.Bits.{bits_of}
use Rattle.mmdb_tree.specs.Tree.{SearchTree, walk_from, walk}
use Rattle.mmdb_tree.specs.Tree.{step as tree_step}
use Rattle.mmdb_tree.specs.Records.{record_of}
use Rattle.mmdb_tree.specs.Stops.{WalkedTree, Stop, stop, record_in, is_alias_in, at_stop, goes_on, end_at, stops_below, is_fault, IsClean}
use Rattle.mmdb_tree.specs.declared.record.TreeRecord.{TreeRecord}
use Rattle.mmdb_tree.specs.declared.record.TreeRecord.TheVariants as kinds
use Rattle.mmdb_nodes.specs.declared.node.Node.{Node as SpecNode}
use Rattle.mmdb_nodes.specs.declared.node.NodeRecord.{NodeRecord}
use Rattle.mmdb_nodes.specs.declared.node.NodeRecord.TheVariants.{Node, Empty, Data}
use Rattle.mmdb_nodes.specs.Trees.{leaf_of}
use Rattle.mmdb_nodes.specs.Working.{side, lead, IsBelow, IsSound, IsJoined, number_in, ends, HasFewEnds, leaf}
use Rattle.mmdb_nodes.proofs.LeadLemmas.{AreHalves, behind_place, new_length, node_at, keeps_left, keeps_right, bits-low, bits-high}
use Rattle.mmdb_nodes.proofs.ByteLemmas.{HoldsNodes, record_of-leaf, step-on}

-- ---- few ends

ends-leaf : (nodes : List SpecNode) (v : Option ℕ) (free : ℕ) → ends nodes (leaf v) free ≡ 1
ends-leaf nodes v zero = refl
ends-leaf nodes None (suc free) = refl
ends-leaf nodes (Some offset) (suc free) = refl

pub own_few : (from : ℕ) (nodes : List SpecNode) (v : Option ℕ) (free : ℕ) → from ≤ length nodes → HasFewEnds from nodes (leaf v) free
own_few from nodes v free h = record { few = λ all keeps. let e = ends-leaf all v free in omega arith }

pub joined_few : (old n1 n2 n3 : List SpecNode) (h : AreHalves old n1 n2 n3) (left right r : NodeRecord) (new : List SpecNode) (half : ℕ) → IsJoined (length old) left right n3 new r → HasFewEnds (length n1) n2 left half → HasFewEnds (length n2) n3 right half → length old ≤ length new → HasFewEnds (length old) new r (suc half)
joined_few old n1 n2 n3 h left right r new half (inl same) f g le = record { few = λ all keeps. let e = ends-leaf all same.value (suc half) in let k = ap (λ (x : NodeRecord). ends all x (suc half)) same.result_is in omega arith }
joined_few old n1 n2 n3 h left right r new half (inr node) f g le = record {
  few = λ all keeps.
      let at = node_at old n1 n2 n3 h left right r new node all keeps in
      let whole : ends all r (suc half) ≡ ends all left half + ends all right half =
      ap (λ (x : NodeRecord). ends all x (suc half)) node.result_is ∙ ap (λ (o : Option SpecNode). ends all (side o false) half + ends all (side o true) half) at in
      let a = f.few all (keeps_left old n1 n2 n3 h left right r new node all keeps) in
      let b = g.few all (keeps_right old n1 n2 n3 h left right r new node all keeps) in
      let c = behind_place old n1 n2 n3 h in
      let d = new_length old n1 n2 n3 h left right r new node in
      omega arith;
}

ends_positive : (nodes : List SpecNode) (r : NodeRecord) (left : ℕ) → 1 ≤ ends nodes r left
ends_positive nodes r zero = omega arith
ends_positive nodes Empty (suc left) = omega arith
ends_positive nodes (Data v) (suc left) = omega arith
ends_positive nodes (Node n) (suc left) = let a = ends_positive nodes (side (slice_get nodes n) false) left in omega arith

pub lone_few : (to : NodeRecord) (v : Option ℕ) (nodes : List SpecNode) (width : ℕ) → to ≡ leaf v → nodes ≡ (record { left = to; right = to }) ∷ [] → ends nodes (Node 0) width ≤ 1 + length nodes
lone_few to v nodes zero is one = let e = ap length one in omega arith
lone_few to v nodes (suc w) is one =
    let l = ap length one in
    let at : slice_get nodes 0 ≡ Some (record { left = to; right = to }) = ap (λ (xs : List SpecNode). slice_get xs 0) one in
    let whole : ends nodes (Node 0) (suc w) ≡ ends nodes to w + ends nodes to w = ap (λ (o : Option SpecNode). ends nodes (side o false) w + ends nodes (side o true) w) at in
    let each : ends nodes to w ≡ 1 = ap (λ (x : NodeRecord). ends nodes x w) is ∙ ends-leaf nodes v w in
    omega arith

-- ---- all ways end at leaves

abbrev IsFinite : List SpecNode → NodeRecord → ℕ → Type 0
IsFinite nodes r zero = (v : Option ℕ) × (r ≡ leaf v)
IsFinite nodes Empty (suc left) = Unit {0}
IsFinite nodes (Data v) (suc left) = Unit {0}
IsFinite nodes (Node n) (suc left) = IsFinite nodes (side (slice_get nodes n) false) left × IsFinite nodes (side (slice_get nodes n) true) left

finite : (nodes : List SpecNode) (r : NodeRecord) (left : ℕ) → ((a : ℕ) → a < 2 ^ left → (v : Option ℕ) × (lead nodes r (bits_of left a) ≡ leaf v)) → IsFinite nodes r left
unfolding lead bits_of
finite nodes r zero h = h 0 (omega arith)
finite nodes Empty (suc left) h = tt
finite nodes (Data v) (suc left) h = tt
finite nodes (Node n) (suc left) h =
    let double = pow-suc 2 left in (
      finite nodes (side (slice_get nodes n) false) left (λ a lt.
          let w = h a (omega arith) in
          (w.0, sym (ap (lead nodes (Node n)) (bits-low left a lt)) ∙ w.1)),
      finite nodes (side (slice_get nodes n) true) left (λ a lt.
          let w = h (2 ^ left + a) (omega arith) in
          (w.0, sym (ap (lead nodes (Node n)) (bits-high left a lt)) ∙ w.1)),
    )

-- ---- what a walk of the whole tree stops at

walk_more : (tree : SearchTree) (number : ℕ) (bits : List Bool) (x : Bool) → walk_from tree number (bits ++ x ∷ []) ≡ tree_step tree (walk_from tree number bits) x
unfolding walk_from
walk_more tree number [] x = refl
walk_more tree number (y ∷ bits) x = walk_more tree (tree_step tree number y) bits x

and_false : (b : Bool) → (b && false) ≡ false
and_false true = refl
and_false false = refl

and_true : (b : Bool) → (b && true) ≡ b
and_true true = refl
and_true false = refl

or_false : (a b c : Bool) → (b ≡ false → c ≡ false) → (a || b) ≡ false → (a || c) ≡ false
or_false true b c h k = absurd (true≢false k)
or_false false b c h k = h k

any_append : (xs ys : List Stop) → list_any (λ m. is_fault m.end) xs ≡ false → list_any (λ m. is_fault m.end) ys ≡ false → list_any (λ m. is_fault m.end) (xs ++ ys) ≡ false
any_append [] ys h k = k
any_append (x ∷ xs) ys h k = or_false (is_fault x.end) (list_any (λ m. is_fault m.end) xs) (list_any (λ m. is_fault m.end) (xs ++ ys)) (λ e. any_append xs ys e k) h

any_one : (bits : List Bool) (end : TreeRecord) → is_fault end ≡ false → list_any (λ m. is_fault m.end) (stop bits end ∷ []) ≡ false
any_one bits end h = rw h refl

no_fault_in_leaf : (v : Option ℕ) (aliased : Bool) → is_fault (at_stop (leaf_of v) aliased) ≡ false
no_fault_in_leaf None aliased = refl
no_fault_in_leaf (Some offset) aliased = refl

out_ge : (count : ℕ) (v : Option ℕ) → count ≤ number_in count (leaf v)
out_ge count None = omega arith
out_ge count (Some v) = omega arith

node_record : (count data_len n : ℕ) → n < count → record_of count data_len n ≡ kinds.Node n
unfolding record_of
node_record count data_len n h = let t = lt-ltb n count h in rw t refl

module _ (walked : WalkedTree) (nodes : List SpecNode) (count : walked.tree.node_count ≡ length nodes) (are : HoldsNodes walked.tree.record_size nodes walked.tree.bytes) (sound : IsSound 0 walked.data_length nodes) where
  -- outside of the nodes a walk goes no further
  goes_not_on : (bits : List Bool) (v : Option ℕ) → walk walked.tree bits ≡ number_in (length nodes) (leaf v) → goes_on walked bits ≡ false
  goes_not_on bits v h =
      let ge : walked.tree.node_count ≤ walk walked.tree bits = (let o = out_ge (length nodes) v in omega arith) in
      let t : ltb (walk walked.tree bits) walked.tree.node_count ≡ false = le-ltb (walk walked.tree bits) walked.tree.node_count ge in
      ap (λ (b : Bool). not (is_alias_in walked bits) && b) t ∙ and_false (not (is_alias_in walked bits))

  on_node : (bits : List Bool) (n : ℕ) → walk walked.tree bits ≡ n → n < length nodes → goes_on walked bits ≡ not (is_alias_in walked bits)
  on_node bits n h lt =
      let t : ltb (walk walked.tree bits) walked.tree.node_count ≡ true = lt-ltb (walk walked.tree bits) walked.tree.node_count (omega arith) in
      ap (λ (b : Bool). not (is_alias_in walked bits) && b) t ∙ and_true (not (is_alias_in walked bits))

  -- from a node a bit leads on
  leads_on : (bits : List Bool) (n : ℕ) (x : Bool) → walk walked.tree bits ≡ n → n < length nodes → walk walked.tree (bits ++ x ∷ []) ≡ number_in (length nodes) (side (slice_get nodes n) x)
  leads_on bits n x h lt =
      walk_more walked.tree 0 bits x ∙ ap (λ (m : ℕ). tree_step walked.tree m x) h ∙ step-on walked.tree n x (omega arith) ∙ are n x lt

  few_stops : (left : ℕ) (r : NodeRecord) (bits : List Bool) → walk walked.tree bits ≡ number_in (length nodes) r → IsBelow (length nodes) walked.data_length r → length (stops_below walked left bits) ≤ ends nodes r left
  unfolding stops_below
  few_stops zero r bits h below = omega arith
  few_stops (suc left) Empty bits h below = let g = goes_not_on bits None h in rw g (omega arith)
  few_stops (suc left) (Data v) bits h below = let g = goes_not_on bits (Some v) h in rw g (omega arith)
  few_stops (suc left) (Node n) bits h below = elim (goes_on walked bits) as (λ (b : Bool). length (cond b (stops_below walked left (bits ++ false ∷ []) ++ stops_below walked left (bits ++ true ∷ [])) (record { bits = bits; end = end_at walked bits } ∷ [])) ≤ ends nodes (Node n) (suc left)) [
    | true ↦
        let a = few_stops left (side (slice_get nodes n) false) (bits ++ false ∷ []) (leads_on bits n false h below) (sound n false (omega arith) below) in
        let b = few_stops left (side (slice_get nodes n) true) (bits ++ true ∷ []) (leads_on bits n true h below) (sound n true (omega arith) below) in
        omega (arith, a, b, length-append (stops_below walked left (bits ++ false ∷ [])) (stops_below walked left (bits ++ true ∷ [])))
    | false ↦ let e = ends_positive nodes (Node n) (suc left) in omega arith
  ]

  leaf_end : (bits : List Bool) (v : Option ℕ) → walk walked.tree bits ≡ number_in (length nodes) (leaf v) → IsBelow (length nodes) walked.data_length (leaf v) → is_fault (end_at walked bits) ≡ false
  leaf_end bits v h below =
      let at : record_in walked (walk walked.tree bits) ≡ leaf_of v = ap (λ (c : ℕ). record_of c walked.data_length (walk walked.tree bits)) count ∙ ap (record_of (length nodes) walked.data_length) h ∙ record_of-leaf (length nodes) walked.data_length v below in
      ap (λ (x : TreeRecord). is_fault (at_stop x (is_alias_in walked bits))) at ∙ no_fault_in_leaf v (is_alias_in walked bits)

  alias_end : (bits : List Bool) (n : ℕ) → walk walked.tree bits ≡ n → n < length nodes → is_alias_in walked bits ≡ true → is_fault (end_at walked bits) ≡ false
  alias_end bits n h lt aliased =
      let at : record_in walked (walk walked.tree bits) ≡ kinds.Node n = ap (record_in walked) h ∙ node_record walked.tree.node_count walked.data_length n (omega arith) in
      ap (λ (x : TreeRecord). is_fault (at_stop x (is_alias_in walked bits))) at ∙ ap (λ (b : Bool). is_fault (at_stop (kinds.Node n) b)) aliased

  at_node : (bits : List Bool) (below : List Stop) (n : ℕ) → walk walked.tree bits ≡ n → n < length nodes → list_any (λ m. is_fault m.end) below ≡ false → (b : Bool) → is_alias_in walked bits ≡ b
      → list_any (λ m. is_fault m.end) (cond (not b) below (stop bits (end_at walked bits) ∷ [])) ≡ false
  at_node bits below n h lt none true e = any_one bits (end_at walked bits) (alias_end bits n h lt e)
  at_node bits below n h lt none false e = none

  no_faults : (left : ℕ) (r : NodeRecord) (bits : List Bool) → walk walked.tree bits ≡ number_in (length nodes) r → IsBelow (length nodes) walked.data_length r → IsFinite nodes r left → list_any (λ m. is_fault m.end) (stops_below walked left bits) ≡ false
  unfolding stops_below
  no_faults zero r bits h below ends_here =
      let there : IsBelow (length nodes) walked.data_length (leaf ends_here.0) = subst (IsBelow (length nodes) walked.data_length) ends_here.1 below in
      any_one bits (end_at walked bits) (leaf_end bits ends_here.0 (h ∙ ap (number_in (length nodes)) ends_here.1) there)
  no_faults (suc left) Empty bits h below ends_here = let g = goes_not_on bits None h in rw g (any_one bits (end_at walked bits) (leaf_end bits None h below))
  no_faults (suc left) (Data v) bits h below ends_here = let g = goes_not_on bits (Some v) h in rw g (any_one bits (end_at walked bits) (leaf_end bits (Some v) h below))
  no_faults (suc left) (Node n) bits h below ends_here =
      let g : goes_on walked bits ≡ not (is_alias_in walked bits) = on_node bits n h below in
      let a = no_faults left (side (slice_get nodes n) false) (bits ++ false ∷ []) (leads_on bits n false h below) (sound n false (omega arith) below) ends_here.0 in
      let b = no_faults left (side (slice_get nodes n) true) (bits ++ true ∷ []) (leads_on bits n true h below) (sound n true (omega arith) below) ends_here.1 in
      let both = any_append (stops_below walked left (bits ++ false ∷ [])) (stops_below walked left (bits ++ true ∷ [])) a b in
      rw g (at_node bits (stops_below walked left (bits ++ false ∷ []) ++ stops_below walked left (bits ++ true ∷ [])) n h below both (is_alias_in walked bits) refl)

  pub clean : 0 < length nodes → ((a : ℕ) → a < 2 ^ walked.width → (v : Option ℕ) × (lead nodes (Node 0) (bits_of walked.width a) ≡ leaf v)) → ends nodes (Node 0) walked.width ≤ 1 + length nodes → IsClean walked
  unfolding walk_from
  clean some leads few = record {
    faultless = no_faults walked.width (Node 0) [] refl some (finite nodes (Node 0) walked.width leads);
    few = let f = few_stops walked.width (Node 0) [] refl some in omega (arith, f);
  }
