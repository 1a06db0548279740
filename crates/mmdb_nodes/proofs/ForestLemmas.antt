-- One string of bits leads to each node.
use Rattle.std.proofs.Common.{◌≡◌, inl, inr, ℕ, zero, suc, ◌<◌, ◌≤◌, eqb, ltb, Bool, true, false, cond, List, [], ◌∷◌, ◌++◌, Option, Some, length, refl, ap, sym, ◌∙◌, arith, subst, length-take}
use Rattle.std.specs.List.{slice_get}
use Rattle.std.proofs.lemmas.Bool.{cases_lt, lt-ltb, le-ltb}
use Rattle.std.proofs.lemmas.Bool.Decides.{nat_tests}
use Rattle.mmdb_tree.specs.Tree.{walk, walk_from, SearchTree}
use Rattle.mmdb_nodes.specs.declared.node.Node.{Node as SpecNode}
use Rattle.mmdb_nodes.specs.declared.node.NodeRecord.{NodeRecord}
use Rattle.mmdb_nodes.specs.declared.node.NodeRecord.TheVariants.{Node, Empty, Data}
use Rattle.mmdb_nodes.specs.Working.{side, lead, leaf, IsBelow, IsSound, IsForest, IsJoined, IsNode, number_in}
use Rattle.mmdb_nodes.proofs.ByteLemmas.{HoldsNodes, same_walk}
use Rattle.mmdb_nodes.proofs.DifferLemmas.{lead-append, below_lead}
use Rattle.mmdb_nodes.proofs.LeadLemmas.{AreHalves, behind_place, left_longer, right_longer, new_length, at_place, above_place, left_kept, leaf_no_node}

-- ---- nodes that were planted

pub own_forest : (nodes : List SpecNode) → IsForest (length nodes) nodes
own_forest nodes = record {
  parent = λ n. (n, false);
  onward = λ k n x ge lt is. absurd (omega arith);
  own = λ k n x ge lt is. absurd (omega arith);
}

pub lone_forest : (v : Option ℕ) (to : NodeRecord) (nodes : List SpecNode) → to ≡ leaf v → nodes ≡ (record { left = to; right = to }) ∷ [] → IsForest 0 nodes
lone_forest v to nodes is one = record { parent = λ n. (n, false); onward = λ k n x ge lt at. absurd (none k n x lt at); own = λ k n x ge lt at. absurd (none k n x lt at) } where
  sides : (x : Bool) → side (slice_get nodes 0) x ≡ to
  sides true = ap (λ (ns : List SpecNode). side (slice_get ns 0) true) one
  sides false = ap (λ (ns : List SpecNode). side (slice_get ns 0) false) one

  none : (k n : ℕ) (x : Bool) → k < length nodes → side (slice_get nodes k) x ≡ Node n → ⊥
  none zero n x lt at = leaf_no_node v n (sym is ∙ sym (sides x) ∙ at)
  none (suc k) n x lt at = let e = ap length one in absurd (omega arith)

same_node : (n m : ℕ) → Node n ≡ Node m → n ≡ m
same_node n m h = cc

module _ (old n1 n2 n3 : List SpecNode) (h : AreHalves old n1 n2 n3) (left right r : NodeRecord) (new : List SpecNode) (node : IsNode (length old) left right n3 new r)
    (f : IsForest (length n1) n2) (g : IsForest (length n2) n3)
    (first : (n : ℕ) → left ≡ Node n → (n ≡ length n1) × (n < length n2)) (second : (n : ℕ) → right ≡ Node n → (n ≡ length n2) × (n < length n3)) where
  parent_of : ℕ → ℕ × Bool
  parent_of n = cond (ltb n (length n2)) (cond (eqb n (length n1)) (length old, false) (f.parent n)) (cond (eqb n (length n2)) (length old, true) (g.parent n))

  low : (n : ℕ) → n < length n2 → parent_of n ≡ cond (eqb n (length n1)) (length old, false) (f.parent n)
  unfolding parent_of
  low n lt = let t : ltb n (length n2) ≡ true = lt-ltb n (length n2) lt in rw t refl

  high : (n : ℕ) → length n2 ≤ n → parent_of n ≡ cond (eqb n (length n2)) (length old, true) (g.parent n)
  unfolding parent_of
  high n ge = let t : ltb n (length n2) ≡ false = le-ltb n (length n2) ge in rw t refl

  -- the node of both halves leads to the first node of each
  own_first : (n : ℕ) (x : Bool) → cond x right left ≡ Node n → ((length old < n) × (n < length new)) × (parent_of n ≡ (length old, x))
  own_first n false is =
      let a = first n is in
      let b = behind_place old n1 n2 n3 h in let c = right_longer old n1 n2 n3 h in let d = new_length old n1 n2 n3 h left right r new node in
      let at = a.0 in let lt = a.1 in
      let e : eqb n (length n1) ≡ true = grind (arith, nat_tests) in
      ((omega arith, omega arith), low n lt ∙ ap (λ (t : Bool). cond t (length old, false) (f.parent n)) e)
  own_first n true is =
      let a = second n is in
      let b = behind_place old n1 n2 n3 h in let c = left_longer old n1 n2 n3 h in let d = new_length old n1 n2 n3 h left right r new node in
      let at = a.0 in let lt = a.1 in
      let e : eqb n (length n2) ≡ true = grind (arith, nat_tests) in
      ((omega arith, omega arith), high n (omega arith) ∙ ap (λ (t : Bool). cond t (length old, true) (g.parent n)) e)

  in_left : (k n : ℕ) (x : Bool) → length old < k → k < length n2 → side (slice_get new k) x ≡ Node n → ((k < n) × (n < length new)) × (parent_of n ≡ (k, x))
  in_left k n x behind lt is =
      let same : slice_get n2 k ≡ slice_get new k = sym (above_place old n1 n2 n3 h left right r new node k behind ∙ left_kept old n1 n2 n3 h k lt) in
      let at : side (slice_get n2 k) x ≡ Node n = ap (λ (o : Option SpecNode). side o x) same ∙ is in
      let b = behind_place old n1 n2 n3 h in let c = right_longer old n1 n2 n3 h in let d = new_length old n1 n2 n3 h left right r new node in
      let ge : length n1 ≤ k = omega arith in
      let to = f.onward k n x ge lt at in
      let up = to.0 in let down = to.1 in
      let e : eqb n (length n1) ≡ false = grind (arith, nat_tests) in
      ((up, omega arith), low n down ∙ ap (λ (t : Bool). cond t (length old, false) (f.parent n)) e ∙ f.own k n x ge lt at)

  in_right : (k n : ℕ) (x : Bool) → length n2 ≤ k → k < length new → side (slice_get new k) x ≡ Node n → ((k < n) × (n < length new)) × (parent_of n ≡ (k, x))
  in_right k n x ge lt is =
      let b = behind_place old n1 n2 n3 h in let c = left_longer old n1 n2 n3 h in let d = new_length old n1 n2 n3 h left right r new node in
      let behind : length old < k = omega arith in
      let same : slice_get n3 k ≡ slice_get new k = sym (above_place old n1 n2 n3 h left right r new node k behind) in
      let at : side (slice_get n3 k) x ≡ Node n = ap (λ (o : Option SpecNode). side o x) same ∙ is in
      let fits : k < length n3 = omega arith in
      let to = g.onward k n x ge fits at in
      let up = to.0 in let down = to.1 in
      let e : eqb n (length n2) ≡ false = grind (arith, nat_tests) in
      ((up, omega arith), high n (omega arith) ∙ ap (λ (t : Bool). cond t (length old, true) (g.parent n)) e ∙ g.own k n x ge fits at)

  at_place_first : (k n : ℕ) (x : Bool) → k ≡ length old → side (slice_get new k) x ≡ Node n → ((k < n) × (n < length new)) × (parent_of n ≡ (k, x))
  at_place_first k n x here is =
      let there : slice_get new k ≡ Some (record { left = left; right = right }) = ap (slice_get new) here ∙ at_place old n1 n2 n3 h left right r new node in
      let to : cond x right left ≡ Node n = sym (ap (λ (o : Option SpecNode). side o x) there) ∙ is in
      subst (λ (m : ℕ). ((m < n) × (n < length new)) × (parent_of n ≡ (m, x))) (sym here) (own_first n x to)

  at_node : (k n : ℕ) (x : Bool) → length old ≤ k → k < length new → side (slice_get new k) x ≡ Node n → ((k < n) × (n < length new)) × (parent_of n ≡ (k, x))
  at_node k n x ge lt is = elim (cases_lt (length old) k) [
    | inl behind ↦ elim (cases_lt k (length n2)) [
      | inl left_one ↦ in_left k n x behind left_one is
      | inr right_one ↦ in_right k n x right_one lt is
    ]
    | inr up_to ↦ at_place_first k n x (omega arith) is
  ]

  node_forest : IsForest (length old) new
  node_forest = record {
    parent = parent_of;
    onward = λ k n x ge lt is. (at_node k n x ge lt is).0;
    own = λ k n x ge lt is. (at_node k n x ge lt is).1;
  }

pub joined_forest : (old n1 n2 n3 : List SpecNode) (h : AreHalves old n1 n2 n3) (left right r : NodeRecord) (new : List SpecNode) → IsJoined (length old) left right n3 new r → IsForest (length n1) n2 → IsForest (length n2) n3
    → ((n : ℕ) → left ≡ Node n → (n ≡ length n1) × (n < length n2)) → ((n : ℕ) → right ≡ Node n → (n ≡ length n2) × (n < length n3)) → IsForest (length old) new
joined_forest old n1 n2 n3 h left right r new (inl same) f g first second =
    let e = ap length same.nodes in
    let fits : length new ≤ length old = omega (arith, length-take (length old) n3) in record {
      parent = λ n. (n, false);
      onward = λ k n x ge lt is. absurd (omega arith);
      own = λ k n x ge lt is. absurd (omega arith);
    }
joined_forest old n1 n2 n3 h left right r new (inr node) f g first second = node_forest old n1 n2 n3 h left right r new node f g first second

-- ---- where bits lead

-- all bits but the last, and the last one
record EndsIn (bits : List Bool) : Type 0 where
  front : List Bool
  last : Bool
  whole : bits ≡ front ++ last ∷ []
  len : length bits ≡ suc (length front)

ends_in : (x : Bool) (bits : List Bool) → EndsIn (x ∷ bits)
ends_in x [] = record { front = []; last = x; whole = refl; len = refl }
ends_in x (y ∷ bits) = let e = ends_in y bits in record { front = x ∷ e.front; last = e.last; whole = ap (λ (xs : List Bool). x ∷ xs) e.whole; len = ap suc e.len }

module _ (nodes : List SpecNode) (bound : ℕ) (sound : IsSound 0 bound nodes) (forest : IsForest 0 nodes) (some : 0 < length nodes) where
  -- a node to which bits lead is one of the nodes
  on_nodes : (bits : List Bool) (n : ℕ) → lead nodes (Node 0) bits ≡ Node n → n < length nodes
  on_nodes bits n is = subst (IsBelow (length nodes) bound) is (below_lead nodes bound sound (Node 0) bits some)

  record CameFrom (front : List Bool) (last : Bool) (n : ℕ) : Type 0 where
    node : ℕ
    at : lead nodes (Node 0) front ≡ Node node
    there : node < length nodes
    leads : side (slice_get nodes node) last ≡ Node n

  one_step : (r : NodeRecord) (front : List Bool) (x : Bool) (n : ℕ) → lead nodes (Node 0) front ≡ r → lead nodes r (x ∷ []) ≡ Node n → CameFrom front x n
  unfolding lead
  one_step (Node m) front x n is to = record { node = m; at = is; there = on_nodes front m is; leads = to }
  one_step Empty front x n is to = absurd (cc)
  one_step (Data v) front x n is to = absurd (cc)

  came_from : (front : List Bool) (x : Bool) (n : ℕ) → lead nodes (Node 0) (front ++ x ∷ []) ≡ Node n → CameFrom front x n
  came_from front x n is = one_step (lead nodes (Node 0) front) front x n refl (sym (lead-append nodes (Node 0) front (x ∷ [])) ∙ is)

  not_first : (x : Bool) (bits : List Bool) (n : ℕ) → lead nodes (Node 0) (x ∷ bits) ≡ Node n → 0 < n
  not_first x bits n is =
      let e = ends_in x bits in
      let c = came_from e.front e.last n (sym (ap (lead nodes (Node 0)) e.whole) ∙ is) in
      let o = forest.onward c.node n e.last (omega arith) c.there c.leads in
      let up = o.0 in
      omega arith

  first_is : (n : ℕ) → lead nodes (Node 0) [] ≡ Node n → n ≡ 0
  unfolding lead
  first_is n is = sym (same_node 0 n is)

  one_string : (fuel : ℕ) (a b : List Bool) (n : ℕ) → length a ≤ fuel → lead nodes (Node 0) a ≡ Node n → lead nodes (Node 0) b ≡ Node n → a ≡ b
  one_string fuel [] [] n fits is at = refl
  one_string fuel [] (y ∷ b) n fits is at = let e = first_is n is in let f = not_first y b n at in absurd (omega arith)
  one_string fuel (x ∷ a) [] n fits is at = let e = first_is n at in let f = not_first x a n is in absurd (omega arith)
  one_string zero (x ∷ a) (y ∷ b) n fits is at = absurd (omega arith)
  one_string (suc fuel) (x ∷ a) (y ∷ b) n fits is at =
      let e = ends_in x a in
      let f = ends_in y b in
      let c = came_from e.front e.last n (sym (ap (lead nodes (Node 0)) e.whole) ∙ is) in
      let d = came_from f.front f.last n (sym (ap (lead nodes (Node 0)) f.whole) ∙ at) in
      let same : ◌≡◌ {A = ℕ × Bool} (c.node, e.last) (d.node, f.last) =
      sym (forest.own c.node n e.last (omega arith) c.there c.leads) ∙ forest.own d.node n f.last (omega arith) d.there d.leads in
      let node : c.node ≡ d.node = ap (λ (p : ℕ × Bool). p.0) same in
      let bit : e.last ≡ f.last = ap (λ (p : ℕ × Bool). p.1) same in
      let len = e.len in
      let front : e.front ≡ f.front = one_string fuel e.front f.front c.node (omega arith) c.at (d.at ∙ ap Node (sym node)) in
      e.whole ∙ ap (λ (xs : List Bool). xs ++ e.last ∷ []) front ∙ ap (λ (z : Bool). f.front ++ z ∷ []) bit ∙ sym f.whole

  -- a number that is one of a node
  node_of : (r : NodeRecord) → number_in (length nodes) r < length nodes → (n : ℕ) × ((r ≡ Node n) × (number_in (length nodes) r ≡ n))
  node_of (Node n) lt = (n, (refl, refl))
  node_of Empty lt = absurd (omega arith)
  node_of (Data v) lt = absurd (omega arith)

pub one_way : (tree : SearchTree) (nodes : List SpecNode) (bound : ℕ) → tree.node_count ≡ length nodes → HoldsNodes tree.record_size nodes tree.bytes → IsSound 0 bound nodes → IsForest 0 nodes → 0 < length nodes
    → (a b : List Bool) → walk tree a < tree.node_count → walk tree a ≡ walk tree b → a ≡ b
one_way tree nodes bound count are sound forest some a b on same =
    let first : walk_from tree 0 a ≡ number_in (length nodes) (lead nodes (Node 0) a) = same_walk tree nodes bound count are sound (Node 0) a some in
    let second : walk_from tree 0 b ≡ number_in (length nodes) (lead nodes (Node 0) b) = same_walk tree nodes bound count are sound (Node 0) b some in
    let lt : number_in (length nodes) (lead nodes (Node 0) a) < length nodes = subst (λ (k : ℕ). k < length nodes) first (subst (λ (k : ℕ). walk tree a < k) count on) in
    let equal : number_in (length nodes) (lead nodes (Node 0) a) ≡ number_in (length nodes) (lead nodes (Node 0) b) = sym first ∙ same ∙ second in
    let n = node_of nodes bound sound forest some (lead nodes (Node 0) a) lt in
    let m = node_of nodes bound sound forest some (lead nodes (Node 0) b) (subst (λ (k : ℕ). k < length nodes) equal lt) in
    let number : n.0 ≡ m.0 = sym n.1.1 ∙ equal ∙ m.1.1 in
    one_string nodes bound sound forest some (length a) a b n.0 (omega arith) n.1.0 (m.1.0 ∙ ap Node (sym number))
