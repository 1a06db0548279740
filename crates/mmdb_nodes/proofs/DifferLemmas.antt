-- Blocks whose addresses differ.
use Rattle.std.proofs.Common.{◌≡◌, ◌⊎◌, ℕ, zero, suc, ◌+◌, ◌-◌, ◌^◌, ◌<◌, ◌≤◌, inl, inr, Bool, true, false, List, [], ◌∷◌, ◌++◌, Option, length, replicate, refl, ap, sym, ◌∙◌, arith, subst, append_assoc, length-append}
use Rattle.std.specs.List.{slice_get}
use Rattle.mmdb_net.specs.Bits.{bits_of, number_of}
use Rattle.mmdb_tree.specs.Tree.{walk, walk_from, SearchTree}
use Rattle.mmdb_tree.proofs.HighBits.{number-below}
use Rattle.mmdb_nodes.specs.declared.entry.NodeEntry.{NodeEntry}
use Rattle.mmdb_nodes.specs.declared.entry.IpVersion.{IpVersion}
use Rattle.mmdb_nodes.specs.declared.node.Node.{Node as SpecNode}
use Rattle.mmdb_nodes.specs.declared.node.NodeRecord.{NodeRecord}
use Rattle.mmdb_nodes.specs.declared.node.NodeRecord.TheVariants.{Node, Empty, Data}
use Rattle.mmdb_nodes.specs.Entries.{width, offset_in}
use Rattle.mmdb_nodes.specs.Trees.{IsSplit}
use Rattle.mmdb_nodes.specs.Working.{side, step, lead, leaf, IsBelow, IsSound, HasNoTwins, IsLone, AreNodesOf, number_in}
use Rattle.mmdb_nodes.proofs.ByteLemmas.{HoldsNodes, same_walk}
use Rattle.mmdb_nodes.proofs.LeadLemmas.{bits-low, bits-high, lead-leaf, leaf_value, leaf_no_node, cases_of}

-- two leaves that are the same are those of the only node
pub one_or_more : (nodes : List SpecNode) → HasNoTwins 0 nodes ⊎ IsLone nodes → HasNoTwins 0 nodes ⊎ (length nodes ≡ 1)
one_or_more nodes (inl twins) = inl twins
one_or_more nodes (inr lone) = inr (ap length lone.1)

-- ---- bits and numbers

spelled : (bits : List Bool) → bits_of (length bits) (number_of (length bits) bits) ≡ bits
unfolding bits_of
spelled [] = refl
spelled (false ∷ s) =
    let m : ℕ = number_of (length s) s in
    let none : 0 + number_of (length s) s ≡ number_of (length s) s = omega arith in
    ap (bits_of (suc (length s))) none ∙ bits-low (length s) m (number-below (length s) s) ∙ ap (λ (xs : List Bool). false ∷ xs) (spelled s)
spelled (true ∷ s) = bits-high (length s) (number_of (length s) s) (number-below (length s) s) ∙ ap (λ (xs : List Bool). true ∷ xs) (spelled s)

-- bits of that width are those of a number
record IsNumbered (w : ℕ) (bits : List Bool) : Type 0 where
  number : ℕ
  fits : number < 2 ^ w
  are : bits_of w number ≡ bits

numbered : (w : ℕ) (bits : List Bool) → length bits ≡ w → IsNumbered w bits
numbered w bits len = record {
  number = number_of (length bits) bits;
  fits = subst (λ (k : ℕ). number_of (length bits) bits < 2 ^ k) len (number-below (length bits) bits);
  are = subst (λ (k : ℕ). bits_of k (number_of (length bits) bits) ≡ bits) len (spelled bits);
}

-- ---- where bits lead, one after the other

pub lead-append : (nodes : List SpecNode) (r : NodeRecord) (a b : List Bool) → lead nodes r (a ++ b) ≡ lead nodes (lead nodes r a) b
unfolding lead
lead-append nodes r [] b = refl
lead-append nodes r (x ∷ a) b = lead-append nodes (step nodes r x) a b

lead-one : (nodes : List SpecNode) (n : ℕ) (x : Bool) (b : List Bool) → lead nodes (Node n) (x ∷ b) ≡ lead nodes (side (slice_get nodes n) x) b
unfolding lead
lead-one nodes n x b = refl

pub below_lead : (nodes : List SpecNode) (bound : ℕ) → IsSound 0 bound nodes → (r : NodeRecord) (bits : List Bool) → IsBelow (length nodes) bound r → IsBelow (length nodes) bound (lead nodes r bits)
unfolding lead
below_lead nodes bound sound r [] below = below
below_lead nodes bound sound (Node n) (x ∷ bits) below = below_lead nodes bound sound (side (slice_get nodes n) x) bits (sound n x (omega arith) below)
below_lead nodes bound sound Empty (x ∷ bits) below = below_lead nodes bound sound Empty bits below
below_lead nodes bound sound (Data v) (x ∷ bits) below = below_lead nodes bound sound (Data v) bits below

zeros : ℕ → List Bool
zeros n = replicate n false

length-zeros : (n : ℕ) → length (zeros n) ≡ n
unfolding zeros
length-zeros zero = refl
length-zeros (suc n) = ap suc (length-zeros n)

-- Two ways on from these bits, of `left` bits each, lead to leaves that are not the same.
record IsApart (nodes : List SpecNode) (bits : List Bool) (left : ℕ) : Type 0 where
  a : List Bool
  b : List Bool
  a_len : length a ≡ left
  b_len : length b ≡ left
  v : Option ℕ
  w : Option ℕ
  a_leads : lead nodes (Node 0) (bits ++ a) ≡ leaf v
  b_leads : lead nodes (Node 0) (bits ++ b) ≡ leaf w
  apart : ¬ (v ≡ w)

-- one bit earlier
one_earlier : (nodes : List SpecNode) (bits : List Bool) (x : Bool) (left : ℕ) → IsApart nodes (bits ++ x ∷ []) left → IsApart nodes bits (suc left)
one_earlier nodes bits x left h = record {
  a = x ∷ h.a;
  b = x ∷ h.b;
  a_len = ap suc h.a_len;
  b_len = ap suc h.b_len;
  v = h.v;
  w = h.w;
  a_leads = ap (lead nodes (Node 0)) (sym (append_assoc bits (x ∷ []) h.a)) ∙ h.a_leads;
  b_leads = ap (lead nodes (Node 0)) (sym (append_assoc bits (x ∷ []) h.b)) ∙ h.b_leads;
  apart = h.apart;
}

module _ (version : IpVersion) (es : List NodeEntry) (data_len : ℕ) (nodes : List SpecNode) (of : AreNodesOf version es data_len nodes) where
  full_is_leaf : (bits : List Bool) (n : ℕ) → length bits ≡ width version → lead nodes (Node 0) bits ≡ Node n → ⊥
  full_is_leaf bits n len is =
      let number = numbered (width version) bits len in
      leaf_no_node (offset_in es number.number) n (sym (of.leads number.number number.fits) ∙ ap (lead nodes (Node 0)) number.are ∙ is)

  on_side : (bits : List Bool) (n : ℕ) (x : Bool) → lead nodes (Node 0) bits ≡ Node n → lead nodes (Node 0) (bits ++ x ∷ []) ≡ side (slice_get nodes n) x
  unfolding lead
  on_side bits n x is = lead-append nodes (Node 0) bits (x ∷ []) ∙ ap (λ (r : NodeRecord). lead nodes r (x ∷ [])) is

  leads_on : (bits : List Bool) (n : ℕ) (x : Bool) (v : Option ℕ) (b : List Bool) → lead nodes (Node 0) bits ≡ Node n → side (slice_get nodes n) x ≡ leaf v → lead nodes (Node 0) (bits ++ x ∷ b) ≡ leaf v
  leads_on bits n x v b is leads =
      lead-append nodes (Node 0) bits (x ∷ b) ∙ ap (λ (r : NodeRecord). lead nodes r (x ∷ b)) is ∙ lead-one nodes n x b ∙ ap (λ (r : NodeRecord). lead nodes r b) leads ∙ lead-leaf nodes v b

  one_less : (bits : List Bool) (x : Bool) (left : ℕ) → length bits + suc left ≡ width version → length (bits ++ x ∷ []) + left ≡ width version
  one_less bits x left len = let e : length (bits ++ x ∷ []) ≡ length bits + 1 = length-append bits (x ∷ []) in omega arith

  apart_at : HasNoTwins 0 nodes → (left : ℕ) (bits : List Bool) (n : ℕ) → length bits + left ≡ width version → lead nodes (Node 0) bits ≡ Node n → IsApart nodes bits left
  apart_at twins zero bits n len is = absurd (full_is_leaf bits n (omega arith) is)
  apart_at twins (suc left) bits n len is =
      let below : IsBelow (length nodes) data_len (Node n) = subst (IsBelow (length nodes) data_len) is (below_lead nodes data_len of.sound (Node 0) bits of.some) in
      elim (cases_of (side (slice_get nodes n) false)) [
        | inr node ↦ one_earlier nodes bits false left (apart_at twins left (bits ++ false ∷ []) node.0 (one_less bits false left len) (on_side bits n false is ∙ node.1))
        | inl one ↦ elim (cases_of (side (slice_get nodes n) true)) [
          | inr node ↦ one_earlier nodes bits true left (apart_at twins left (bits ++ true ∷ []) node.0 (one_less bits true left len) (on_side bits n true is ∙ node.1))
          | inl other ↦ record {
            a = false ∷ zeros left;
            b = true ∷ zeros left;
            a_len = ap suc (length-zeros left);
            b_len = ap suc (length-zeros left);
            v = one.0;
            w = other.0;
            a_leads = leads_on bits n false one.0 (zeros left) is one.1;
            b_leads = leads_on bits n true other.0 (zeros left) is other.1;
            apart = λ same. twins n one.0 (omega arith) below one.1 (other.1 ∙ ap leaf (sym same));
          }
        ]
      ]

  split_of : (bits : List Bool) (left : ℕ) → length bits + left ≡ width version → IsApart nodes bits left → IsSplit version es bits
  split_of bits left len h =
      let a_len : length (bits ++ h.a) ≡ width version = (let e = length-append bits h.a in let f = h.a_len in omega arith) in
      let b_len : length (bits ++ h.b) ≡ width version = (let e = length-append bits h.b in let f = h.b_len in omega arith) in
      let a = numbered (width version) (bits ++ h.a) a_len in
      let b = numbered (width version) (bits ++ h.b) b_len in
      let a_has : offset_in es a.number ≡ h.v = leaf_value (offset_in es a.number) h.v (sym (of.leads a.number a.fits) ∙ ap (lead nodes (Node 0)) a.are ∙ h.a_leads) in
      let b_has : offset_in es b.number ≡ h.w = leaf_value (offset_in es b.number) h.w (sym (of.leads b.number b.fits) ∙ ap (lead nodes (Node 0)) b.are ∙ h.b_leads) in
      record {
        one = a.number;
        other = b.number;
        fits = a.fits;
        other_fits = b.fits;
        in_block = (h.a, a.are);
        other_in_block = (h.b, b.are);
        differ = λ same. h.apart (sym a_has ∙ same ∙ b_has);
      }

  -- where there is one node, only no bits stay on it
  lone_out : IsLone nodes → (bits : List Bool) (n : ℕ) → ¬ (bits ≡ []) → lead nodes (Node 0) bits ≡ Node n → ⊥
  lone_out lone [] n some is = some refl
  lone_out lone (x ∷ bits) n some is = leaf_no_node lone.0 n (sym (lead-leaf nodes lone.0 bits) ∙ ap (λ (r : NodeRecord). lead nodes r bits) (sym (lone_side x)) ∙ sym (lead-one nodes 0 x bits) ∙ is)
    where
      lone_side : (x : Bool) → side (slice_get nodes 0) x ≡ leaf lone.0
      lone_side true = ap (λ (ns : List SpecNode). side (slice_get ns 0) true) lone.1
      lone_side false = ap (λ (ns : List SpecNode). side (slice_get ns 0) false) lone.1

  node_splits : (bits : List Bool) (n : ℕ) → ¬ (bits ≡ []) → length bits ≤ width version → lead nodes (Node 0) bits ≡ Node n → IsSplit version es bits
  node_splits bits n some len is = elim of.reduced [
    | inr lone ↦ absurd (lone_out lone bits n some is)
    | inl twins ↦
        let left : ℕ = width version - length bits in
        let sum : length bits + (width version - length bits) ≡ width version = omega arith in
        split_of bits (width version - length bits) sum (apart_at twins (width version - length bits) bits n sum is)
  ]

  -- a number that is one of a node
  node_of : (bound : ℕ) (r : NodeRecord) → number_in (length nodes) r < length nodes → IsBelow (length nodes) bound r → (n : ℕ) × (r ≡ Node n)
  node_of bound (Node n) lt below = (n, refl)
  node_of bound Empty lt below = absurd (omega arith)
  node_of bound (Data v) lt below = absurd (omega arith)

  pub blocks_differ : (tree : SearchTree) → tree.node_count ≡ length nodes → HoldsNodes tree.record_size nodes tree.bytes → (bits : List Bool) → ¬ (bits ≡ []) → length bits ≤ width version → walk tree bits < tree.node_count → IsSplit version es bits
  blocks_differ tree count are bits some len on =
      let walked : walk_from tree 0 bits ≡ number_in (length nodes) (lead nodes (Node 0) bits) = same_walk tree nodes data_len count are of.sound (Node 0) bits of.some in
      let lt : number_in (length nodes) (lead nodes (Node 0) bits) < length nodes = subst (λ (k : ℕ). k < length nodes) walked (subst (λ (k : ℕ). walk tree bits < k) count on) in
      let node = node_of data_len (lead nodes (Node 0) bits) lt (below_lead nodes data_len of.sound (Node 0) bits of.some) in
      node_splits bits node.0 some len node.1
