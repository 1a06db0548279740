-- Nodes as bytes.
use Rattle.std.proofs.Common.{◌⊎◌, inl, inr, ap, ◌∙◌, ◌≡◌, ℕ, ◌+◌, ◌*◌, ◌/◌, ◌%◌, ◌^◌, ◌<◌, ◌≤◌, ltb, leb, eqb, eq-eqb, ◌-◌, Bool, true, false, cond, List, [], ◌∷◌, ◌++◌, length, get_or, Option, Some, None, Result, Ok, Err, OnOk, refl, sym, subst, arith, length-append}
use Rattle.std.specs.Result.{is_ok}
use Rattle.std.specs.Int.{w32, to_be_bytes}
use Rattle.std.specs.List.{slice_get}
use Rattle.std.proofs.Math.Nat.{mul-le-mul_right}
use Rattle.std.proofs.lemmas.List.{get_or_append_left, get_or-append-add}
use Rattle.std.proofs.lemmas.Bool.{cases_lt, lt-ltb, le-ltb}
use Rattle.std.proofs.lemmas.Bool.Decides.{nat_tests}
use Rattle.mmdb_tree.specs.Tree.{SearchTree, is_record_size, three_bytes, four_bytes, child, node_bytes, walk_from, walk}
use Rattle.std.specs.Option.{IfSome}
use Rattle.mmdb_net.specs.Bits.{bits_of}
use Rattle.mmdb_nodes.specs.Trees.{bits_in, leaf_of}
use Rattle.mmdb_nodes.proofs.LeadLemmas.{cases_of}
use Rattle.mmdb_nodes.specs.Working.{HasNoTwins, IsUnder, side, lead, IsBelow, IsSound, AddsNode, AreNodes, number_in, leaf}
use Rattle.mmdb_tree.specs.Tree.{step as tree_step}
use Rattle.mmdb_nodes.specs.declared.size.RecordSize.{RecordSize}
use Rattle.mmdb_nodes.specs.declared.size.RecordSize.TheVariants.{Bits24, Bits28, Bits32}
use Rattle.mmdb_nodes.specs.declared.node.Node.{Node as SpecNode}
use Rattle.mmdb_nodes.specs.declared.node.NodeRecord.{NodeRecord}
use Rattle.mmdb_nodes.specs.declared.node.NodeRecord.TheVariants.{Node, Empty, Data}
use Rattle.mmdb_tree.specs.Records.{record_of}

-- the four bytes of a number
bytes_are : (n : ℕ) (b : List ℕ) → b ≡ to_be_bytes w32 n → (get_or b 0 0 ≡ n / 16777216 % 256) × (get_or b 1 0 ≡ n / 65536 % 256) × (get_or b 2 0 ≡ n / 256 % 256) × (get_or b 3 0 ≡ n % 256)
bytes_are n b is = (ap (λ (x : List ℕ). get_or x 0 0) is, ap (λ (x : List ℕ). get_or x 1 0) is, ap (λ (x : List ℕ). get_or x 2 0) is, ap (λ (x : List ℕ). get_or x 3 0) is)

module _ (l r : ℕ) (b d old : List ℕ) (left_bytes : b ≡ to_be_bytes w32 l) (right_bytes : d ≡ to_be_bytes w32 r) where
  pub node_24 : l < 2 ^ 24 → r < 2 ^ 24 → AddsNode 24 l r old (old ++ (get_or b 1 0 ∷ get_or b 2 0 ∷ get_or b 3 0 ∷ get_or d 1 0 ∷ get_or d 2 0 ∷ get_or d 3 0 ∷ []))
  unfolding child
  node_24 h k = let x = bytes_are l b left_bytes in let y = bytes_are r d right_bytes in record {
    more = get_or b 1 0 ∷ get_or b 2 0 ∷ get_or b 3 0 ∷ get_or d 1 0 ∷ get_or d 2 0 ∷ get_or d 3 0 ∷ [];
    grown = refl;
    len = refl;
    left_is = omega (arith, x.1, x.2, x.3);
    right_is = omega (arith, y.1, y.2, y.3);
  }

  pub node_28 : l < 2 ^ 28 → r < 2 ^ 28 → AddsNode 28 l r old (old ++ (get_or b 1 0 ∷ get_or b 2 0 ∷ get_or b 3 0 ∷ (get_or b 0 0 * 16 + get_or d 0 0) ∷ get_or d 1 0 ∷ get_or d 2 0 ∷ get_or d 3 0 ∷ []))
  unfolding child
  node_28 h k = let x = bytes_are l b left_bytes in let y = bytes_are r d right_bytes in record {
    more = get_or b 1 0 ∷ get_or b 2 0 ∷ get_or b 3 0 ∷ (get_or b 0 0 * 16 + get_or d 0 0) ∷ get_or d 1 0 ∷ get_or d 2 0 ∷ get_or d 3 0 ∷ [];
    grown = refl;
    len = refl;
    left_is = omega (arith, x.0, x.1, x.2, x.3, y.0);
    right_is = omega (arith, y.0, y.1, y.2, y.3, x.0);
  }

  pub node_32 : l < 2 ^ 32 → r < 2 ^ 32 → AddsNode 32 l r old (old ++ (get_or b 0 0 ∷ get_or b 1 0 ∷ get_or b 2 0 ∷ get_or b 3 0 ∷ get_or d 0 0 ∷ get_or d 1 0 ∷ get_or d 2 0 ∷ get_or d 3 0 ∷ []))
  unfolding child
  node_32 h k = let x = bytes_are l b left_bytes in let y = bytes_are r d right_bytes in record {
    more = get_or b 0 0 ∷ get_or b 1 0 ∷ get_or b 2 0 ∷ get_or b 3 0 ∷ get_or d 0 0 ∷ get_or d 1 0 ∷ get_or d 2 0 ∷ get_or d 3 0 ∷ [];
    grown = refl;
    len = refl;
    left_is = omega (arith, x.0, x.1, x.2, x.3);
    right_is = omega (arith, y.0, y.1, y.2, y.3);
  }

-- what holds of bytes that were put after others, where they were
pub if_put : {E : Type 0} (r : Result (Unit {0}) E) (P : List ℕ → Type 0) (old text new : List ℕ) → new ≡ cond (is_ok r) text old → P text → OnOk r (P new)
if_put (Ok x) P old text new is h = subst P (sym is) h
if_put (Err e) P old text new is h = tt

-- ---- bytes after others, and bytes before others

byte-seam : (old more : List ℕ) (at d : ℕ) → at ≡ length old + d → get_or (old ++ more) at 0 ≡ get_or more d 0
byte-seam old more at d e = ap (λ (n : ℕ). get_or (old ++ more) n 0) e ∙ get_or-append-add old more d 0

three-seam : (old more : List ℕ) (at d : ℕ) → at ≡ length old + d → three_bytes (old ++ more) at ≡ three_bytes more d
three-seam old more at d e =
    let a = byte-seam old more at d e in
    let b = byte-seam old more (at + 1) (d + 1) (omega arith) in
    let c = byte-seam old more (at + 2) (d + 2) (omega arith) in
    omega arith

four-seam : (old more : List ℕ) (at d : ℕ) → at ≡ length old + d → four_bytes (old ++ more) at ≡ four_bytes more d
four-seam old more at d e =
    let a = byte-seam old more at d e in
    let b = three-seam old more (at + 1) (d + 1) (omega arith) in
    omega arith

byte-kept : (old more : List ℕ) (at : ℕ) → at < length old → get_or (old ++ more) at 0 ≡ get_or old at 0
byte-kept old more at h = get_or_append_left old more 0 at h

three-kept : (old more : List ℕ) (at : ℕ) → at + 3 ≤ length old → three_bytes (old ++ more) at ≡ three_bytes old at
three-kept old more at h =
    let a = byte-kept old more at (omega arith) in
    let b = byte-kept old more (at + 1) (omega arith) in
    let c = byte-kept old more (at + 2) (omega arith) in
    omega arith

four-kept : (old more : List ℕ) (at : ℕ) → at + 4 ≤ length old → four_bytes (old ++ more) at ≡ four_bytes old at
four-kept old more at h =
    let a = byte-kept old more at (omega arith) in
    let b = three-kept old more (at + 1) (omega arith) in
    omega arith

-- ---- nodes after others, and nodes before others

pub size_cases : (size : ℕ) → is_record_size size ≡ true → (size ≡ 24) ⊎ (size ≡ 28) ⊎ (size ≡ 32)
size_cases size h = grind (arith, nat_tests)

pub is_size : (size : RecordSize) → is_record_size (bits_in size) ≡ true
is_size Bits24 = refl
is_size Bits28 = refl
is_size Bits32 = refl

seam_24 : (old more : List ℕ) (k : ℕ) (right : Bool) → length old ≡ k * 6 → child (old ++ more) 24 k right ≡ child more 24 0 right
unfolding child
seam_24 old more k true h = three-seam old more (k * 6 + 3) 3 (omega arith)
seam_24 old more k false h = three-seam old more (k * 6) 0 (omega arith)

seam_28 : (old more : List ℕ) (k : ℕ) (right : Bool) → length old ≡ k * 7 → child (old ++ more) 28 k right ≡ child more 28 0 right
unfolding child
seam_28 old more k true h =
    let a = byte-seam old more (k * 7 + 3) 3 (omega arith) in
    let b = three-seam old more (k * 7 + 4) 4 (omega arith) in
    omega arith
seam_28 old more k false h =
    let a = byte-seam old more (k * 7 + 3) 3 (omega arith) in
    let b = three-seam old more (k * 7) 0 (omega arith) in
    omega arith

seam_32 : (old more : List ℕ) (k : ℕ) (right : Bool) → length old ≡ k * 8 → child (old ++ more) 32 k right ≡ child more 32 0 right
unfolding child
seam_32 old more k true h = four-seam old more (k * 8 + 4) 4 (omega arith)
seam_32 old more k false h = four-seam old more (k * 8) 0 (omega arith)

kept_24 : (old more : List ℕ) (k : ℕ) (right : Bool) → (k + 1) * 6 ≤ length old → child (old ++ more) 24 k right ≡ child old 24 k right
unfolding child
kept_24 old more k true h = three-kept old more (k * 6 + 3) (omega arith)
kept_24 old more k false h = three-kept old more (k * 6) (omega arith)

kept_28 : (old more : List ℕ) (k : ℕ) (right : Bool) → (k + 1) * 7 ≤ length old → child (old ++ more) 28 k right ≡ child old 28 k right
unfolding child
kept_28 old more k true h =
    let a = byte-kept old more (k * 7 + 3) (omega arith) in
    let b = three-kept old more (k * 7 + 4) (omega arith) in
    omega arith
kept_28 old more k false h =
    let a = byte-kept old more (k * 7 + 3) (omega arith) in
    let b = three-kept old more (k * 7) (omega arith) in
    omega arith

kept_32 : (old more : List ℕ) (k : ℕ) (right : Bool) → (k + 1) * 8 ≤ length old → child (old ++ more) 32 k right ≡ child old 32 k right
unfolding child
kept_32 old more k true h = four-kept old more (k * 8 + 4) (omega arith)
kept_32 old more k false h = four-kept old more (k * 8) (omega arith)

child-seam : (size : ℕ) (old more : List ℕ) (k : ℕ) (right : Bool) → is_record_size size ≡ true → length old ≡ k * node_bytes size → child (old ++ more) size k right ≡ child more size 0 right
child-seam size old more k right valid h = elim (size_cases size valid) [
  | inl e ↦ let l : length old ≡ k * 6 = h ∙ ap (λ (n : ℕ). k * node_bytes n) e in rw e (seam_24 old more k right l)
  | inr (inl e) ↦ let l : length old ≡ k * 7 = h ∙ ap (λ (n : ℕ). k * node_bytes n) e in rw e (seam_28 old more k right l)
  | inr (inr e) ↦ let l : length old ≡ k * 8 = h ∙ ap (λ (n : ℕ). k * node_bytes n) e in rw e (seam_32 old more k right l)
]

child-kept : (size : ℕ) (old more : List ℕ) (k : ℕ) (right : Bool) → is_record_size size ≡ true → (k + 1) * node_bytes size ≤ length old → child (old ++ more) size k right ≡ child old size k right
child-kept size old more k right valid h = elim (size_cases size valid) [
  | inl e ↦ let n : node_bytes size ≡ 6 = ap node_bytes e in let m : (k + 1) * node_bytes size ≡ (k + 1) * 6 = ap (λ (x : ℕ). (k + 1) * x) n in let l : (k + 1) * 6 ≤ length old = omega arith in rw e (kept_24 old more k right l)
  | inr (inl e) ↦ let n : node_bytes size ≡ 7 = ap node_bytes e in let m : (k + 1) * node_bytes size ≡ (k + 1) * 7 = ap (λ (x : ℕ). (k + 1) * x) n in let l : (k + 1) * 7 ≤ length old = omega arith in rw e (kept_28 old more k right l)
  | inr (inr e) ↦ let n : node_bytes size ≡ 8 = ap node_bytes e in let m : (k + 1) * node_bytes size ≡ (k + 1) * 8 = ap (λ (x : ℕ). (k + 1) * x) n in let l : (k + 1) * 8 ≤ length old = omega arith in rw e (kept_32 old more k right l)
]

-- ---- the bytes of all nodes

pub number_fits : (count bound size : ℕ) (r : NodeRecord) → count + 16 + bound ≤ 2 ^ size → IsBelow count bound r → number_in count r < 2 ^ size
number_fits count bound size (Node n) room h = omega arith
number_fits count bound size Empty room h = omega arith
number_fits count bound size (Data v) room h = omega arith

-- the bytes have the first nodes, `i` of them, of a tree of that many
pub record HasNodes (size i : ℕ) (nodes : List SpecNode) (bytes : List ℕ) : Type 0 where
  pub len : length bytes ≡ i * node_bytes size
  pub each : (k : ℕ) (right : Bool) → k < i → child bytes size k right ≡ number_in (length nodes) (side (slice_get nodes k) right)

pub one_more_node : (size i : ℕ) (nodes : List SpecNode) (node : SpecNode) (old new : List ℕ) → is_record_size size ≡ true → slice_get nodes i ≡ Some node → HasNodes size i nodes old
    → AddsNode size (number_in (length nodes) node.left) (number_in (length nodes) node.right) old new → HasNodes size (i + 1) nodes new
one_more_node size i nodes node old new valid is h a = record {
  len =
      let e = ap length a.grown in
      let f = h.len in let g = a.len in
      omega (arith, length-append old a.more);
  each = λ k right lt. ap (λ (xs : List ℕ). child xs size k right) a.grown ∙ elim (cases_lt k i) [
    | inl before ↦
        let up : (k + 1) * node_bytes size ≤ i * node_bytes size = mul-le-mul_right (node_bytes size) (omega arith) in
        let f = h.len in
        child-kept size old a.more k right valid (omega arith) ∙ h.each k right before
    | inr here ↦
        let same : k ≡ i = omega arith in
        let at : length old ≡ k * node_bytes size = h.len ∙ ap (λ (n : ℕ). n * node_bytes size) (sym same) in
        let there : slice_get nodes k ≡ Some node = ap (slice_get nodes) same ∙ is in
        let both : child a.more size 0 right ≡ number_in (length nodes) (cond right node.right node.left) = elim right as (λ (b : Bool). child a.more size 0 b ≡ number_in (length nodes) (cond b node.right node.left)) [ true ↦ a.right_is | false ↦ a.left_is ] in
        child-seam size old a.more k right valid at ∙ both ∙ ap (λ (o : Option SpecNode). number_in (length nodes) (side o right)) (sym there)
  ];
}

-- the bytes have these nodes, whatever follows them
abbrev pub HoldsNodes : ℕ → List SpecNode → List ℕ → Type 0
HoldsNodes size nodes bytes = (k : ℕ) (right : Bool) → k < length nodes → child bytes size k right ≡ number_in (length nodes) (side (slice_get nodes k) right)

pub with_behind : (size : ℕ) (nodes : List SpecNode) (bytes behind : List ℕ) → is_record_size size ≡ true → AreNodes size nodes bytes → HoldsNodes size nodes (bytes ++ behind)
with_behind size nodes bytes behind valid are k right lt =
    let up : (k + 1) * node_bytes size ≤ length nodes * node_bytes size = mul-le-mul_right (node_bytes size) (omega arith) in
    let e = are.len in
    child-kept size bytes behind k right valid (omega arith) ∙ are.each k right lt

-- ---- walks over the bytes are walks over the nodes

pub step-on : (tree : SearchTree) (n : ℕ) (x : Bool) → n < tree.node_count → tree_step tree n x ≡ child tree.bytes tree.record_size n x
unfolding tree_step
step-on tree n x on = let test : ltb n tree.node_count ≡ true = lt-ltb n tree.node_count on in rw test refl

pub step-off : (tree : SearchTree) (n : ℕ) (x : Bool) → tree.node_count ≤ n → tree_step tree n x ≡ n
unfolding tree_step
step-off tree n x out = let test : ltb n tree.node_count ≡ false = le-ltb n tree.node_count out in rw test refl

leaf_out : (most count : ℕ) (v : Option ℕ) → most ≡ count → most ≤ number_in count (leaf v)
leaf_out most count None e = omega arith
leaf_out most count (Some v) e = omega arith

pub same_walk : (tree : SearchTree) (nodes : List SpecNode) (bound : ℕ) → tree.node_count ≡ length nodes → HoldsNodes tree.record_size nodes tree.bytes → IsSound 0 bound nodes → (r : NodeRecord) (bits : List Bool) → IsBelow (length nodes) bound r
    → walk_from tree (number_in (length nodes) r) bits ≡ number_in (length nodes) (lead nodes r bits)
unfolding walk_from lead
same_walk tree nodes bound count are sound r [] below = refl
same_walk tree nodes bound count are sound (Node n) (x ∷ bits) below =
    let on : n < tree.node_count = omega arith in
    let to : tree_step tree n x ≡ number_in (length nodes) (side (slice_get nodes n) x) = step-on tree n x on ∙ are n x below in
    ap (λ (m : ℕ). walk_from tree m bits) to ∙ same_walk tree nodes bound count are sound (side (slice_get nodes n) x) bits (sound n x (omega arith) below)
same_walk tree nodes bound count are sound Empty (x ∷ bits) below =
    let out : tree.node_count ≤ number_in (length nodes) Empty = leaf_out tree.node_count (length nodes) None count in
    ap (λ (m : ℕ). walk_from tree m bits) (step-off tree (number_in (length nodes) Empty) x out) ∙ same_walk tree nodes bound count are sound Empty bits below
same_walk tree nodes bound count are sound (Data v) (x ∷ bits) below =
    let out : tree.node_count ≤ number_in (length nodes) (Data v) = leaf_out tree.node_count (length nodes) (Some v) count in
    ap (λ (m : ℕ). walk_from tree m bits) (step-off tree (number_in (length nodes) (Data v)) x out) ∙ same_walk tree nodes bound count are sound (Data v) bits below

-- the outcome of a record that leads to a value or to none
pub record_of-leaf : (count data_len : ℕ) (v : Option ℕ) → IsBelow count data_len (leaf v) → record_of count data_len (number_in count (leaf v)) ≡ leaf_of v
unfolding record_of
record_of-leaf count data_len None h =
    let a : ltb count count ≡ false = le-ltb count count (omega arith) in
    let b : eqb count count ≡ true = eq-eqb count count refl in
    rw (a, b) refl
record_of-leaf count data_len (Some v) h =
    let a : ltb (count + 16 + v) count ≡ false = le-ltb (count + 16 + v) count (omega arith) in
    let b : eqb (count + 16 + v) count ≡ false = grind (arith, nat_tests) in
    let c : leb (count + 16) (count + 16 + v) ≡ true = grind (arith, nat_tests) in
    let d : count + 16 + v - count - 16 ≡ v = omega arith in
    let e : ltb v data_len ≡ true = lt-ltb v data_len h in
    rw (a, b, c, d, e) refl

leaf_is_below : (count bound : ℕ) (v : Option ℕ) → IfSome v (IsUnder bound) → IsBelow count bound (leaf v)
leaf_is_below count bound None h = tt
leaf_is_below count bound (Some v) h = h

-- the bytes lead where the nodes do
pub bytes_lead : (tree : SearchTree) (nodes : List SpecNode) (data_len width a : ℕ) (v : Option ℕ) → tree.node_count ≡ length nodes → 0 < length nodes → HoldsNodes tree.record_size nodes tree.bytes → IsSound 0 data_len nodes
    → lead nodes (Node 0) (bits_of width a) ≡ leaf v → IfSome v (IsUnder data_len) → record_of tree.node_count data_len (walk tree (bits_of width a)) ≡ leaf_of v
bytes_lead tree nodes data_len width a v count some are sound leads below =
    let walked : walk_from tree 0 (bits_of width a) ≡ number_in (length nodes) (lead nodes (Node 0) (bits_of width a)) = same_walk tree nodes data_len count are sound (Node 0) (bits_of width a) some in
    ap (λ (n : ℕ). record_of n data_len (walk tree (bits_of width a))) count
    ∙ ap (record_of (length nodes) data_len) (walked ∙ ap (number_in (length nodes)) leads)
    ∙ record_of-leaf (length nodes) data_len v (leaf_is_below (length nodes) data_len v below)

-- ---- leaves that are the same

number_of_leaf : (count : ℕ) (v w : Option ℕ) → number_in count (leaf v) ≡ number_in count (leaf w) → v ≡ w
number_of_leaf count None None h = refl
number_of_leaf count None (Some w) h = absurd (omega arith)
number_of_leaf count (Some v) None h = absurd (omega arith)
number_of_leaf count (Some v) (Some w) h = let e : v ≡ w = omega arith in ap Some e

pub no_equal_leaves : (tree : SearchTree) (nodes : List SpecNode) (bound : ℕ) → tree.node_count ≡ length nodes → HoldsNodes tree.record_size nodes tree.bytes → IsSound 0 bound nodes → HasNoTwins 0 nodes ⊎ (length nodes ≡ 1)
    → (n : ℕ) → n < tree.node_count → tree_step tree n false ≡ tree_step tree n true → (tree_step tree n false < tree.node_count) ⊎ (tree.node_count ≡ 1)
no_equal_leaves tree nodes bound count are sound (inr one) n lt same = inr (count ∙ one)
no_equal_leaves tree nodes bound count are sound (inl twins) n lt same =
    let on : n < length nodes = omega arith in
    let left : tree_step tree n false ≡ number_in (length nodes) (side (slice_get nodes n) false) = step-on tree n false lt ∙ are n false on in
    let right : tree_step tree n true ≡ number_in (length nodes) (side (slice_get nodes n) true) = step-on tree n true lt ∙ are n true on in
    let equal : number_in (length nodes) (side (slice_get nodes n) false) ≡ number_in (length nodes) (side (slice_get nodes n) true) = sym left ∙ same ∙ right in
    elim (cases_of (side (slice_get nodes n) false)) [
      | inr node ↦
          let below : IsBelow (length nodes) bound (Node node.0) = subst (IsBelow (length nodes) bound) node.1 (sound n false (omega arith) on) in
          let is : tree_step tree n false ≡ node.0 = left ∙ ap (number_in (length nodes)) node.1 in
          inl (omega arith)
      | inl one ↦ elim (cases_of (side (slice_get nodes n) true)) [
        | inr node ↦
            let below : IsBelow (length nodes) bound (Node node.0) = subst (IsBelow (length nodes) bound) node.1 (sound n true (omega arith) on) in
            let is : node.0 ≡ number_in (length nodes) (leaf one.0) = sym (ap (number_in (length nodes)) node.1) ∙ sym equal ∙ ap (number_in (length nodes)) one.1 in
            let out : length nodes ≤ number_in (length nodes) (leaf one.0) = leaf_out (length nodes) (length nodes) one.0 refl in
            absurd (omega arith)
        | inl other ↦
            let v : one.0 ≡ other.0 = number_of_leaf (length nodes) one.0 other.0 (sym (ap (number_in (length nodes)) one.1) ∙ equal ∙ ap (number_in (length nodes)) other.1) in
            absurd (twins n one.0 (omega arith) on one.1 (other.1 ∙ ap leaf (sym v)))
      ]
    ]
