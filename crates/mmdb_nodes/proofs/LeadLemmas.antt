-- Where bits lead over nodes that were planted.
use Rattle.std.proofs.Common.{◌≡◌, ◌⊎◌, ℕ, suc, zero, ◌+◌, ◌*◌, ◌/◌, ◌-◌, ◌^◌, ◌%◌, ◌<◌, ◌≤◌, ◌==◌, inl, inr, Bool, true, false, cond, List, [], ◌∷◌, ◌++◌, Option, Some, None, length, drop, take, set, refl, ap, sym, ◌∙◌, arith, subst, length-take, length-append, length-set, append-nil, append_assoc}
use Rattle.std.specs.Int.{bit_at}
use Rattle.std.specs.List.{AllByRecursion, slice_get}
use Rattle.std.proofs.Math.Nat.{pow-suc, mul-le-mul_right, div-eq_of_lt}
use Rattle.std.proofs.lemmas.Nat.{pow_pos, pow-add, div-add-mod', shr_high, mod_low}
use Rattle.std.proofs.lemmas.Nat.Bits.{bit_at_cat_low}
use Rattle.std.proofs.lemmas.Bool.{cases_lt, true≢false}
use Rattle.std.proofs.Common.{eqb, take-append-drop}
use Rattle.mmdb_net.specs.Bits.{bit_of, bits_of}
use Rattle.mmdb_nodes.specs.declared.entry.NodeEntry.{NodeEntry}
use Rattle.mmdb_nodes.specs.declared.node.Node.{Node as SpecNode}
use Rattle.mmdb_nodes.specs.declared.node.NodeRecord.{NodeRecord}
use Rattle.mmdb_nodes.specs.declared.node.NodeRecord.TheVariants.{Node, Empty, Data}
use Rattle.mmdb_blocks.specs.Blocks.{end}
use Rattle.mmdb_nodes.specs.Entries.{has, offset_after, IsOrdered, block_of}
use Rattle.mmdb_nodes.specs.Working.{IsInside, IsSmaller, Precedes, Follows, HasOffsetBelow, side, lead, Keeps, Leads, IsBelow, IsSound, HasNoTwins, IsNode, IsJoined, free_bits, leaf}
use Rattle.mmdb_nodes.proofs.EntryLemmas.{offset_after-append, offset_after-none, has-before, has-after, ordered-take, ordered-drop, all-take, all-drop}

-- ---- blocks and their halves

-- of two multiples the lower one leaves room for one more
pub room_between : (p k m : ℕ) → k * p < m * p → k * p + p ≤ m * p
room_between p k m h = elim (cases_lt k m) [
  | inl less ↦ let up : suc k * p ≤ m * p = mul-le-mul_right p less in omega (arith, up)
  | inr more ↦ let down : m * p ≤ k * p = mul-le-mul_right p more in absurd (omega arith)
]

-- what begins before the middle of a block, and where one of its size may, ends there at the latest
pub ends_by_middle : (first half : ℕ) (e : NodeEntry) → first % 2 ^ suc half ≡ 0 → e.first % 2 ^ free_bits e ≡ 0 → free_bits e ≤ half → e.first < first + 2 ^ half → end (block_of e) ≤ first + 2 ^ half
ends_by_middle first half e block entry small before =
    let p : ℕ = 2 ^ free_bits e in
    let x : ℕ = 2 ^ (half - free_bits e) in
    let q : ℕ = first / 2 ^ suc half in
    let k : ℕ = e.first / p in
    let sum : half ≡ free_bits e + (half - free_bits e) = omega arith in
    let size : 2 ^ half ≡ p * x = ap (λ (n : ℕ). 2 ^ n) sum ∙ pow-add 2 (free_bits e) (half - free_bits e) in
    let whole : 2 ^ suc half ≡ p * x * 2 = pow-suc 2 half ∙ ap (λ (n : ℕ). n * 2) size in
    let parts : q * 2 ^ suc half + first % 2 ^ suc half ≡ first = div-add-mod' first (2 ^ suc half) in
    let times : q * 2 ^ suc half ≡ q * (p * x * 2) = ap (λ (n : ℕ). q * n) whole in
    let entry_is : k * p + e.first % p ≡ e.first = div-add-mod' e.first p in
    let middle_is : first + 2 ^ half ≡ (q * x * 2 + x) * p = omega arith in
    let room : k * p + p ≤ (q * x * 2 + x) * p = room_between p k (q * x * 2 + x) (omega arith) in
    omega arith

-- ---- bits

pub bits-low : (half a : ℕ) → a < 2 ^ half → bits_of (suc half) a ≡ false ∷ bits_of half a
unfolding bits_of
bits-low half a h =
    let bit : bit_of a half ≡ false = ap (λ (n : ℕ). n % 2 == 1) (div-eq_of_lt h) in
    rw bit refl

same_low : (count half b : ℕ) → count ≤ half → bits_of count (2 ^ half + b) ≡ bits_of count b
unfolding bits_of
same_low zero half b h = refl
same_low (suc k) half b h =
    let one : 2 ^ half + b ≡ 1 * 2 ^ half + b = omega arith in
    let place : bit_at (2 ^ half + b) k ≡ bit_at b k = ap (λ (n : ℕ). bit_at n k) one ∙ bit_at_cat_low 1 half b k (omega arith) in
    let bit : bit_of (2 ^ half + b) k ≡ bit_of b k = ap (λ (n : ℕ). n == 1) place in
    rw bit (ap (λ (xs : List Bool). bit_of b k ∷ xs) (same_low k half b (omega arith)))

pub bits-high : (half b : ℕ) → b < 2 ^ half → bits_of (suc half) (2 ^ half + b) ≡ true ∷ bits_of half b
unfolding bits_of
bits-high half b h =
    let one : 2 ^ half + b ≡ 1 * 2 ^ half + b = omega arith in
    let high : (2 ^ half + b) / 2 ^ half ≡ 1 = ap (λ (n : ℕ). n / 2 ^ half) one ∙ shr_high 1 half b h in
    let bit : bit_of (2 ^ half + b) half ≡ true = ap (λ (n : ℕ). n % 2 == 1) high in
    rw bit (ap (λ (xs : List Bool). true ∷ xs) (same_low half half b (omega arith)))

-- ---- halves of entries

pub low_inside : (first half : ℕ) (es : List NodeEntry) → first % 2 ^ suc half ≡ 0 → AllByRecursion (IsInside first (suc half)) es → AllByRecursion (IsSmaller (suc half)) es → AllByRecursion (Precedes (first + 2 ^ half)) es → AllByRecursion (IsInside first half) es
low_inside first half [] block all small before = tt
low_inside first half (e ∷ es) block all small before = (
  record {
    from = all.0.from;
    to = ends_by_middle first half e block all.0.aligned (let s = small.0 in omega arith) before.0;
    small = let s = small.0 in omega arith;
    aligned = all.0.aligned;
    prefix = all.0.prefix;
  },
  low_inside first half es block all.1 small.1 before.1,
)

pub high_inside : (first half : ℕ) (es : List NodeEntry) → AllByRecursion (IsInside first (suc half)) es → AllByRecursion (IsSmaller (suc half)) es → AllByRecursion (Follows (first + 2 ^ half)) es → AllByRecursion (IsInside (first + 2 ^ half) half) es
high_inside first half [] all small after = tt
high_inside first half (e ∷ es) all small after = (
  record {
    from = after.0;
    to = (let t = all.0.to in let double = pow-suc 2 half in omega arith);
    small = let s = small.0 in omega arith;
    aligned = all.0.aligned;
    prefix = all.0.prefix;
  },
  high_inside first half es all.1 small.1 after.1,
)

none_of_high : (first half a : ℕ) (es : List NodeEntry) → a < 2 ^ half → AllByRecursion (Follows (first + 2 ^ half)) es → AllByRecursion (λ e. has e (first + a) ≡ false) es
none_of_high first half a [] lt after = tt
none_of_high first half a (e ∷ es) lt after = (has-before e (first + a) (let f = after.0 in omega arith), none_of_high first half a es lt after.1)

none_of_low : (middle b : ℕ) (es : List NodeEntry) → AllByRecursion (λ e. end (block_of e) ≤ middle) es → AllByRecursion (λ e. has e (middle + b) ≡ false) es
none_of_low middle b [] ends = tt
none_of_low middle b (e ∷ es) ends = (has-after e (middle + b) (let f = ends.0 in omega arith), none_of_low middle b es ends.1)

low_ends : (first half : ℕ) (es : List NodeEntry) → AllByRecursion (IsInside first half) es → AllByRecursion (λ e. end (block_of e) ≤ first + 2 ^ half) es
low_ends first half [] all = tt
low_ends first half (e ∷ es) all = (all.0.to, low_ends first half es all.1)

pub low_value : (found : Option ℕ) (first half a : ℕ) (low high : List NodeEntry) → a < 2 ^ half → AllByRecursion (Follows (first + 2 ^ half)) high → offset_after found (low ++ high) (first + a) ≡ offset_after found low (first + a)
low_value found first half a low high lt after = offset_after-append found low high (first + a) ∙ offset_after-none (offset_after found low (first + a)) high (first + a) (none_of_high first half a high lt after)

pub high_value : (found : Option ℕ) (first half b : ℕ) (low high : List NodeEntry) → AllByRecursion (IsInside first half) low → offset_after found (low ++ high) (first + (2 ^ half + b)) ≡ offset_after found high (first + 2 ^ half + b)
high_value found first half b low high all =
    let sum : first + (2 ^ half + b) ≡ first + 2 ^ half + b = omega arith in
    ap (offset_after found (low ++ high)) sum ∙ offset_after-append found low high (first + 2 ^ half + b)
    ∙ ap (λ (o : Option ℕ). offset_after o high (first + 2 ^ half + b)) (offset_after-none found low (first + 2 ^ half + b) (none_of_low (first + 2 ^ half) b low (low_ends first half low all)))

-- ---- lists of nodes

slice_get-append_left : (xs ys : List SpecNode) (k : ℕ) → k < length xs → slice_get (xs ++ ys) k ≡ slice_get xs k
slice_get-append_left [] ys k h = absurd (omega arith)
slice_get-append_left (x ∷ xs) ys zero h = refl
slice_get-append_left (x ∷ xs) ys (suc k) h = slice_get-append_left xs ys k (omega arith)

slice_get-set_same : (xs : List SpecNode) (i : ℕ) (y : SpecNode) → i < length xs → slice_get (set xs i y) i ≡ Some y
slice_get-set_same [] i y h = absurd (omega arith)
slice_get-set_same (x ∷ xs) zero y h = refl
slice_get-set_same (x ∷ xs) (suc i) y h = slice_get-set_same xs i y (omega arith)

slice_get-set_above : (xs : List SpecNode) (i k : ℕ) (y : SpecNode) → i < k → slice_get (set xs i y) k ≡ slice_get xs k
slice_get-set_above [] i k y h = refl
slice_get-set_above (x ∷ xs) i zero y h = absurd (omega arith)
slice_get-set_above (x ∷ xs) zero (suc k) y h = refl
slice_get-set_above (x ∷ xs) (suc i) (suc k) y h = slice_get-set_above xs i k y (omega arith)

take-append_front : (xs ys : List SpecNode) → take (length xs) (xs ++ ys) ≡ xs
take-append_front [] ys = refl
take-append_front (x ∷ xs) ys = ap (λ (zs : List SpecNode). x ∷ zs) (take-append_front xs ys)

set-append_back : (xs ys : List SpecNode) (y : SpecNode) → set (xs ++ ys) (length xs) y ≡ xs ++ set ys 0 y
set-append_back [] ys y = refl
set-append_back (x ∷ xs) ys y = ap (λ (zs : List SpecNode). x ∷ zs) (set-append_back xs ys y)

-- ---- records

pub lead-leaf : (nodes : List SpecNode) (v : Option ℕ) (bits : List Bool) → lead nodes (leaf v) bits ≡ leaf v
unfolding lead
lead-leaf nodes v [] = refl
lead-leaf nodes None (x ∷ bits) = lead-leaf nodes None bits
lead-leaf nodes (Some offset) (x ∷ bits) = lead-leaf nodes (Some offset) bits

lead-node : (nodes : List SpecNode) (n : ℕ) (node : SpecNode) (x : Bool) (bits : List Bool) → slice_get nodes n ≡ Some node → lead nodes (Node n) (x ∷ bits) ≡ lead nodes (cond x node.right node.left) bits
unfolding lead
lead-node nodes n node x bits h = ap (λ (o : Option SpecNode). lead nodes (side o x) bits) h

pub Keeps-refl : (from : ℕ) (nodes : List SpecNode) → Keeps from nodes nodes
Keeps-refl from nodes k h l = refl

pub IsBelow-more : (m n bound : ℕ) (r : NodeRecord) → m ≤ n → IsBelow m bound r → IsBelow n bound r
IsBelow-more m n bound (Node k) h b = omega arith
IsBelow-more m n bound Empty h b = tt
IsBelow-more m n bound (Data v) h b = b

-- a leaf is below any number of nodes
leaf_below : (m n bound : ℕ) (v : Option ℕ) → IsBelow m bound (leaf v) → IsBelow n bound (leaf v)
leaf_below m n bound None b = tt
leaf_below m n bound (Some v) b = b

pub leaf_value : (v w : Option ℕ) → leaf v ≡ leaf w → v ≡ w
leaf_value None None h = refl
leaf_value None (Some w) h = absurd (cc)
leaf_value (Some v) None h = absurd (cc)
leaf_value (Some v) (Some w) h = cc

pub leaf_no_node : (v : Option ℕ) (n : ℕ) → leaf v ≡ Node n → ⊥
leaf_no_node None n h = cc
leaf_no_node (Some v) n h = cc

-- a record is a leaf or a node
pub cases_of : (r : NodeRecord) → ((v : Option ℕ) × (r ≡ leaf v)) ⊎ ((n : ℕ) × (r ≡ Node n))
cases_of (Node n) = inr (n, refl)
cases_of Empty = inl (None, refl)
cases_of (Data offset) = inl (Some offset, refl)

-- what entries for all of a block say
pub own_leads : (from : ℕ) (nodes : List SpecNode) (v found : Option ℕ) (first free : ℕ) (es : List NodeEntry) → ((a : ℕ) → a < 2 ^ free → v ≡ offset_after found es (first + a)) → Leads from nodes (leaf v) first free found es
own_leads from nodes v found first free es h = record { to = λ all keeps a lt. lead-leaf all v (bits_of free a) ∙ ap leaf (h a lt) }

-- the nodes of two halves after the place of their own node
pub record AreHalves (old n1 n2 n3 : List SpecNode) : Type 0 where
  pub blank : SpecNode
  pub placed : n1 ≡ old ++ blank ∷ []
  pub lefts : List SpecNode
  pub left_grown : n2 ≡ n1 ++ lefts
  pub rights : List SpecNode
  pub right_grown : n3 ≡ n2 ++ rights

module _ (old n1 n2 n3 : List SpecNode) (h : AreHalves old n1 n2 n3) where
  pub behind_place : length n1 ≡ length old + 1
  behind_place = let e = ap length h.placed in omega (arith, length-append old (h.blank ∷ []))

  pub left_longer : length n1 ≤ length n2
  left_longer = let e = ap length h.left_grown in omega (arith, length-append n1 h.lefts)

  pub right_longer : length n2 ≤ length n3
  right_longer = let e = ap length h.right_grown in omega (arith, length-append n2 h.rights)

  old_first : n3 ≡ old ++ (h.blank ∷ [] ++ h.lefts ++ h.rights)
  old_first = h.right_grown ∙ ap (λ (xs : List SpecNode). xs ++ h.rights) (h.left_grown ∙ ap (λ (xs : List SpecNode). xs ++ h.lefts) h.placed) ∙ simp append_assoc

  pub joined_grown : (left right r : NodeRecord) (new : List SpecNode) → IsJoined (length old) left right n3 new r → (more : List SpecNode) × (new ≡ old ++ more)
  joined_grown left right r new (inl same) = ([], same.nodes ∙ ap (take (length old)) old_first ∙ take-append_front old _ ∙ sym (append-nil old))
  joined_grown left right r new (inr node) = (_, node.nodes ∙ ap (λ (xs : List SpecNode). set xs (length old) (record { left = left; right = right })) old_first ∙ set-append_back old _ _)

  node_there : length old < length n3
  node_there = let a = behind_place in let b = left_longer in let c = right_longer in omega arith

  pub left_kept : (k : ℕ) → k < length n2 → slice_get n3 k ≡ slice_get n2 k
  left_kept k lt = ap (λ (xs : List SpecNode). slice_get xs k) h.right_grown ∙ slice_get-append_left n2 h.rights k lt

  module _ (left right r : NodeRecord) (new : List SpecNode) (node : IsNode (length old) left right n3 new r) where
    pub new_length : length new ≡ length n3
    new_length = ap length node.nodes ∙ length-set n3 (length old) _

    pub at_place : slice_get new (length old) ≡ Some (record { left = left; right = right })
    at_place = ap (λ (xs : List SpecNode). slice_get xs (length old)) node.nodes ∙ slice_get-set_same n3 (length old) _ node_there

    pub above_place : (k : ℕ) → length old < k → slice_get new k ≡ slice_get n3 k
    above_place k lt = ap (λ (xs : List SpecNode). slice_get xs k) node.nodes ∙ slice_get-set_above n3 (length old) k _ lt

    pub keeps_left : (all : List SpecNode) → Keeps (length old) new all → Keeps (length n1) n2 all
    keeps_left all keeps k ge lt =
        let a = behind_place in let b = right_longer in let c = new_length in
        keeps k (omega arith) (omega arith) ∙ above_place k (omega arith) ∙ left_kept k lt

    pub keeps_right : (all : List SpecNode) → Keeps (length old) new all → Keeps (length n2) n3 all
    keeps_right all keeps k ge lt =
        let a = behind_place in let b = left_longer in let c = new_length in
        keeps k (omega arith) (omega arith) ∙ above_place k (omega arith)

    pub node_at : (all : List SpecNode) → Keeps (length old) new all → slice_get all (length old) ≡ Some (record { left = left; right = right })
    node_at all keeps = let c = new_length in let d = node_there in keeps (length old) (omega arith) (omega arith) ∙ at_place

  module _ (left right r : NodeRecord) (new : List SpecNode) (found : Option ℕ) (first half : ℕ) (low high : List NodeEntry)
      (l : Leads (length n1) n2 left first half found low) (m : Leads (length n2) n3 right (first + 2 ^ half) half found high)
      (inside : AllByRecursion (IsInside first half) low) (after : AllByRecursion (Follows (first + 2 ^ half)) high) where
    double : 2 ^ suc half ≡ 2 ^ half + 2 ^ half
    double = let e = pow-suc 2 half in omega arith

    pub joined_leads : IsJoined (length old) left right n3 new r → (a : ℕ) → a < 2 ^ suc half → (all : List SpecNode) → Keeps (length old) new all → lead all r (bits_of (suc half) a) ≡ leaf (offset_after found (low ++ high) (first + a))
    joined_leads (inl same) a lt all keeps = elim (cases_lt a (2 ^ half)) [
      | inl below ↦
          let to = l.to n2 (Keeps-refl (length n1) n2) a below in
          let stays = lead-leaf n2 same.value (bits_of half a) in
          let at : lead n2 left (bits_of half a) ≡ leaf same.value = ap (λ (x : NodeRecord). lead n2 x (bits_of half a)) same.left_is ∙ stays in
          ap (λ (x : NodeRecord). lead all x (bits_of (suc half) a)) same.result_is ∙ lead-leaf all same.value (bits_of (suc half) a) ∙ sym at ∙ to ∙ ap leaf (sym (low_value found first half a low high below after))
      | inr above ↦
          let b : ℕ = a - 2 ^ half in
          let parts : a ≡ 2 ^ half + b = omega arith in
          let e = double in
          let fits : b < 2 ^ half = omega arith in
          let to = m.to n3 (Keeps-refl (length n2) n3) b fits in
          let stays = lead-leaf n3 same.value (bits_of half b) in
          let at : lead n3 right (bits_of half b) ≡ leaf same.value = ap (λ (x : NodeRecord). lead n3 x (bits_of half b)) same.right_is ∙ stays in
          ap (λ (x : NodeRecord). lead all x (bits_of (suc half) a)) same.result_is ∙ lead-leaf all same.value (bits_of (suc half) a) ∙ sym at ∙ to
          ∙ ap leaf (sym (ap (λ (n : ℕ). offset_after found (low ++ high) (first + n)) parts ∙ high_value found first half b low high inside))
    ]
    joined_leads (inr node) a lt all keeps = elim (cases_lt a (2 ^ half)) [
      | inl below ↦
          ap (λ (x : NodeRecord). lead all x (bits_of (suc half) a)) node.result_is ∙ ap (lead all (Node (length old))) (bits-low half a below)
          ∙ lead-node all (length old) _ false (bits_of half a) (node_at left right r new node all keeps)
          ∙ l.to all (keeps_left left right r new node all keeps) a below ∙ ap leaf (sym (low_value found first half a low high below after))
      | inr above ↦
          let b : ℕ = a - 2 ^ half in
          let parts : a ≡ 2 ^ half + b = omega arith in
          let e = double in
          let fits : b < 2 ^ half = omega arith in
          ap (λ (x : NodeRecord). lead all x (bits_of (suc half) a)) node.result_is ∙ ap (λ (n : ℕ). lead all (Node (length old)) (bits_of (suc half) n)) parts
          ∙ ap (lead all (Node (length old))) (bits-high half b fits)
          ∙ lead-node all (length old) _ true (bits_of half b) (node_at left right r new node all keeps)
          ∙ m.to all (keeps_right left right r new node all keeps) b fits
          ∙ ap leaf (sym (ap (λ (n : ℕ). offset_after found (low ++ high) (first + n)) parts ∙ high_value found first half b low high inside))
    ]

  pub joined_sound : (left right r : NodeRecord) (new : List SpecNode) (bound : ℕ) → IsJoined (length old) left right n3 new r → IsSound (length n1) bound n2 → IsSound (length n2) bound n3 → IsBelow (length n2) bound left → IsBelow (length n3) bound right → IsSound (length old) bound new
  joined_sound left right r new bound (inl same) s t b c k x ge lt =
      let e = ap length same.nodes in absurd (omega (arith, length-take (length old) n3))
  joined_sound left right r new bound (inr node) s t b c k x ge lt =
      let e = new_length left right r new node in
      let f = behind_place in
      let g = left_longer in
      let i = right_longer in
      let wider : (y : NodeRecord) → IsBelow (length n2) bound y → IsBelow (length new) bound y = λ y. IsBelow-more (length n2) (length new) bound y (omega arith) in
      let same : (y : NodeRecord) → IsBelow (length n3) bound y → IsBelow (length new) bound y = λ y. IsBelow-more (length n3) (length new) bound y (omega arith) in
      elim (cases_lt (length old) k) [
        | inl behind ↦ elim (cases_lt k (length n2)) [
          | inl in_left ↦
              let is : slice_get new k ≡ slice_get n2 k = above_place left right r new node k behind ∙ left_kept k in_left in
              subst (λ (o : Option SpecNode). IsBelow (length new) bound (side o x)) (sym is) (wider _ (s k x (omega arith) in_left))
          | inr in_right ↦
              let is : slice_get new k ≡ slice_get n3 k = above_place left right r new node k behind in
              subst (λ (o : Option SpecNode). IsBelow (length new) bound (side o x)) (sym is) (same _ (t k x in_right (omega arith)))
        ]
        | inr up_to ↦
            let here : k ≡ length old = omega arith in
            let is : slice_get new k ≡ Some (record { left = left; right = right }) = ap (slice_get new) here ∙ at_place left right r new node in
            let both : IsBelow (length new) bound (cond x right left) = elim x as (λ y. IsBelow (length new) bound (cond y right left)) [ true ↦ same right c | false ↦ wider left b ] in
            subst (λ (o : Option SpecNode). IsBelow (length new) bound (side o x)) (sym is) both
      ]

  pub joined_below : (left right r : NodeRecord) (new : List SpecNode) (bound : ℕ) → IsJoined (length old) left right n3 new r → IsBelow (length n2) bound left → IsBelow (length new) bound r
  joined_below left right r new bound (inl same) b =
      let at : IsBelow (length n2) bound (leaf same.value) = subst (IsBelow (length n2) bound) same.left_is b in
      subst (IsBelow (length new) bound) (sym same.result_is) (leaf_below (length n2) (length new) bound same.value at)
  joined_below left right r new bound (inr node) b =
      let e = new_length left right r new node in let f = node_there in
      let lt : length old < length new = omega arith in
      subst (IsBelow (length new) bound) (sym node.result_is) lt

  pub joined_reduced : (left right r : NodeRecord) (new : List SpecNode) → IsJoined (length old) left right n3 new r → HasNoTwins (length n1) n2 → HasNoTwins (length n2) n3 → HasNoTwins (length old) new
  joined_reduced left right r new (inl same) s t k v ge lt a b =
      let e = ap length same.nodes in absurd (omega (arith, length-take (length old) n3))
  joined_reduced left right r new (inr node) s t k v ge lt a b =
      let e = new_length left right r new node in
      let f = behind_place in
      elim (cases_lt (length old) k) [
        | inl behind ↦ elim (cases_lt k (length n2)) [
          | inl in_left ↦
              let is : slice_get n2 k ≡ slice_get new k = sym (above_place left right r new node k behind ∙ left_kept k in_left) in
              s k v (omega arith) in_left (ap (λ (o : Option SpecNode). side o false) is ∙ a) (ap (λ (o : Option SpecNode). side o true) is ∙ b)
          | inr in_right ↦
              let is : slice_get n3 k ≡ slice_get new k = sym (above_place left right r new node k behind) in
              t k v in_right (omega arith) (ap (λ (o : Option SpecNode). side o false) is ∙ a) (ap (λ (o : Option SpecNode). side o true) is ∙ b)
        ]
        | inr up_to ↦
            let here : k ≡ length old = omega arith in
            let is : Some (record { left = left; right = right }) ≡ slice_get new k = sym (ap (slice_get new) here ∙ at_place left right r new node) in
            node.differ v (ap (λ (o : Option SpecNode). side o false) is ∙ a) (ap (λ (o : Option SpecNode). side o true) is ∙ b)
      ]

  -- a node that stands for two halves is the one at their place
  pub joined_place : (left right r : NodeRecord) (new : List SpecNode) (n : ℕ) → IsJoined (length old) left right n3 new r → r ≡ Node n → (n ≡ length old) × (n < length new)
  joined_place left right r new n (inl same) is = let e = same.result_is in absurd (leaf_no_node same.value n (sym e ∙ is))
  joined_place left right r new n (inr node) is =
      let e = node.result_is in let f : Node (length old) ≡ Node n = sym e ∙ is in
      let g : n ≡ length old = cc in
      let k = new_length left right r new node in let m = node_there in
      (g, omega arith)

-- ---- the block and its halves, by numbers

pub free_positive : (free : ℕ) (es : List NodeEntry) → eqb (length es) 0 ≡ false → AllByRecursion (IsSmaller free) es → 1 ≤ free
free_positive free [] test small = absurd (true≢false test)
free_positive free (e ∷ es) test small = let s = small.0 in omega arith

pub low_aligned : (first half : ℕ) → first % 2 ^ suc half ≡ 0 → first % 2 ^ half ≡ 0
low_aligned first half block =
    let q : ℕ = first / 2 ^ suc half in
    let parts = div-add-mod' first (2 ^ suc half) in
    let twice : q * 2 ^ suc half ≡ q * (2 ^ half * 2) = ap (λ (n : ℕ). q * n) (pow-suc 2 half) in
    let is : first ≡ q * 2 * 2 ^ half + 0 = omega arith in
    ap (λ (n : ℕ). n % 2 ^ half) is ∙ mod_low (q * 2) half 0 (pow_pos half)

pub high_aligned : (first half : ℕ) → first % 2 ^ suc half ≡ 0 → (first + 2 ^ half) % 2 ^ half ≡ 0
high_aligned first half block =
    let q : ℕ = first / 2 ^ suc half in
    let parts = div-add-mod' first (2 ^ suc half) in
    let twice : q * 2 ^ suc half ≡ q * (2 ^ half * 2) = ap (λ (n : ℕ). q * n) (pow-suc 2 half) in
    let is : first + 2 ^ half ≡ (q * 2 + 1) * 2 ^ half + 0 = omega arith in
    ap (λ (n : ℕ). n % 2 ^ half) is ∙ mod_low (q * 2 + 1) half 0 (pow_pos half)

-- ---- what is left of a block's entries, cut at its middle

pub halves_of : (free : ℕ) → 1 ≤ free → 2 ^ free ≡ 2 ^ (free - 1) + 2 ^ (free - 1)
halves_of free h = let e : free ≡ suc (free - 1) = omega arith in let d = pow-suc 2 (free - 1) in ap (λ (n : ℕ). 2 ^ n) e ∙ (omega arith)

-- the entries that are left, where they are cut, and what is known of them
pub record IsCut (first free middle : ℕ) (rest low high : List NodeEntry) : Type 0 where
  pub positive : 1 ≤ free
  pub block : first % 2 ^ free ≡ 0
  pub middle_is : middle ≡ first + 2 ^ (free - 1)
  pub all : AllByRecursion (IsInside first free) rest
  pub small : AllByRecursion (IsSmaller free) rest
  pub order : IsOrdered rest
  pub place : ℕ
  pub low_is : low ≡ take place rest
  pub high_is : high ≡ drop place rest
  pub before : AllByRecursion (Precedes middle) (take place rest)
  pub after : AllByRecursion (Follows middle) (drop place rest)

module _ (first free middle : ℕ) (rest low high : List NodeEntry) (c : IsCut first free middle rest low high) where
  pub free_is : free ≡ suc (free - 1)
  free_is = let p = c.positive in omega arith

  block_is : first % 2 ^ suc (free - 1) ≡ 0
  block_is = ap (λ (n : ℕ). first % 2 ^ n) (sym free_is) ∙ c.block

  pub cut_low_order : IsOrdered low
  cut_low_order = subst IsOrdered (sym c.low_is) (ordered-take c.place rest c.order)

  pub cut_high_order : IsOrdered high
  cut_high_order = subst IsOrdered (sym c.high_is) (ordered-drop c.place rest c.order)

  pub cut_low_aligned : first % 2 ^ (free - 1) ≡ 0
  cut_low_aligned = low_aligned first (free - 1) block_is

  pub cut_high_aligned : middle % 2 ^ (free - 1) ≡ 0
  cut_high_aligned = ap (λ (n : ℕ). n % 2 ^ (free - 1)) c.middle_is ∙ high_aligned first (free - 1) block_is

  pub cut_low_inside : AllByRecursion (IsInside first (free - 1)) low
  cut_low_inside =
      let all = subst (λ (n : ℕ). AllByRecursion (IsInside first n) (take c.place rest)) free_is (all-take (IsInside first free) c.place rest c.all) in
      let small = subst (λ (n : ℕ). AllByRecursion (IsSmaller n) (take c.place rest)) free_is (all-take (IsSmaller free) c.place rest c.small) in
      let before = subst (λ (n : ℕ). AllByRecursion (Precedes n) (take c.place rest)) c.middle_is c.before in
      subst (AllByRecursion (IsInside first (free - 1))) (sym c.low_is) (low_inside first (free - 1) (take c.place rest) block_is all small before)

  pub cut_low_values : (bound : ℕ) → AllByRecursion (HasOffsetBelow bound) rest → AllByRecursion (HasOffsetBelow bound) low
  cut_low_values bound h = subst (AllByRecursion (HasOffsetBelow bound)) (sym c.low_is) (all-take (HasOffsetBelow bound) c.place rest h)

  pub cut_high_values : (bound : ℕ) → AllByRecursion (HasOffsetBelow bound) rest → AllByRecursion (HasOffsetBelow bound) high
  cut_high_values bound h = subst (AllByRecursion (HasOffsetBelow bound)) (sym c.high_is) (all-drop (HasOffsetBelow bound) c.place rest h)

  cut_after : AllByRecursion (Follows (first + 2 ^ (free - 1))) (drop c.place rest)
  cut_after = subst (λ (n : ℕ). AllByRecursion (Follows n) (drop c.place rest)) c.middle_is c.after

  pub cut_high_follows : AllByRecursion (Follows (first + 2 ^ (free - 1))) high
  cut_high_follows = subst (AllByRecursion (Follows (first + 2 ^ (free - 1)))) (sym c.high_is) cut_after

  pub cut_high_inside : AllByRecursion (IsInside middle (free - 1)) high
  cut_high_inside =
      let all = subst (λ (n : ℕ). AllByRecursion (IsInside first n) (drop c.place rest)) free_is (all-drop (IsInside first free) c.place rest c.all) in
      let small = subst (λ (n : ℕ). AllByRecursion (IsSmaller n) (drop c.place rest)) free_is (all-drop (IsSmaller free) c.place rest c.small) in
      let inside = high_inside first (free - 1) (drop c.place rest) all small cut_after in
      subst (λ (es : List NodeEntry). AllByRecursion (IsInside middle (free - 1)) es) (sym c.high_is) (subst (λ (n : ℕ). AllByRecursion (IsInside n (free - 1)) (drop c.place rest)) (sym c.middle_is) inside)

  pub cut_whole : rest ≡ low ++ high
  cut_whole = sym (take-append-drop c.place rest) ∙ ap (λ (xs : List NodeEntry). xs ++ drop c.place rest) (sym c.low_is) ∙ ap (λ (xs : List NodeEntry). low ++ xs) (sym c.high_is)

  -- what the halves say, the whole block says
  pub cut_leads : (old n1 n2 n3 new : List SpecNode) (left right r : NodeRecord) (found given : Option ℕ) (es : List NodeEntry) → AreHalves old n1 n2 n3
      → Leads (length n1) n2 left first (free - 1) found low → Leads (length n2) n3 right middle (free - 1) found high
      → IsJoined (length old) left right n3 new r
      → ((a : ℕ) → a < 2 ^ free → offset_after found rest (first + a) ≡ offset_after given es (first + a))
      → Leads (length old) new r first free given es
  cut_leads old n1 n2 n3 new left right r found given es h l m j says =
      let n = subst (λ (x : ℕ). Leads (length n2) n3 right x (free - 1) found high) c.middle_is m in
      record {
        to = λ all keeps a lt.
            let e : 2 ^ free ≡ 2 ^ suc (free - 1) = ap (λ (x : ℕ). 2 ^ x) free_is in
            ap (λ (x : ℕ). lead all r (bits_of x a)) free_is
            ∙ joined_leads old n1 n2 n3 h left right r new found first (free - 1) low high l n cut_low_inside cut_high_follows j a (omega arith) all keeps
            ∙ ap (λ (xs : List NodeEntry). leaf (offset_after found xs (first + a))) (sym cut_whole)
            ∙ ap leaf (says a lt);
      }

pub made_cut : (first free size place : ℕ) (rest low high : List NodeEntry) → first % 2 ^ free ≡ 0 → eqb (length rest) 0 ≡ false → AllByRecursion (IsInside first free) rest → AllByRecursion (IsSmaller free) rest → IsOrdered rest → size ≡ 2 ^ (free - 1)
    → low ≡ take place rest → high ≡ drop place rest → AllByRecursion (Precedes (first + size)) (take place rest) → AllByRecursion (Follows (first + size)) (drop place rest) → IsCut first free (first + size) rest low high
made_cut first free size place rest low high block some all small order is l h before after = record {
  positive = free_positive free rest some small;
  block = block;
  middle_is = ap (λ (n : ℕ). first + n) is;
  all = all;
  small = small;
  order = order;
  place = place;
  low_is = l;
  high_is = h;
  before = before;
  after = after;
}

-- ---- a whole tree

pub lone_leads : (v : Option ℕ) (to : NodeRecord) (nodes : List SpecNode) (width a : ℕ) → to ≡ leaf v → nodes ≡ (record { left = to; right = to }) ∷ [] → 0 < width → lead nodes (Node 0) (bits_of width a) ≡ leaf v
unfolding bits_of
lone_leads v to nodes zero a is one h = absurd (omega arith)
lone_leads v to nodes (suc w) a is one h =
    let at : slice_get nodes 0 ≡ Some (record { left = to; right = to }) = ap (λ (xs : List SpecNode). slice_get xs 0) one in
    let same : cond (bit_of a w) to to ≡ to = elim (bit_of a w) as (λ (b : Bool). cond b to to ≡ to) [ true ↦ refl | false ↦ refl ] in
    lead-node nodes 0 _ (bit_of a w) (bits_of w a) at ∙ ap (λ (r : NodeRecord). lead nodes r (bits_of w a)) (same ∙ is) ∙ lead-leaf nodes v (bits_of w a)

pub lone_sound : (count bound : ℕ) (to : NodeRecord) (v : Option ℕ) (nodes : List SpecNode) → to ≡ leaf v → nodes ≡ (record { left = to; right = to }) ∷ [] → IsBelow count bound to → IsSound 0 bound nodes
lone_sound count bound to v nodes is one below zero right ge lt =
    let at : slice_get nodes 0 ≡ Some (record { left = to; right = to }) = ap (λ (xs : List SpecNode). slice_get xs 0) one in
    let there : IsBelow (length nodes) bound (leaf v) = leaf_below count (length nodes) bound v (subst (IsBelow count bound) is below) in
    let here : IsBelow (length nodes) bound to = subst (IsBelow (length nodes) bound) (sym is) there in
    let both : IsBelow (length nodes) bound (cond right to to) = elim right as (λ (b : Bool). IsBelow (length nodes) bound (cond b to to)) [ true ↦ here | false ↦ here ] in
    subst (λ (o : Option SpecNode). IsBelow (length nodes) bound (side o right)) (sym at) both
lone_sound count bound to v nodes is one below (suc k) right ge lt = let e = ap length one in absurd (omega arith)
