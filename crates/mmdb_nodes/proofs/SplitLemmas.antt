-- How many nodes a block has: one for each block in it whose addresses differ.
use Rattle.std.proofs.Common.{◌≡◌, inl, inr, ℕ, suc, zero, ◌+◌, ◌-◌, ◌^◌, ◌<◌, ◌≤◌, Bool, true, false, List, Option, Some, None, length, refl, ap, sym, ◌∙◌, arith, length-take}
use Rattle.std.specs.Prelude.{◌&&◌}
use Rattle.std.proofs.Math.Nat.{pow-suc}
use Rattle.std.proofs.lemmas.Nat.{pow_pos}
use Rattle.std.proofs.lemmas.Bool.{cases_lt, false≢true, false_from_ne_true}
use Rattle.std.proofs.lemmas.Bool.Decides.{nat_tests}
use Rattle.mmdb_net.specs.Bits.{bits_of}
use Rattle.mmdb_nodes.specs.declared.entry.NodeEntry.{NodeEntry}
use Rattle.mmdb_nodes.specs.declared.node.Node.{Node as SpecNode}
use Rattle.mmdb_nodes.specs.declared.node.NodeRecord.{NodeRecord}
use Rattle.mmdb_nodes.specs.declared.node.NodeRecord.TheVariants.{Node}
use Rattle.mmdb_nodes.specs.Entries.{offset_after}
use Rattle.mmdb_nodes.specs.Trees.{is_same, all_same, splits}
use Rattle.mmdb_nodes.specs.Working.{leaf, lead, Leads, IsKept, IsJoined, HasAsMany, NeedsTooMany}
use Rattle.mmdb_nodes.proofs.LeadLemmas.{cases_of, leaf_value, leaf_no_node, lead-leaf, Keeps-refl, AreHalves, behind_place, left_longer, right_longer, new_length, low_value, high_value, IsCut, halves_of, cut_whole, cut_low_inside, cut_high_follows}

-- ---- addresses that have the same

is_same-refl : (x : Option ℕ) → is_same x x ≡ true
is_same-refl None = refl
is_same-refl (Some n) = grind (arith, nat_tests)

is_same-to : (x y : Option ℕ) → is_same x y ≡ true → x ≡ y
is_same-to None None h = refl
is_same-to None (Some m) h = absurd (false≢true h)
is_same-to (Some n) None h = absurd (false≢true h)
is_same-to (Some n) (Some m) h = ap Some (grind (arith, nat_tests))

all_same-from : (at : ℕ → Option ℕ) (first n : ℕ) → ((i : ℕ) → i < n → at (first + i) ≡ at first) → all_same at first n ≡ true
unfolding all_same
all_same-from at first zero h = refl
all_same-from at first (suc n) h =
    let here : is_same (at (first + n)) (at first) ≡ true = ap (λ (x : Option ℕ). is_same x (at first)) (h n (omega arith)) ∙ is_same-refl (at first) in
    rw here (all_same-from at first n (λ i lt. h i (omega arith)))

and_left : (a b : Bool) → (a && b) ≡ true → a ≡ true
and_left true b h = refl
and_left false b h = h

and_right : (a b : Bool) → (a && b) ≡ true → b ≡ true
and_right true b h = h
and_right false b h = absurd (false≢true h)

all_same-head : (at : ℕ → Option ℕ) (first n : ℕ) → all_same at first (suc n) ≡ true → is_same (at (first + n)) (at first) ≡ true
unfolding all_same
all_same-head at first n h = and_left (is_same (at (first + n)) (at first)) (all_same at first n) h

all_same-tail : (at : ℕ → Option ℕ) (first n : ℕ) → all_same at first (suc n) ≡ true → all_same at first n ≡ true
unfolding all_same
all_same-tail at first n h = and_right (is_same (at (first + n)) (at first)) (all_same at first n) h

all_same-to : (at : ℕ → Option ℕ) (first n i : ℕ) → all_same at first n ≡ true → i < n → at (first + i) ≡ at first
all_same-to at first zero i h lt = absurd (omega arith)
all_same-to at first (suc n) i h lt = elim (cases_lt i n) [
  | inl below ↦ all_same-to at first n i (all_same-tail at first n h) below
  | inr last ↦
      let here : i ≡ n = omega arith in
      ap (λ (k : ℕ). at (first + k)) here ∙ is_same-to (at (first + n)) (at first) (all_same-head at first n h)
]

double : (half : ℕ) → 2 ^ suc half ≡ 2 ^ half + 2 ^ half
double half = let e = pow-suc 2 half in omega arith

-- where addresses of a half differ, those of the whole do
pub left_differs : (at : ℕ → Option ℕ) (first half : ℕ) → all_same at first (2 ^ half) ≡ false → all_same at first (2 ^ suc half) ≡ false
left_differs at first half h = false_from_ne_true (all_same at first (2 ^ suc half)) (λ all.
    let e = double half in
    let same : all_same at first (2 ^ half) ≡ true = all_same-from at first (2 ^ half) (λ i lt. all_same-to at first (2 ^ suc half) i all (omega arith)) in
    false≢true (sym h ∙ same))

pub right_differs : (at : ℕ → Option ℕ) (first half : ℕ) → all_same at (first + 2 ^ half) (2 ^ half) ≡ false → all_same at first (2 ^ suc half) ≡ false
right_differs at first half h = false_from_ne_true (all_same at first (2 ^ suc half)) (λ all.
    let e = double half in
    let p = pow_pos half in
    let middle : at (first + 2 ^ half) ≡ at first = all_same-to at first (2 ^ suc half) (2 ^ half) all (omega arith) in
    let same : all_same at (first + 2 ^ half) (2 ^ half) ≡ true = all_same-from at (first + 2 ^ half) (2 ^ half) (λ i lt.
    let sum : first + 2 ^ half + i ≡ first + (2 ^ half + i) = omega arith in
    ap at sum ∙ all_same-to at first (2 ^ suc half) (2 ^ half + i) all (omega arith) ∙ sym middle) in
    false≢true (sym h ∙ same))

-- ---- blocks that differ

-- none, where all addresses have one
pub splits-none : (at : ℕ → Option ℕ) (v : Option ℕ) (first free : ℕ) → ((i : ℕ) → i < 2 ^ free → at (first + i) ≡ v) → splits at first free ≡ 0
unfolding splits
splits-none at v first zero h = refl
splits-none at v first (suc half) h =
    let e = double half in
    let p = pow_pos half in
    let zero_is : first + 0 ≡ first = omega arith in
    let head : at first ≡ v = sym (ap at zero_is) ∙ h 0 (omega arith) in
    let same : all_same at first (2 ^ suc half) ≡ true = all_same-from at first (2 ^ suc half) (λ i lt. h i lt ∙ sym head) in
    let low = splits-none at v first half (λ i lt. h i (omega arith)) in
    let high = splits-none at v (first + 2 ^ half) half (λ i lt.
    let sum : first + 2 ^ half + i ≡ first + (2 ^ half + i) = omega arith in
    ap at sum ∙ h (2 ^ half + i) (omega arith)) in
    rw (same, low, high) refl

-- one more than those of its halves, where its addresses differ
pub splits-more : (at : ℕ → Option ℕ) (first half : ℕ) → all_same at first (2 ^ suc half) ≡ false → splits at first (suc half) ≡ 1 + (splits at first half + splits at (first + 2 ^ half) half)
unfolding splits
splits-more at first half h = rw h refl

-- only the block's own addresses count
all_same-alike : (f g : ℕ → Option ℕ) (first n : ℕ) → ((i : ℕ) → i < n → f (first + i) ≡ g (first + i)) → f first ≡ g first → all_same f first n ≡ all_same g first n
unfolding all_same
all_same-alike f g first zero h head = refl
all_same-alike f g first (suc n) h head =
    let last : f (first + n) ≡ g (first + n) = h n (omega arith) in
    let rest : all_same f first n ≡ all_same g first n = all_same-alike f g first n (λ i lt. h i (omega arith)) head in
    rw (last, head, rest) refl

pub block_alike : (f g : ℕ → Option ℕ) (first free : ℕ) → ((i : ℕ) → i < 2 ^ free → f (first + i) ≡ g (first + i)) → all_same f first (2 ^ free) ≡ all_same g first (2 ^ free)
block_alike f g first free h =
    let p = pow_pos free in
    let zero_is : first + 0 ≡ first = omega arith in
    all_same-alike f g first (2 ^ free) h (sym (ap f zero_is) ∙ h 0 (omega arith) ∙ ap g zero_is)

pub splits-alike : (f g : ℕ → Option ℕ) (first free : ℕ) → ((i : ℕ) → i < 2 ^ free → f (first + i) ≡ g (first + i)) → splits f first free ≡ splits g first free
unfolding splits
splits-alike f g first zero h = refl
splits-alike f g first (suc half) h =
    let e = double half in
    let whole = block_alike f g first (suc half) h in
    let low = splits-alike f g first half (λ i lt. h i (omega arith)) in
    let high = splits-alike f g (first + 2 ^ half) half (λ i lt.
    let sum : first + 2 ^ half + i ≡ first + (2 ^ half + i) = omega arith in
    ap f sum ∙ h (2 ^ half + i) (omega arith) ∙ sym (ap g sum)) in
    rw (whole, low, high) refl

-- ---- nodes

-- a block without entries of its own parts has none
pub own_many : (from first free : ℕ) (v found : Option ℕ) (es : List NodeEntry) → ((a : ℕ) → a < 2 ^ free → v ≡ offset_after found es (first + a)) → HasAsMany from from (leaf v) first free found es
own_many from first free v found es h = record {
  count = let e = splits-none (offset_after found es) v first free (λ i lt. sym (h i lt)) in omega arith;
  differs = λ n is. absurd (leaf_no_node v n is);
}

-- what a leaf says of its block
pub leaf_says : (from : ℕ) (nodes : List SpecNode) (r : NodeRecord) (v : Option ℕ) (first free : ℕ) (found : Option ℕ) (es : List NodeEntry) → Leads from nodes r first free found es → r ≡ leaf v → (a : ℕ) → a < 2 ^ free → offset_after found es (first + a) ≡ v
leaf_says from nodes r v first free found es l is a lt =
    let at : lead nodes r (bits_of free a) ≡ leaf v = ap (λ (x : NodeRecord). lead nodes x (bits_of free a)) is ∙ lead-leaf nodes v (bits_of free a) in
    sym (leaf_value v (offset_after found es (first + a)) (sym at ∙ l.to nodes (Keeps-refl from nodes) a lt))

-- What is known of the two halves of a block, and of what its addresses have.
pub record HasHalves (from n1 n2 n3 : ℕ) (left right : NodeRecord) (first half : ℕ) (at : ℕ → Option ℕ) : Type 0 where
  pub behind : n1 ≡ from + 1
  pub left_count : n2 ≡ n1 + splits at first half
  pub left_differs : (n : ℕ) → left ≡ Node n → all_same at first (2 ^ half) ≡ false
  pub left_says : (v : Option ℕ) → left ≡ leaf v → (a : ℕ) → a < 2 ^ half → at (first + a) ≡ v
  pub right_count : n3 ≡ n2 + splits at (first + 2 ^ half) half
  pub right_differs : (n : ℕ) → right ≡ Node n → all_same at (first + 2 ^ half) (2 ^ half) ≡ false
  pub right_says : (v : Option ℕ) → right ≡ leaf v → (a : ℕ) → a < 2 ^ half → at (first + 2 ^ half + a) ≡ v

module _ (from n1 n2 n3 : ℕ) (left right : NodeRecord) (first half : ℕ) (at : ℕ → Option ℕ) (h : HasHalves from n1 n2 n3 left right first half at) where
  -- where the halves have not the same leaf, the addresses of the block differ
  pub kept_differs : IsKept left right → all_same at first (2 ^ suc half) ≡ false
  kept_differs kept = elim (cases_of left) [
    | inr node ↦ left_differs at first half (h.left_differs node.0 node.1)
    | inl one ↦ elim (cases_of right) [
      | inr node ↦ right_differs at first half (h.right_differs node.0 node.1)
      | inl other ↦ false_from_ne_true (all_same at first (2 ^ suc half)) (λ all.
          let e = double half in
          let p = pow_pos half in
          let start : first + 0 ≡ first = omega arith in
          let centre : first + 2 ^ half + 0 ≡ first + 2 ^ half = omega arith in
          let low : at first ≡ one.0 = sym (ap at start) ∙ h.left_says one.0 one.1 0 (omega arith) in
          let high : at (first + 2 ^ half) ≡ other.0 = sym (ap at centre) ∙ h.right_says other.0 other.1 0 (omega arith) in
          let middle : at (first + 2 ^ half) ≡ at first = all_same-to at first (2 ^ suc half) (2 ^ half) all (omega arith) in
          let same : other.0 ≡ one.0 = sym high ∙ middle ∙ low in
          kept one.0 one.1 (other.1 ∙ ap leaf same))
    ]
  ]

  pub kept_count : IsKept left right → n3 ≡ from + splits at first (suc half)
  kept_count kept =
      let e = splits-more at first half (kept_differs kept) in
      let a = h.behind in let b = h.left_count in let c = h.right_count in
      omega arith

  pub same_count : (v : Option ℕ) → left ≡ leaf v → right ≡ leaf v → splits at first (suc half) ≡ 0
  same_count v l r = splits-none at v first (suc half) (λ i lt. elim (cases_lt i (2 ^ half)) [
    | inl below ↦ h.left_says v l i below
    | inr above ↦
        let e = double half in
        let sum : first + i ≡ first + 2 ^ half + (i - 2 ^ half) = omega arith in
        ap at sum ∙ h.right_says v r (i - 2 ^ half) (omega arith)
  ])

-- ---- a block whose entries were cut at its middle

module _ (first free middle : ℕ) (rest low high : List NodeEntry) (c : IsCut first free middle rest low high) (found given : Option ℕ) (es : List NodeEntry)
    (says : (a : ℕ) → a < 2 ^ free → offset_after found rest (first + a) ≡ offset_after given es (first + a)) where
  whole_is : suc (free - 1) ≡ free
  whole_is = let p = c.positive in omega arith

  low_at : (a : ℕ) → a < 2 ^ (free - 1) → offset_after found low (first + a) ≡ (offset_after given es) (first + a)
  low_at a lt =
      let e = halves_of free c.positive in
      sym (low_value found first (free - 1) a low high lt (cut_high_follows first free middle rest low high c))
      ∙ ap (λ (xs : List NodeEntry). offset_after found xs (first + a)) (sym (cut_whole first free middle rest low high c))
      ∙ says a (omega arith)

  high_at : (b : ℕ) → b < 2 ^ (free - 1) → offset_after found high (middle + b) ≡ (offset_after given es) (middle + b)
  high_at b lt =
      let e = halves_of free c.positive in
      let m = c.middle_is in
      let sum : first + (2 ^ (free - 1) + b) ≡ middle + b = omega arith in
      let cut : first + 2 ^ (free - 1) + b ≡ middle + b = omega arith in
      ap (offset_after found high) (sym cut)
      ∙ sym (high_value found first (free - 1) b low high (cut_low_inside first free middle rest low high c))
      ∙ ap (λ (xs : List NodeEntry). offset_after found xs (first + (2 ^ (free - 1) + b))) (sym (cut_whole first free middle rest low high c))
      ∙ says (2 ^ (free - 1) + b) (omega arith) ∙ ap (offset_after given es) sum

  low_splits : splits (offset_after found low) first (free - 1) ≡ splits (offset_after given es) first (free - 1)
  low_splits = splits-alike (offset_after found low) (offset_after given es) first (free - 1) low_at

  high_splits : splits (offset_after found high) middle (free - 1) ≡ splits (offset_after given es) (first + 2 ^ (free - 1)) (free - 1)
  high_splits = splits-alike (offset_after found high) (offset_after given es) middle (free - 1) high_at ∙ ap (λ (n : ℕ). splits (offset_after given es) n (free - 1)) c.middle_is

  low_same : all_same (offset_after found low) first (2 ^ (free - 1)) ≡ all_same (offset_after given es) first (2 ^ (free - 1))
  low_same = block_alike (offset_after found low) (offset_after given es) first (free - 1) low_at

  high_same : all_same (offset_after found high) middle (2 ^ (free - 1)) ≡ all_same (offset_after given es) (first + 2 ^ (free - 1)) (2 ^ (free - 1))
  high_same = block_alike (offset_after found high) (offset_after given es) middle (free - 1) high_at ∙ ap (λ (n : ℕ). all_same (offset_after given es) n (2 ^ (free - 1))) c.middle_is

  -- ---- too many nodes

  too_many : (from : ℕ) → all_same (offset_after given es) first (2 ^ suc (free - 1)) ≡ false → 2 ^ 32 < from + splits (offset_after given es) first (suc (free - 1)) → NeedsTooMany from first free given es
  too_many from differs many = record {
    differs = ap (λ (n : ℕ). all_same (offset_after given es) first (2 ^ n)) (sym whole_is) ∙ differs;
    many = let e = ap (splits (offset_after given es) first) whole_is in omega arith;
  }

  pub left_too_many : (from n1 : ℕ) → n1 ≡ from + 1 → NeedsTooMany n1 first (free - 1) found low → NeedsTooMany from first free given es
  left_too_many from n1 next n =
      let whole : all_same (offset_after given es) first (2 ^ suc (free - 1)) ≡ false = left_differs (offset_after given es) first (free - 1) (sym low_same ∙ n.differs) in
      let e = splits-more (offset_after given es) first (free - 1) whole in
      let f = low_splits in let g = n.many in
      too_many from whole (omega arith)

  pub right_too_many : (from n1 n2 : ℕ) (left : NodeRecord) → n1 ≡ from + 1 → HasAsMany n1 n2 left first (free - 1) found low → NeedsTooMany n2 middle (free - 1) found high → NeedsTooMany from first free given es
  right_too_many from n1 n2 left next l n =
      let whole : all_same (offset_after given es) first (2 ^ suc (free - 1)) ≡ false = right_differs (offset_after given es) first (free - 1) (sym high_same ∙ n.differs) in
      let e = splits-more (offset_after given es) first (free - 1) whole in
      let f = low_splits in let g = high_splits in let k = n.many in let m = l.count in
      too_many from whole (omega arith)

  module _ (old nodes1 nodes2 nodes3 : List SpecNode) (h : AreHalves old nodes1 nodes2 nodes3) (left right : NodeRecord)
      (l : HasAsMany (length nodes1) (length nodes2) left first (free - 1) found low) (l_leads : Leads (length nodes1) nodes2 left first (free - 1) found low)
      (r : HasAsMany (length nodes2) (length nodes3) right middle (free - 1) found high) (r_leads : Leads (length nodes2) nodes3 right middle (free - 1) found high) where
    known : HasHalves (length old) (length nodes1) (length nodes2) (length nodes3) left right first (free - 1) (offset_after given es)
    known = record {
      behind = behind_place old nodes1 nodes2 nodes3 h;
      left_count = (let e = l.count in let f = low_splits in omega arith);
      left_differs = λ n is. sym low_same ∙ l.differs n is;
      left_says = λ v is a lt. sym (low_at a lt) ∙ leaf_says (length nodes1) nodes2 left v first (free - 1) found low l_leads is a lt;
      right_count = (let e = r.count in let f = high_splits in omega arith);
      right_differs = λ n is. sym high_same ∙ r.differs n is;
      right_says = λ v is a lt.
          let m = c.middle_is in
          let sum : first + 2 ^ (free - 1) + a ≡ middle + a = omega arith in
          ap (offset_after given es) sum ∙ sym (high_at a lt) ∙ leaf_says (length nodes2) nodes3 right v middle (free - 1) found high r_leads is a lt;
    }

    pub kept_too_many : IsKept left right → 2 ^ 32 ≤ length old → NeedsTooMany (length old) first free given es
    kept_too_many kept many =
        let whole = kept_differs (length old) (length nodes1) (length nodes2) (length nodes3) left right first (free - 1) (offset_after given es) known kept in
        let e = splits-more (offset_after given es) first (free - 1) whole in
        too_many (length old) whole (omega arith)

    many_of_whole : (to : ℕ) (record_is : NodeRecord) → to ≡ length old + splits (offset_after given es) first (suc (free - 1)) → ((n : ℕ) → record_is ≡ Node n → all_same (offset_after given es) first (2 ^ suc (free - 1)) ≡ false) → HasAsMany (length old) to record_is first free given es
    many_of_whole to record_is count differs = record {
      count = let e = ap (splits (offset_after given es) first) whole_is in omega arith;
      differs = λ n is. ap (λ (k : ℕ). all_same (offset_after given es) first (2 ^ k)) (sym whole_is) ∙ differs n is;
    }

    pub joined_many : (one : NodeRecord) (new : List SpecNode) → IsJoined (length old) left right nodes3 new one → HasAsMany (length old) (length new) one first free given es
    joined_many one new (inl same) =
        let none = same_count (length old) (length nodes1) (length nodes2) (length nodes3) left right first (free - 1) (offset_after given es) known same.value same.left_is same.right_is in
        let e = ap length same.nodes in
        let f = behind_place old nodes1 nodes2 nodes3 h in let g = left_longer old nodes1 nodes2 nodes3 h in let k = right_longer old nodes1 nodes2 nodes3 h in
        many_of_whole (length new) one (omega (arith, length-take (length old) nodes3)) (λ n is. let m = same.result_is in absurd (leaf_no_node same.value n (sym m ∙ is)))
    joined_many one new (inr node) =
        let count = kept_count (length old) (length nodes1) (length nodes2) (length nodes3) left right first (free - 1) (offset_after given es) known node.differ in
        let e = new_length old nodes1 nodes2 nodes3 h left right one new node in
        many_of_whole (length new) one (omega arith) (λ n is. kept_differs (length old) (length nodes1) (length nodes2) (length nodes3) left right first (free - 1) (offset_after given es) known node.differ)
