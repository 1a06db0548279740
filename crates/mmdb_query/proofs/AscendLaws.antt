-- What is listed of a range of a database ascends, its networks of IPv4 first.
use Rattle.std.proofs.Common.{◌≡◌, ◌⊎◌, inl, inr, ℕ, zero, suc, ◌-◌, ◌<◌, Bool, true, false, ◌||◌, ◌&&◌, not, nat_lt, List, [], ◌∷◌, ◌++◌, map, Option, Some, None, length, drop, refl, sym, ap, ◌∙◌, subst, arith, append_assoc, append-nil, if◌then◌else◌}
use Rattle.std.proofs.lemmas.Bool.{cases_Bool, lt-ltb}
use Rattle.std.proofs.lemmas.Slice.Eq.{starts_is}
use Rattle.std.specs.Bool.{beq}
use Rattle.std.specs.Cmp.{booleans_Decides}
use Rattle.std.specs.List.{Contains, starts_with}
use Rattle.std.specs.Net.Addr.{is_ipv4}
use Rattle.mmdb_net.specs.Bits.{zero_bits, IsPrefix}
use Rattle.mmdb_net.specs.Network.{ip_of, block_of}
use Rattle.mmdb_net.specs.declared.network.IpNetwork.{IpNetwork}
use Rattle.mmdb_net.specs.declared.network.IpNetwork.TheVariants.{V4, V6}
use Rattle.mmdb_tree.specs.Tree.{walk}
use Rattle.mmdb_tree.specs.declared.record.TreeRecord.{TreeRecord}
use Rattle.mmdb_tree.specs.declared.record.TreeRecord.TheVariants.{Data, Empty, Invalid, Node}
use Rattle.mmdb_tree.proofs.WalkLemmas.{walk-inner}
use Rattle.mmdb_blocks.specs.declared.kind.Kinds.{Kinds}
use Rattle.mmdb_reader.specs.File.{Database, tree_of, has_ipv6, width, before_ipv4}
use Rattle.mmdb_reader.specs.Items.{item_of_leaf, items_of}
use Rattle.mmdb_reader.specs.Leaves.{IsLeaf}
use Rattle.mmdb_reader.specs.Listing.{Listed, ComesBefore, Ascends, leaves_of}
use Rattle.mmdb_reader.specs.Shown.{ipv4_start, has_ipv4_subtree}
use Rattle.mmdb_reader.specs.ShownLeaf.{begins_with_zeros, is_leaf_shown_as_ipv4}
use Rattle.mmdb_query.specs.Ascending.{HasIpv4, IsBefore, Ascend, NetworksAscend}
use Rattle.mmdb_query.specs.Had.{Had, network_bits, shown_bits}
use Rattle.mmdb_query.specs.Parts.{is_wanted, has_range, range_in, clipped, parts_of}
use Rattle.mmdb_query.specs.Sets.{IsFoundIn}
use Rattle.mmdb_query.specs.Walks.{Item, item_listed}
use Rattle.mmdb_query.specs.Walks.Item.{Found, Unread}

-- ---- bits that begin with zeros

no_one : (count : ℕ) (front rest : List Bool) → zero_bits count ≡ front ++ true ∷ rest → ⊥
unfolding zero_bits
no_one zero [] rest e = cc
no_one zero (x ∷ front) rest e = cc
no_one (suc count) [] rest e = cc
no_one (suc count) (x ∷ front) rest e = let later : zero_bits count ≡ front ++ true ∷ rest = cc in no_one count front rest later

-- zeros before a one are before that
zeros_shared : (count : ℕ) (front rest more : List Bool) → zero_bits count ++ more ≡ front ++ true ∷ rest → IsPrefix (zero_bits count) front
unfolding zero_bits
zeros_shared zero front rest more e = (front, refl)
zeros_shared (suc count) [] rest more e = cc
zeros_shared (suc count) (x ∷ front) rest more e =
    let first : x ≡ false = cc in
    let later : zero_bits count ++ more ≡ front ++ true ∷ rest = cc in
    let there = zeros_shared count front rest more later in
    (there.0, ap (λ y. y ∷ front) first ∙ ap (λ bits. false ∷ bits) there.1)

begins_zeros : (count : ℕ) (bits : List Bool) → IsPrefix (zero_bits count) bits → begins_with_zeros count bits ≡ true
unfolding zero_bits begins_with_zeros
begins_zeros zero bits is = refl
begins_zeros (suc count) [] is = let e = is.1 in cc
begins_zeros (suc count) (true ∷ bits) is = let e = is.1 in cc
begins_zeros (suc count) (false ∷ bits) is =
    let e = is.1 in
    let later : bits ≡ zero_bits count ++ is.0 = cc in
    begins_zeros count bits (is.0, later)

zeros_begin : (count : ℕ) (bits : List Bool) → begins_with_zeros count bits ≡ true → IsPrefix (zero_bits count) bits
unfolding zero_bits begins_with_zeros
zeros_begin zero bits is = (bits, refl)
zeros_begin (suc count) [] is = cc
zeros_begin (suc count) (true ∷ bits) is = cc
zeros_begin (suc count) (false ∷ bits) is = let there = zeros_begin count bits is in (there.0, ap (λ b. false ∷ b) there.1)

prefix_on : (front bits more : List Bool) → IsPrefix front bits → IsPrefix bits more → IsPrefix front more
prefix_on front bits more (rest, is) (others, whole) = (rest ++ others, whole ∙ ap (λ b. b ++ others) is ∙ append_assoc front rest others)

-- of two beginnings of the same bits one begins the other
pub either_begins : (a b rest more : List Bool) → a ++ rest ≡ b ++ more → IsPrefix a b ⊎ IsPrefix b a
either_begins [] b rest more e = inl (b, refl)
either_begins (x ∷ a) [] rest more e = inr (x ∷ a, refl)
either_begins (x ∷ a) (y ∷ b) rest more e =
    let first : x ≡ y = cc in
    let later : a ++ rest ≡ b ++ more = cc in
    elim (either_begins a b rest more later) [
      | inl h ↦ inl (h.0, ap (λ z. z ∷ b) (sym first) ∙ ap (λ bits. x ∷ bits) h.1)
      | inr h ↦ inr (h.0, ap (λ z. z ∷ a) first ∙ ap (λ bits. y ∷ bits) h.1)
    ]

-- ---- bits that come before others

before_behind : (front a b : List Bool) → ComesBefore a b → ComesBefore (front ++ a) (front ++ b)
before_behind front a b is = record {
  shared = front ++ is.shared;
  rest_of_a = is.rest_of_a;
  rest_of_b = is.rest_of_b;
  low = ap (λ bits. front ++ bits) is.low ∙ sym (append_assoc front is.shared (false ∷ is.rest_of_a));
  high = ap (λ bits. front ++ bits) is.high ∙ sym (append_assoc front is.shared (true ∷ is.rest_of_b));
}

before_longer : (a b more_a more_b : List Bool) → ComesBefore a b → IsPrefix a more_a → IsPrefix b more_b → ComesBefore more_a more_b
before_longer a b more_a more_b is (rest, e) (others, f) = record {
  shared = is.shared;
  rest_of_a = is.rest_of_a ++ rest;
  rest_of_b = is.rest_of_b ++ others;
  low = e ∙ ap (λ bits. bits ++ rest) is.low ∙ append_assoc is.shared (false ∷ is.rest_of_a) rest;
  high = f ∙ ap (λ bits. bits ++ others) is.high ∙ append_assoc is.shared (true ∷ is.rest_of_b) others;
}

-- ---- leaves

module _ (db : Database) where
  -- what is handed out of a leaf
  abbrev had_of : List Bool → Option ℕ → Had
  had_of leaf offset = record { bits = shown_bits db leaf (is_leaf_shown_as_ipv4 db leaf); as_ipv4 = is_leaf_shown_as_ipv4 db leaf; offsets = offset ∷ [] }

  abbrev is_before : List Bool → List Bool → Type 0
  is_before a b = (o p : Option ℕ) → IsBefore (had_of a o) (had_of b p)

  shown_all : has_ipv6 db ≡ false → (leaf : List Bool) → is_leaf_shown_as_ipv4 db leaf ≡ true
  shown_all four leaf = ap (λ b. not b || has_ipv4_subtree db && begins_with_zeros 96 leaf) four

  -- a database without IPv6
  short_before : has_ipv6 db ≡ false → (a b : List Bool) → ComesBefore a b → is_before a b
  short_before four a b is o p =
      let bits_a : shown_bits db a (is_leaf_shown_as_ipv4 db a) ≡ zero_bits (128 - width db) ++ a = ap (shown_bits db a) (shown_all four a) in
      let bits_b : shown_bits db b (is_leaf_shown_as_ipv4 db b) ≡ zero_bits (128 - width db) ++ b = ap (shown_bits db b) (shown_all four b) in
      record {
        bits = subst (λ bits. ComesBefore bits (had_of b p).bits) (sym bits_a) (subst (λ bits. ComesBefore (zero_bits (128 - width db) ++ a) bits) (sym bits_b) (before_behind (zero_bits (128 - width db)) a b is));
        kind = λ _. shown_all four a;
        part = λ _. shown_all four a;
      }

  -- a database with it
  none_before : zero_bits 0 ≡ []
  unfolding zero_bits
  none_before = refl

  module _ (six : has_ipv6 db ≡ true) where
    wide_bits_of : (leaf : List Bool) (as_ipv4 : Bool) → shown_bits db leaf as_ipv4 ≡ leaf
    wide_bits_of leaf true = ap (λ (b : Bool). zero_bits (128 - (if b then 128 else 32)) ++ leaf) six ∙ ap (λ bits. bits ++ leaf) none_before
    wide_bits_of leaf false = refl

    zeros_are : before_ipv4 db ≡ zero_bits 96
    zeros_are = ap (λ (b : Bool). zero_bits (if b then 96 else 0)) six

    shown_of : (leaf : List Bool) → ipv4_start db < db.metadata.node_count → IsPrefix (zero_bits 96) leaf → is_leaf_shown_as_ipv4 db leaf ≡ true
    shown_of leaf on begins =
        ap (λ b. not b || (b && nat_lt (ipv4_start db) db.metadata.node_count) && begins_with_zeros 96 leaf) six
        ∙ ap (λ b. b && begins_with_zeros 96 leaf) (lt-ltb _ _ on) ∙ begins_zeros 96 leaf begins

    both_true : (a b : Bool) → (a && b) ≡ true → (a ≡ true) × (b ≡ true)
    both_true true b e = (refl, e)
    both_true false b e = cc

    shown_begins : (leaf : List Bool) → is_leaf_shown_as_ipv4 db leaf ≡ true → IsPrefix (zero_bits 96) leaf
    shown_begins leaf shown =
        let e : (has_ipv4_subtree db && begins_with_zeros 96 leaf) ≡ true = sym (ap (λ b. not b || has_ipv4_subtree db && begins_with_zeros 96 leaf) six) ∙ shown in
        zeros_begin 96 leaf (both_true (has_ipv4_subtree db) (begins_with_zeros 96 leaf) e).1

    -- a leaf that begins with 96 zeros, and comes after another one: IPv4 begins on a node
    after_zeros : (a b : List Bool) → IsLeaf db b → ComesBefore a b → IsPrefix (zero_bits 96) b → is_leaf_shown_as_ipv4 db a ≡ true
    after_zeros a b leaf is begins =
        let front : IsPrefix (zero_bits 96) is.shared = zeros_shared 96 is.shared is.rest_of_b begins.0 (sym begins.1 ∙ is.high) in
        let node = leaf.inner is.shared true is.rest_of_b is.high in
        let there : walk (tree_of db) (zero_bits 96 ++ front.0) < db.metadata.node_count = subst (λ bits. walk (tree_of db) bits < db.metadata.node_count) front.1 node in
        let on : walk (tree_of db) (zero_bits 96) < db.metadata.node_count = walk-inner (tree_of db) 0 (zero_bits 96) front.0 there in
        let start : ipv4_start db < db.metadata.node_count = subst (λ bits. walk (tree_of db) bits < db.metadata.node_count) (sym zeros_are) on in
        shown_of a start (prefix_on (zero_bits 96) is.shared a front (false ∷ is.rest_of_a, is.low))

    -- one that 96 zeros begin with comes after no other
    after_ipv4 : (a b : List Bool) → IsLeaf db b → ComesBefore a b → IsPrefix (zero_bits 96) b ⊎ IsPrefix b (zero_bits 96) → is_leaf_shown_as_ipv4 db a ≡ true
    after_ipv4 a b leaf is (inl begins) = after_zeros a b leaf is begins
    after_ipv4 a b leaf is (inr (rest, e)) =
        absurd (no_one 96 is.shared (is.rest_of_b ++ rest) (e ∙ ap (λ bits. bits ++ rest) is.high ∙ append_assoc is.shared (true ∷ is.rest_of_b) rest))

    wide_before : (a b : List Bool) → IsLeaf db b → ComesBefore a b → is_before a b
    wide_before a b leaf is o p =
        let bits_a = wide_bits_of a (is_leaf_shown_as_ipv4 db a) in
        let bits_b = wide_bits_of b (is_leaf_shown_as_ipv4 db b) in
        record {
          bits = subst (λ bits. ComesBefore bits (had_of b p).bits) (sym bits_a) (subst (λ bits. ComesBefore a bits) (sym bits_b) is);
          kind = λ shown. after_zeros a b leaf is (shown_begins b shown);
          part = λ has. after_ipv4 a b leaf is (subst (λ bits. IsPrefix (zero_bits 96) bits ⊎ IsPrefix bits (zero_bits 96)) bits_b has);
        }

  leaf_before : (a b : List Bool) → IsLeaf db b → ComesBefore a b → is_before a b
  leaf_before a b leaf is = elim (cases_Bool (has_ipv6 db)) [
    | inl six ↦ wide_before six a b leaf is
    | inr four ↦ short_before four a b is
  ]

  -- ---- items

  abbrev item_at : List Bool → TreeRecord → Item
  item_at leaf finding = item_listed db (item_of_leaf db leaf finding)

  found_first : (leaf : List Bool) (finding : TreeRecord) (items : List Item) (other : Had) → IsFoundIn other (item_at leaf finding ∷ items)
      → ((offset : Option ℕ) × (other ≡ had_of leaf offset)) ⊎ IsFoundIn other items
  found_first leaf Invalid items other found = inr found
  found_first leaf (Node number) items other found = inr found
  found_first leaf Empty items other (inl same) = inl (None, same)
  found_first leaf Empty items other (inr found) = inr found
  found_first leaf (Data offset) items other (inl same) = inl (Some offset, same)
  found_first leaf (Data offset) items other (inr found) = inr found

  ascend_first : (leaf : List Bool) (finding : TreeRecord) (items : List Item) → ((offset : Option ℕ) (other : Had) → IsFoundIn other items → IsBefore (had_of leaf offset) other)
      → Ascend items → Ascend (item_at leaf finding ∷ items)
  ascend_first leaf Invalid items before ascend = ascend
  ascend_first leaf (Node number) items before ascend = ascend
  ascend_first leaf Empty items before ascend = (before None, ascend)
  ascend_first leaf (Data offset) items before ascend = (before (Some offset), ascend)

  abbrev items_at : List Listed → List Item
  items_at list = map (item_listed db) (items_of db list)

  abbrev AreLeaves : List Listed → Type 0
  AreLeaves list = (m : Listed) → Contains list m → IsLeaf db m.leaf

  leaf_in : (ms : List Listed) (m : Listed) → Contains ms m → Contains (leaves_of ms) m.leaf
  leaf_in [] m (k, below, is) = absurd (omega arith)
  leaf_in (n ∷ ms) m (zero, below, is) = (0, omega arith, ap (λ (w : Listed). w.leaf) is)
  leaf_in (n ∷ ms) m (suc k, below, is) = let w = leaf_in ms m (k, omega arith, is) in (suc w.0, let b = w.1 in omega (arith, b), w.2)

  later : (n : Listed) (ms : List Listed) (m : Listed) → Contains ms m → Contains (n ∷ ms) m
  later n ms m h = (suc h.0, let b = h.1 in omega (arith, b), h.2)

  found_listed : (list : List Listed) (other : Had) → IsFoundIn other (items_at list) → (m : Listed) × Contains list m × (offset : Option ℕ) × (other ≡ had_of m.leaf offset)
  found_listed [] other found = absurd found
  found_listed (m ∷ ms) other found = elim (found_first m.leaf m.finding (items_at ms) other found) [
    | inl here ↦ (m, (0, omega arith, refl), here.0, here.1)
    | inr there ↦ let w = found_listed ms other there in (w.0, later m ms w.0 w.1, w.2, w.3)
  ]

  ascend_listed : (list : List Listed) → Ascends (leaves_of list) → AreLeaves list → Ascend (items_at list)
  ascend_listed [] ascends leaves = tt
  ascend_listed (m ∷ ms) ascends leaves = ascend_first m.leaf m.finding (items_at ms) before (ascend_listed ms ascends.1 (λ n h. leaves n (later m ms n h)))
    where
      before : (offset : Option ℕ) (other : Had) → IsFoundIn other (items_at ms) → IsBefore (had_of m.leaf offset) other
      before offset other found =
          let w = found_listed ms other found in
          subst (λ (h : Had). IsBefore (had_of m.leaf offset) h) (sym w.3) (leaf_before m.leaf w.0.leaf (leaves w.0 (later m ms w.0 w.1)) (ascends.0 w.0.leaf (leaf_in ms w.0 w.1)) offset w.2)

-- ---- parts

-- what is handed out of a network has some of its addresses, and is of IPv4 where it is
record IsPartOf (had part : Had) : Type 0 where
  bits : IsPrefix had.bits part.bits
  kind : had.as_ipv4 ≡ true → part.as_ipv4 ≡ true
  only : part.as_ipv4 ≡ true → (had.as_ipv4 ≡ true) ⊎ HasIpv4 part

itself : (had : Had) → IsPartOf had had
itself had = record { bits = ([], sym (append-nil had.bits)); kind = λ is. is; only = λ is. inl is }

or_other : (a b : Bool) → b ≡ true → (a || b) ≡ true
or_other true b e = refl
or_other false b e = e

one_of : (a b : Bool) → (a || b) ≡ true → (a ≡ true) ⊎ (b ≡ true)
one_of true b e = inl refl
one_of false b e = inr e

ipv4_zeros : (network : IpNetwork) → is_ipv4 (ip_of network) ≡ true → IsPrefix (zero_bits 96) (network_bits network)
ipv4_zeros (V4 n) is = (block_of (V4 n), refl)
ipv4_zeros (V6 n) is = absurd (cc is)

cut_part : (b : Bool) (range : IpNetwork) (had : Had) → (b ≡ true → IsPrefix had.bits (network_bits range)) → IsPartOf had (if b then range_in had range else had)
cut_part false range had begins = itself had
cut_part true range had begins = record {
  bits = begins refl;
  kind = or_other (is_ipv4 (ip_of range)) had.as_ipv4;
  only = λ is. elim (one_of (is_ipv4 (ip_of range)) had.as_ipv4 is) [ inl v4 ↦ inr (inl (ipv4_zeros range v4)) | inr same ↦ inl same ];
}

starts : (bits front : List Bool) → starts_with beq bits front ≡ true → IsPrefix front bits
starts bits front is = (drop (length front) bits, (starts_is booleans_Decides bits front (starts_with beq bits front) refl).0 is)

clipped_part : (range : Option IpNetwork) (had : Had) → IsPartOf had (clipped range had)
clipped_part None had = itself had
clipped_part (Some range) had = cut_part (has_range had range) range had (starts (network_bits range) had.bits)

-- a network has addresses of IPv4 where a part of it has
has_more : (had part : Had) → IsPrefix had.bits part.bits → HasIpv4 part → HasIpv4 had
has_more had part (rest, is) (inl (more, begins)) = elim (either_begins (zero_bits 96) had.bits more rest (sym begins ∙ is)) [ inl zeros ↦ inl zeros | inr bits ↦ inr bits ]
has_more had part begins (inr zeros) = inr (prefix_on had.bits part.bits (zero_bits 96) begins zeros)

part_before : (a b p q : Had) → IsBefore a b → IsPartOf a p → IsPartOf b q → IsBefore p q
part_before a b p q is of_a of_b = record {
  bits = before_longer a.bits b.bits p.bits q.bits is.bits of_a.bits of_b.bits;
  kind = λ v4. elim (of_b.only v4) [ inl same ↦ of_a.kind (is.kind same) | inr has ↦ of_a.kind (is.part (has_more b q of_b.bits has)) ];
  part = λ has. of_a.kind (is.part (has_more b q of_b.bits has));
}

module _ (kinds : Kinds) (range : Option IpNetwork) where
  abbrev parts_with : Bool → Had → List Item → List Item
  parts_with b had items = if b then Found (clipped range had) ∷ parts_of kinds range items else parts_of kinds range items

  abbrev IsPartIn : Had → List Item → Type 0
  IsPartIn other items = (had : Had) × IsFoundIn had items × (other ≡ clipped range had)

  part_later : (first other : Had) (items : List Item) → IsPartIn other items → IsPartIn other (Found first ∷ items)
  part_later first other items (had, found, same) = (had, inr found, same)

  found_with : (b : Bool) (first : Had) (items : List Item) (other : Had) → (IsFoundIn other (parts_of kinds range items) → IsPartIn other items)
      → IsFoundIn other (parts_with b first items) → IsPartIn other (Found first ∷ items)
  found_with true first items other rest (inl same) = (first, inl refl, same)
  found_with true first items other rest (inr there) = part_later first other items (rest there)
  found_with false first items other rest there = part_later first other items (rest there)

  found_part : (items : List Item) (other : Had) → IsFoundIn other (parts_of kinds range items) → IsPartIn other items
  found_part [] other found = absurd found
  found_part (Unread ∷ items) other found = found_part items other found
  found_part (Found first ∷ items) other found = found_with (is_wanted kinds first.as_ipv4) first items other (found_part items other) found

  first_before : (first : Had) (items : List Item) → ((other : Had) → IsFoundIn other items → IsBefore first other)
      → (other : Had) → IsFoundIn other (parts_of kinds range items) → IsBefore (clipped range first) other
  first_before first items before other found =
      let w = found_part items other found in
      subst (λ (h : Had). IsBefore (clipped range first) h) (sym w.2)
      (part_before first w.0 (clipped range first) (clipped range w.0) (before w.0 w.1) (clipped_part range first) (clipped_part range w.0))

  ascend_with : (b : Bool) (first : Had) (items : List Item) → ((other : Had) → IsFoundIn other items → IsBefore first other) → Ascend (parts_of kinds range items)
      → Ascend (parts_with b first items)
  ascend_with true first items before rest = (first_before first items before, rest)
  ascend_with false first items before rest = rest

  ascend_parts : (items : List Item) → Ascend items → Ascend (parts_of kinds range items)
  ascend_parts [] ascend = tt
  ascend_parts (Unread ∷ items) ascend = ascend_parts items ascend
  ascend_parts (Found first ∷ items) (before, ascend) = ascend_with (is_wanted kinds first.as_ipv4) first items before (ascend_parts items ascend)

pub networks_ascend : NetworksAscend
networks_ascend db options range list kinds part is =
    ascend_parts kinds part (map (item_listed db) (items_of db list)) (ascend_listed db list is.ascends (λ m h. ((is.exact m).0 h).is_leaf))
