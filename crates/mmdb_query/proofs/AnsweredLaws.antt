-- Addresses whose record meets conditions.
use Rattle.std.proofs.Common.{◌≡◌, ◌⊎◌, ◌↔◌, inl, inr, ℕ, zero, suc, ◌-◌, ◌/◌, ◌^◌, ◌<◌, not, ◌||◌, ◌&&◌, List, [], ◌∷◌, ◌++◌, map, Option, Some, None, Bool, true, false, Result, Ok, Err, IfOk, if◌then◌else◌, refl, sym, ap, ◌∙◌, subst, append_assoc, arith}
use Rattle.std.specs.List.{Contains}
use Rattle.std.proofs.lemmas.Bool.{eqb-true}
use Rattle.std.proofs.lemmas.List.{append_cancel_left}
use Rattle.std.specs.Net.Addr.{is_ipv4, ipv4_bits}
use Rattle.std.specs.declared.net.ip_addr.IpAddr.{IpAddr}
use Rattle.std.specs.declared.net.ip_addr.IpAddr.TheVariants.{V4, V6}
use Rattle.mmdb_net.specs.Bits.{bits_of, zero_bits, IsPrefix}
use Rattle.mmdb_net.proofs.BitLaws.{bits_of-split, bits_of-zero}
use Rattle.mmdb_tree.specs.Tree.{walk}
use Rattle.mmdb_tree.specs.declared.record.TreeRecord.{TreeRecord}
use Rattle.mmdb_tree.specs.declared.record.TreeRecord.TheVariants.{Node, Empty, Data, Invalid}
use Rattle.mmdb_reader.specs.declared.options.WithinOptions.{WithinOptions}
use Rattle.mmdb_reader.specs.File.{Database, tree_of, has_ipv6}
use Rattle.mmdb_reader.specs.Items.{item_of, item_of_leaf, items_of}
use Rattle.mmdb_reader.specs.Listing.{Listed, IsListing, IsListed, IsListedWith, IsClear, listed_with, finding_at, finding_of}
use Rattle.mmdb_reader.specs.ListingLaws.{AgreesWith}
use Rattle.mmdb_reader.specs.Lookup.{Answers, CanAsk, address_bits, outcome_at, outcome_of, for_lookup, record_at}
use Rattle.mmdb_reader.specs.Options.{default_options}
use Rattle.mmdb_reader.specs.Shown.{has_ipv4_subtree}
use Rattle.mmdb_reader.specs.ShownLeaf.{begins_with_zeros, is_leaf_shown_as_ipv4}
use Rattle.mmdb_reader.proofs.FindingLemmas.{listed_agrees, finding-sound}
use Rattle.mmdb_query.specs.Had.{Had, shown_bits}
use Rattle.mmdb_query.specs.Walks.{Item, item_listed}
use Rattle.mmdb_query.specs.Walks.Item.{Found, Unread}
use Rattle.mmdb_query.specs.Taking.{Asked}
use Rattle.mmdb_query.specs.Sets.{BeginsWith, LiesIn, IsFoundIn, LiesInChosen, IsGathered}
use Rattle.mmdb_query.specs.declared.addresses.Addresses.{Addresses}
use Rattle.mmdb_query.specs.Answered.{number_of_ip, IsOfWidth, HasAddress, HasRecord, IsAnswered, HasOnlyMet, HasAllMet, SetsAreExact}

-- ---- an address begins with a leaf's bits

wide : (n : ℕ) → n < 2 ^ 32 → bits_of 128 n ≡ zero_bits 96 ++ bits_of 32 n
wide n small =
    let none : n / 2 ^ 32 ≡ 0 = omega (arith, small) in
    bits_of-split 96 32 128 n refl ∙ ap (λ (k : ℕ). bits_of 96 k ++ bits_of 32 n) none ∙ ap (λ (xs : List Bool). xs ++ bits_of 32 n) (bits_of-zero 96)

v4_leaf : (ipv6 : Bool) (leaf : List Bool) (n : ℕ) → n < 2 ^ 32 → IsPrefix (zero_bits (128 - (if ipv6 then 128 else 32)) ++ leaf) (bits_of 128 n) ↔ IsPrefix leaf (zero_bits (if ipv6 then 96 else 0) ++ bits_of 32 n)
unfolding zero_bits
v4_leaf true leaf n small = (subst (IsPrefix leaf) (wide n small), subst (IsPrefix leaf) (sym (wide n small)))
v4_leaf false leaf n small = (
  (λ (rest, is). (rest, append_cancel_left (zero_bits 96) (bits_of 32 n) (leaf ++ rest) (sym (wide n small) ∙ is ∙ append_assoc (zero_bits 96) leaf rest))),
  (λ (rest, is). (rest, wide n small ∙ ap (λ (xs : List Bool). zero_bits 96 ++ xs) is ∙ sym (append_assoc (zero_bits 96) leaf rest))),
)

leaf_on : (db : Database) (leaf : List Bool) (address : IpAddr) → IsOfWidth address → BeginsWith (shown_bits db leaf (is_ipv4 address)) (number_of_ip address) ↔ IsPrefix leaf (address_bits db address)
leaf_on db leaf (V4 a) small = v4_leaf (has_ipv6 db) leaf (ipv4_bits a) small
leaf_on db leaf (V6 a) small = ((λ is. is), (λ is. is))

of_width : (address : IpAddr) → IsOfWidth address → number_of_ip address < 2 ^ 128
of_width (V4 a) small = omega (arith, small)
of_width (V6 a) small = small

-- a database that shows a leaf as a network of IPv6 may be asked for such addresses
of_ipv6 : (a b : Bool) → (not a || b) ≡ false → a ≡ true
of_ipv6 true b h = refl
of_ipv6 false b h = sym h

may_ask : (db : Database) (leaf : List Bool) (address : IpAddr) → is_leaf_shown_as_ipv4 db leaf ≡ is_ipv4 address → CanAsk db address
may_ask db leaf (V4 a) shown = tt
may_ask db leaf (V6 a) shown = eqb-true _ _ (of_ipv6 (has_ipv6 db) (has_ipv4_subtree db && begins_with_zeros 96 leaf) shown)

-- ---- what comes of a list

-- what one database has for a listed leaf with a record
abbrev had_at : Database → List Bool → ℕ → Had
had_at db leaf offset = record { bits = shown_bits db leaf (is_leaf_shown_as_ipv4 db leaf); as_ipv4 = is_leaf_shown_as_ipv4 db leaf; offsets = Some offset ∷ [] }

abbrev IsOfLeaf : Database → List Bool → TreeRecord → Had → Type 0
IsOfLeaf db leaf finding had = (offset : Option ℕ) × (finding ≡ outcome_at offset)
    × (had ≡ record { bits = shown_bits db leaf (is_leaf_shown_as_ipv4 db leaf); as_ipv4 = is_leaf_shown_as_ipv4 db leaf; offsets = offset ∷ [] })

found_at : (db : Database) (leaf : List Bool) (finding : TreeRecord) (items : List Item) (had : Had) → IsFoundIn had (item_listed db (item_of_leaf db leaf finding) ∷ items) → IsOfLeaf db leaf finding had ⊎ IsFoundIn had items
found_at db leaf Invalid items had found = inr found
found_at db leaf (Node number) items had found = inr found
found_at db leaf Empty items had (inl same) = inl (None, refl, same)
found_at db leaf Empty items had (inr found) = inr found
found_at db leaf (Data offset) items had (inl same) = inl (Some offset, refl, same)
found_at db leaf (Data offset) items had (inr found) = inr found

found_leaf : (db : Database) (list : List Listed) (P : Listed → Type 0) (had : Had) → ((m : Listed) → Contains list m → P m) → IsFoundIn had (map (item_listed db) (items_of db list)) → (m : Listed) × P m × IsOfLeaf db m.leaf m.finding had
found_leaf db [] P had each none = absurd none
found_leaf db (m ∷ list) P had each found = elim (found_at db m.leaf m.finding (map (item_listed db) (items_of db list)) had found) [
  | inl is ↦ (m, each m (0, omega arith, refl), is)
  | inr later ↦ found_leaf db list P had (λ n (k, below, is). each n (suc k, omega (arith, below), is)) later
]

found_later : (had : Had) (item : Item) (items : List Item) → IsFoundIn had items → IsFoundIn had (item ∷ items)
found_later had Unread items found = found
found_later had (Found first) items found = inr found

leaf_found : (db : Database) (list : List Listed) (leaf : List Bool) (offset : ℕ) → Contains list (listed_with leaf (Data offset)) → IsFoundIn (had_at db leaf offset) (map (item_listed db) (items_of db list))
leaf_found db [] leaf offset (k, below, is) = absurd (omega (arith, below))
leaf_found db (m ∷ list) leaf offset (zero, below, is) =
    subst (λ (first : Listed). IsFoundIn (had_at db leaf offset) (item_listed db (item_of db first) ∷ map (item_listed db) (items_of db list))) (sym is) (inl refl)
leaf_found db (m ∷ list) leaf offset (suc k, below, is) =
    found_later (had_at db leaf offset) (item_listed db (item_of db m)) (map (item_listed db) (items_of db list)) (leaf_found db list leaf offset (k, omega (arith, below), is))

-- ---- which leaves are listed by default

clear_of : (db : Database) (options : WithinOptions) (leaf : List Bool) (finding : TreeRecord) → options ≡ default_options → IsListed db options [] leaf finding → IsClear db leaf
clear_of db options leaf finding default is = elim is.clear [
  | inl asked ↦ absurd (let wrong : false ≡ true = sym (ap (λ (o : WithinOptions). o.aliased_networks) default) ∙ asked in cc)
  | inr clear ↦ clear
]

-- only leaves with a record, and faulty ones
record_of_listed : (db : Database) (options : WithinOptions) (leaf : List Bool) (offset : Option ℕ) → options ≡ default_options → IsListedWith db options leaf (outcome_at offset) → (place : ℕ) × (offset ≡ Some place)
record_of_listed db options leaf None default is = absurd (let wrong : false ≡ true = sym (ap (λ (o : WithinOptions). o.networks_without_data) default) ∙ is.1 in cc)
record_of_listed db options leaf (Some place) default is = (place, refl)

data_alone : (found : TreeRecord) (offset : ℕ) → for_lookup found ≡ Data offset → found ≡ Data offset
data_alone (Node number) offset is = absurd (cc)
data_alone Empty offset is = absurd (cc)
data_alone (Data place) offset is = is
data_alone Invalid offset is = absurd (cc)

data_listed : (db : Database) (options : WithinOptions) (number offset : ℕ) → options ≡ default_options → outcome_of db number ≡ Data offset → finding_at db options number ≡ Some (Data offset)
unfolding outcome_of finding_at
data_listed db options number offset default is =
    ap (λ (o : WithinOptions). finding_of db o (record_at db number)) default ∙ ap (finding_of db default_options) (data_alone (record_at db number) offset is)

listed_of : (db : Database) (options : WithinOptions) (address : IpAddr) (leaf : List Bool) (offset : ℕ) → options ≡ default_options → Answers db address leaf (Data offset) → IsClear db leaf → IsListed db options [] leaf (Data offset)
listed_of db options address leaf offset default at clear = record {
  is_leaf = at.is_leaf;
  in_range = inl (leaf, refl);
  clear = inr clear;
  found = finding-sound db options leaf (Data offset) (data_listed db options (walk (tree_of db) leaf) offset default at.outcome_is);
}

-- ---- addresses in networks that are chosen

-- it is not chosen, or it can't be read whether it is, and is counted
abbrev IsLeftOutBy : {X : Type 0} → Asked X → ℕ → List (Option ℕ) → Type 0
IsLeftOutBy a faults offsets = a.says offsets false ⊎ ((a.unsaid offsets ⊎ (a.says offsets true × a.unput offsets)) × (0 < faults))

unsaid_left : {P X : Type 0} (a : Asked X) (faults : ℕ) (offsets : List (Option ℕ)) → ¬ (a.unput offsets) → P ⊎ IsLeftOutBy a faults offsets → P ⊎ (a.says offsets false ⊎ (a.unsaid offsets × (0 < faults)))
unsaid_left a faults offsets put (inl there) = inl there
unsaid_left a faults offsets put (inr (inl unmet)) = inr (inl unmet)
unsaid_left a faults offsets put (inr (inr (inl cant, counted))) = inr (inr (cant, counted))
unsaid_left a faults offsets put (inr (inr (inr (says, cant), counted))) = absurd (put cant)

module _ {X : Type 0} (a : Asked X) (db : Database) (options : WithinOptions) (list : List Listed) (address : IpAddr) where
  only_answered : options ≡ default_options → IsListing db options [] list → IsOfWidth address → LiesInChosen a (is_ipv4 address) (number_of_ip address) (map (item_listed db) (items_of db list))
      → IsAnswered db a.says address
  only_answered default listing small (had, found, says, lies) =
      let (m, there, (offset, finding, same)) = found_leaf db list (λ m. Contains list m) had (λ m there. there) found in
      let is_listed = (listing.exact m).0 there in
      let shown : is_leaf_shown_as_ipv4 db m.leaf ≡ is_ipv4 address = sym (lies.0 ∙ ap (λ (h : Had). h.as_ipv4) same) in
      let can = may_ask db m.leaf address shown in
      let begins : BeginsWith (shown_bits db m.leaf (is_ipv4 address)) (number_of_ip address) =
      subst (λ (b : Bool). BeginsWith (shown_bits db m.leaf b) (number_of_ip address)) shown (subst (λ (h : Had). BeginsWith h.bits (number_of_ip address)) same lies.1) in
      let on : IsPrefix m.leaf (address_bits db address) = (leaf_on db m.leaf address small).0 begins in
      let agrees = listed_agrees db options [] m.leaf m.finding address is_listed can on in
      let (place, is) = record_of_listed db options m.leaf offset default (subst (IsListedWith db options m.leaf) finding is_listed.found) in
      let at_place : m.finding ≡ Data place = finding ∙ ap outcome_at is in (
        place,
        record {
          leaf = m.leaf;
          answers = subst (AgreesWith db address m.leaf) at_place agrees;
          clear = clear_of db options m.leaf m.finding default is_listed;
          shown = shown;
        },
        subst (λ (o : Option ℕ). a.says (o ∷ []) true) is (subst (λ (h : Had). a.says h.offsets true) same says),
      )

  lies_in : IsOfWidth address → (leaf : List Bool) (offset : ℕ) → is_leaf_shown_as_ipv4 db leaf ≡ is_ipv4 address → IsPrefix leaf (address_bits db address)
      → LiesIn (is_ipv4 address) (number_of_ip address) (had_at db leaf offset)
  lies_in small leaf offset shown on =
      (sym shown, subst (λ (b : Bool). BeginsWith (shown_bits db leaf b) (number_of_ip address)) (sym shown) ((leaf_on db leaf address small).1 on))

  all_answered : (comes : List Item → Type 0) (set : Addresses) (faults offset : ℕ) → options ≡ default_options → IsListing db options [] list → IsOfWidth address
      → (gathered : IsGathered comes a set faults) → gathered.items ≡ map (item_listed db) (items_of db list) → HasRecord db address offset
      → HasAddress set address ⊎ IsLeftOutBy a faults (Some offset ∷ [])
  all_answered comes set faults offset default listing small gathered are is =
      let had = had_at db is.leaf offset in
      let there = (listing.exact (listed_with is.leaf (Data offset))).1 (listed_of db options address is.leaf offset default is.answers is.clear) in
      gathered.all had (is_ipv4 address) (number_of_ip address) (of_width address small)
      (subst (IsFoundIn had) (sym are) (leaf_found db list is.leaf offset there))
      (lies_in small is.leaf offset is.shown is.answers.on_address)

-- ---- the set of all that are chosen

module _ {E X : Type 0} (asked : Database → Asked X) (comes : List Item → Type 0) (options : WithinOptions) (list : List Listed) (walked db : Database) where
  pub has_only : (r : Result (Addresses × ℕ) E) → walked ≡ db → options ≡ default_options → IsListing walked options [] list
      → ((items : List Item) → comes items → items ≡ map (item_listed walked) (items_of walked list))
      → IfOk r (λ found. IsGathered comes (asked walked) found.0 found.1) → IfOk r (λ found. HasOnlyMet db (asked db).says found.0)
  has_only (Err e) same default listing are gathered = tt
  has_only (Ok found) same default listing are gathered = λ address small has.
      subst (λ (d : Database). IsAnswered d (asked d).says address) same
      (only_answered (asked walked) walked options list address default listing small
      (subst (LiesInChosen (asked walked) (is_ipv4 address) (number_of_ip address)) (are gathered.items gathered.come) (gathered.only (is_ipv4 address) (number_of_ip address) (of_width address small) has)))

  pub has_all : (r : Result (Addresses × ℕ) E) → walked ≡ db → options ≡ default_options → IsListing walked options [] list
      → ((items : List Item) → comes items → items ≡ map (item_listed walked) (items_of walked list))
      → ((offsets : List (Option ℕ)) → ¬ ((asked db).unput offsets))
      → IfOk r (λ found. IsGathered comes (asked walked) found.0 found.1) → IfOk r (λ found. HasAllMet db (asked db).says (asked db).unsaid found.0 found.1)
  has_all (Err e) same default listing are put gathered = tt
  has_all (Ok found) same default listing are put gathered = λ address offset small is.
      let left = all_answered (asked walked) walked options list address comes found.0 found.1 offset default listing small gathered (are gathered.items gathered.come)
      (subst (λ (d : Database). HasRecord d address offset) (sym same) is) in
      unsaid_left (asked db) found.1 (Some offset ∷ []) (put (Some offset ∷ [])) (subst (λ (d : Database). HasAddress found.0 address ⊎ IsLeftOutBy (asked d) found.1 (Some offset ∷ [])) same left)

-- ---- where conditions say one thing

pub sets_are_exact : {C : Type 0} (says : C → List (List ℕ) → List (Option ℕ) → Bool → Type 0) (unsaid : C → List (List ℕ) → List (Option ℕ) → Type 0) → SetsAreExact says unsaid
sets_are_exact says unsaid c s db set unread one only all address small = (
  (λ has. only address small has),
  (λ (offset, record_of, meets). elim (all address offset small record_of) [
    | inl has ↦ has
    | inr (inl unmet) ↦ absurd ((one (Some offset ∷ []) meets).0 unmet)
    | inr (inr cant) ↦ absurd ((one (Some offset ∷ []) meets).1 cant.0)
  ]),
)
