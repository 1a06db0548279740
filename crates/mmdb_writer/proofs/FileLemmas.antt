-- The file that was written has the tree and the section, and each of its lookups finds what the rows say.
use Rattle.std.proofs.Common.{◌≡◌, ◌⊎◌, inl, inr, ℕ, zero, suc, ◌+◌, ◌-◌, ◌*◌, ◌/◌, ◌^◌, ◌<◌, ◌≤◌, eqb, Bool, true, false, cond, List, [], ◌∷◌, ◌++◌, length, map, take, drop, Option, Some, None, refl, ap, sym, ◌∙◌, subst, arith, append_assoc, length-append}
use Rattle.std.specs.List.{AllByRecursion, AllZip, slice_get, Contains}
use Rattle.std.specs.declared.net.ip_addr.IpAddr.{IpAddr}
use Rattle.std.specs.declared.net.ip_addr.IpAddr.TheVariants as Ip
use Rattle.std.proofs.lemmas.List.{take_all}
use Rattle.std.proofs.Math.Seq.{take-append_seam, drop-append_seam}
use Rattle.mmdb_net.specs.Bits.{bits_of, zero_bits, number_of, IsPrefix}
use Rattle.mmdb_net.specs.Address.{address_width, bits_of_address}
use Rattle.mmdb_net.proofs.BitLaws.{length-bits_of, bits_of-split, bits_of-zero}
use Rattle.mmdb_net.proofs.AddressLaws.{length-bits_of_address}
use Rattle.mmdb_tree.specs.Tree.{walk, search_tree, node_bytes}
use Rattle.mmdb_tree.proofs.HighBits.{number-below}
use Rattle.mmdb_tree.proofs.WalkLemmas.{walk-nil, walk-past}
use Rattle.std.proofs.lemmas.Bool.{cases_lt}
use Rattle.mmdb_tree.specs.Records.{record_of}
use Rattle.mmdb_tree.specs.declared.record.TreeRecord.{TreeRecord}
use Rattle.mmdb_tree.specs.declared.record.TreeRecord.TheVariants.{Data, Empty}
use Rattle.mmdb_format.specs.Unfolding.{Tree, without_pointers}
use Rattle.mmdb_format.proofs.UnfoldingLaws.{one_tree}
use Rattle.mmdb_nodes.specs.declared.tree.SearchTree.{SearchTree}
use Rattle.mmdb_nodes.specs.declared.entry.NodeEntry.{NodeEntry}
use Rattle.mmdb_nodes.specs.declared.entry.IpVersion.{IpVersion}
use Rattle.mmdb_nodes.specs.declared.entry.IpVersion.TheVariants.{V4, V6}
use Rattle.mmdb_nodes.specs.Entries.{width, block_of, Gives, offset_in}
use Rattle.mmdb_blocks.specs.Blocks.{IsBlock}
use Rattle.mmdb_nodes.specs.Trees.{bits_in, tree_in, leaf_of, LeadsByPrefix, HasSplitNodes, HasOneWayToEach, IsSizeFor, numbers_of}
use Rattle.mmdb_nodes.proofs.TreeLemmas.{some_bits}
use Rattle.mmdb_nodes.proofs.LongestLemmas.{last_is_longest}
use Rattle.mmdb_section.specs.Moved.{NoneTwice}
use Rattle.mmdb_section.specs.Sections.{Tile, AreTiles, IsPart}
use Rattle.mmdb_section.specs.declared.value.SectionPart.TheVariants.{At}
use Rattle.mmdb_value.specs.declared.any_value.Value.{Value}
use Rattle.mmdb_value.specs.Values.{value_tree}
use Rattle.mmdb_value.specs.Standing.{WholeValue}
use Rattle.mmdb_reader.specs.Metadata.{MetadataDatum}
use Rattle.mmdb_reader.specs.File.{Database, width as db_width, tree_of, tree_len, data_start, data_length, data_section, has_ipv6, before_ipv4}
use Rattle.mmdb_reader.specs.Lookup.{CanAsk, Answers, address_bits, outcome_of, outcome_at, for_lookup, record_at}
use Rattle.mmdb_reader.specs.declared.options.WithinOptions.{WithinOptions}
use Rattle.mmdb_reader.specs.Leaves.{IsLeaf}
use Rattle.mmdb_reader.specs.Listing.{Listed, listed_with, IsListing, IsListed, finding_at, finding_of, finding_unless_empty}
use Rattle.mmdb_reader.specs.Options.{includes_without_data, skips_empty}
use Rattle.mmdb_decode.specs.Peeking.{empty_at}
use Rattle.mmdb_reader.proofs.FindingLemmas.{finding-sound, finding-complete}
use Rattle.mmdb_reader.proofs.LawLemmas.{answers_are_unique, each_address_is_answered}
use Rattle.mmdb_reader.proofs.NumberLemmas.{take-bits-number, zeros-number}
use Rattle.mmdb_writer.specs.declared.options.Options.{Options}
use Rattle.mmdb_writer.specs.declared.row.Row.{Row}
use Rattle.mmdb_writer.specs.Limits.{CanBeRead}
use Rattle.mmdb_writer.specs.Rows.{wide_bits, IsValueOf, Says}
use Rattle.mmdb_writer.specs.Written.{version_number, asked as asked_metadata, widened as wide_in, IsRead, LookupsAgree, SharesEqualValues, IsMixed, HasLargestBlocks, HasNoAliases, IsNetwork, IsListedWith, HandsOutNetworks, IsAsked, IsWritten}
use Rattle.mmdb_writer.specs.Making.{AllBegin, IsOffsetOf, IsEntryOf, HasAdded}
use Rattle.mmdb_writer.specs.Making.{IsCertified, BeginsWith}
use Rattle.mmdb_writer.specs.Working.{AreInOrder, IsFileOf}
use Rattle.mmdb_writer.proofs.NetworkLemmas.{says_one, full_number, length-zero_bits, zeros_begin, no_rest, ends_in}
use Rattle.mmdb_writer.proofs.ReadLemmas.{part_is_read}
use Rattle.mmdb_writer.proofs.RowLemmas.{GivesRow, zip_left, gives_given, gives_row}

-- ---- values at offsets

record Begins (tiles : List Tile) (values : List Value) (place offset : ℕ) : Type 0 where
  value : Value
  at : slice_get values place ≡ Some value
  begins : IsPart tiles (At offset) (value_tree value)
  readable : CanBeRead (value_tree value)

begins_at : (tiles : List Tile) (values : List Value) (offsets : List ℕ) (i offset : ℕ) → AllBegin tiles (map value_tree values) offsets → AllByRecursion (λ v. CanBeRead (value_tree v)) values → slice_get offsets i ≡ Some offset → Begins tiles values i offset
begins_at tiles [] [] i offset all can at = absurd (cc)
begins_at tiles [] (o ∷ os) i offset all can at = absurd all
begins_at tiles (v ∷ vs) [] i offset all can at = absurd all
begins_at tiles (v ∷ vs) (o ∷ os) zero offset all can at = let same : o ≡ offset = cc in record { value = v; at = refl; begins = subst (λ (n : ℕ). IsPart tiles (At n) (value_tree v)) same all.0; readable = can.0 }
begins_at tiles (v ∷ vs) (o ∷ os) (suc i) offset all can at =
    let rest = begins_at tiles vs os i offset all.1 can.1 at in
    record { value = rest.value; at = rest.at; begins = rest.begins; readable = rest.readable }

-- the value begins at the offset, or there is none
abbrev pub IsBegun : List Tile → Option ℕ → Option Tree → Type 0
IsBegun tiles None v = v ≡ None
IsBegun tiles (Some offset) v = (t : Tree) × (v ≡ Some t) × IsPart tiles (At offset) t

same_some : (t u : Tree) → Some t ≡ Some u → t ≡ u
same_some t u h = cc

module _ (tiles : List Tile) (once : NoneTwice tiles) where
  -- equal values begin at one offset
  pub same_start : (x y : ℕ) (v w : Tree) → IsPart tiles (At x) v → IsPart tiles (At y) w → v ≡ w → x ≡ y
  same_start x y v w p q same = sym p.2 ∙ once p.0 q.0 p.1 q.1 (p.3 ∙ same ∙ sym q.3) ∙ q.2

  pub same_found : (f g : Option ℕ) (v w : Option Tree) → IsBegun tiles f v → IsBegun tiles g w → v ≡ w → f ≡ g
  same_found None None v w h k same = refl
  same_found None (Some y) v w h k same = let e : Some k.0 ≡ None = sym k.1 ∙ sym same ∙ h in absurd (cc)
  same_found (Some x) None v w h k same = let e : Some h.0 ≡ None = sym h.1 ∙ same ∙ k in absurd (cc)
  same_found (Some x) (Some y) v w h k same = ap Some (same_start x y h.0 k.0 h.2 k.2 (same_some h.0 k.0 (sym h.1 ∙ same ∙ k.1)))

-- one value is read at an offset
one_whole : (s : List ℕ) (x : ℕ) (v w : Tree) → WholeValue true s x v → WholeValue true s x w → v ≡ w
one_whole s x v w h k = h.3 ∙ ap without_pointers (one_tree h.2.unfolds k.2.unfolds).0 ∙ sym k.3

offset_of : (found : Option ℕ) (x : ℕ) → outcome_at found ≡ Data x → found ≡ Some x
offset_of None x h = absurd (cc)
offset_of (Some y) x h = cc

-- ---- addresses as numbers

own_number : IpAddr → ℕ
own_number address = number_of (address_width address) (bits_of_address address)

own_bits : (address : IpAddr) → bits_of (address_width address) (own_number address) ≡ bits_of_address address
unfolding own_number
own_bits address =
    let len = length-bits_of_address address in
    let n : ℕ = number_of (address_width address) (bits_of_address address) in
    let long : length (bits_of (address_width address) n) ≡ length (bits_of_address address) = length-bits_of (address_width address) n ∙ sym len in
    sym (take_all (length (bits_of_address address)) (bits_of (address_width address) n) (omega arith)) ∙ take-bits-number (address_width address) (bits_of_address address) (omega arith)

own_below : (address : IpAddr) → own_number address < 2 ^ address_width address
unfolding own_number
own_below address = number-below (address_width address) (bits_of_address address)

-- a number of 32 bits, written with 128
widened : (n : ℕ) → n < 2 ^ 32 → zero_bits 96 ++ bits_of 32 n ≡ bits_of 128 n
widened n small =
    let none : n / 2 ^ 32 ≡ 0 = omega (arith, small) in
    sym (bits_of-split 96 32 128 n refl ∙ ap (λ (k : ℕ). bits_of 96 k ++ bits_of 32 n) none ∙ ap (λ (xs : List Bool). xs ++ bits_of 32 n) (bits_of-zero 96))

-- an address that may be asked for as a number of the tree
record IsNumberOf (db : Database) (version : IpVersion) (address : IpAddr) (n : ℕ) : Type 0 where
  fits : n < 2 ^ width version
  bits : address_bits db address ≡ bits_of (width version) n
  wide : wide_bits address ≡ bits_of 128 n

ipv6_only : (db : Database) (version : IpVersion) → db.metadata.ip_version ≡ version_number version → db.metadata.ip_version ≡ 6 → version ≡ V6
ipv6_only db V4 is six = let e : ◌≡◌ {A = ℕ} 4 6 = sym is ∙ six in absurd (omega arith)
ipv6_only db V6 is six = refl

number_in : (db : Database) (version : IpVersion) → db.metadata.ip_version ≡ version_number version → (address : IpAddr) → CanAsk db address → IsNumberOf db version address (own_number address)
unfolding zero_bits
number_in db V4 is (Ip.V4 a) can =
    let below : own_number (Ip.V4 a) < 2 ^ 32 = own_below (Ip.V4 a) in
    let four : has_ipv6 db ≡ false = ap (λ (n : ℕ). eqb n 6) is in
    let none : before_ipv4 db ≡ [] = ap (λ (b : Bool). zero_bits (cond b 96 0)) four in
    record {
      fits = below;
      bits = ap (λ (xs : List Bool). xs ++ bits_of_address (Ip.V4 a)) none ∙ sym (own_bits (Ip.V4 a));
      wide = ap (λ (xs : List Bool). zero_bits 96 ++ xs) (sym (own_bits (Ip.V4 a))) ∙ widened (own_number (Ip.V4 a)) below;
    }
number_in db V6 is (Ip.V4 a) can =
    let below : own_number (Ip.V4 a) < 2 ^ 32 = own_below (Ip.V4 a) in
    let six : has_ipv6 db ≡ true = ap (λ (n : ℕ). eqb n 6) is in
    let zeros : before_ipv4 db ≡ zero_bits 96 = ap (λ (b : Bool). zero_bits (cond b 96 0)) six in
    let wide : zero_bits 96 ++ bits_of_address (Ip.V4 a) ≡ bits_of 128 (own_number (Ip.V4 a)) = ap (λ (xs : List Bool). zero_bits 96 ++ xs) (sym (own_bits (Ip.V4 a))) ∙ widened (own_number (Ip.V4 a)) below in
    record {
      fits = omega arith;
      bits = ap (λ (xs : List Bool). xs ++ bits_of_address (Ip.V4 a)) zeros ∙ wide;
      wide = wide;
    }
number_in db V4 is (Ip.V6 a) can = let e : ◌≡◌ {A = ℕ} 4 6 = sym is ∙ can in absurd (omega arith)
number_in db V6 is (Ip.V6 a) can = record { fits = own_below (Ip.V6 a); bits = sym (own_bits (Ip.V6 a)); wide = sym (own_bits (Ip.V6 a)) }

same_width : (db : Database) (version : IpVersion) → db.metadata.ip_version ≡ version_number version → db_width db ≡ width version
same_width db V4 is = ap (λ (n : ℕ). cond (eqb n 6) 128 32) is
same_width db V6 is = ap (λ (n : ℕ). cond (eqb n 6) 128 32) is

wide_number : (db : Database) (version : IpVersion) → db.metadata.ip_version ≡ version_number version → (n : ℕ) → n < 2 ^ width version → wide_in db (bits_of (width version) n) ≡ bits_of 128 n
unfolding zero_bits
wide_number db V4 is n fits = ap (λ (w : ℕ). zero_bits (128 - w) ++ bits_of 32 n) (same_width db V4 is) ∙ widened n fits
wide_number db V6 is n fits = ap (λ (w : ℕ). zero_bits (128 - w) ++ bits_of 128 n) (same_width db V6 is)

-- ---- the parts of the file

leaf_of_one : (v w : Option ℕ) → leaf_of v ≡ leaf_of w → v ≡ w
leaf_of_one None None h = refl
leaf_of_one None (Some w) h = absurd (cc)
leaf_of_one (Some v) None h = absurd (cc)
leaf_of_one (Some v) (Some w) h = cc

for_leaf : (found : Option ℕ) → for_lookup (leaf_of found) ≡ outcome_at found
for_leaf None = refl
for_leaf (Some offset) = refl

module _ (file : List ℕ) (options : Options) (tree : SearchTree) (section : List ℕ) (certified : IsCertified file options tree (length section)) (begins : BeginsWith tree.bytes.items section file)
    (len : length tree.bytes.items ≡ tree.node_count * node_bytes (bits_in tree.record_size)) where
  abbrev db : Database
  db = certified.db

  abbrev behind : List ℕ
  behind = begins.separator ++ (section ++ begins.behind)

  count_is : db.metadata.node_count ≡ tree.node_count
  count_is = ap (λ (m : MetadataDatum). m.node_count) certified.metadata

  size_is : db.metadata.record_size ≡ bits_in tree.record_size
  size_is = ap (λ (m : MetadataDatum). m.record_size) certified.metadata

  bytes_are : db.bytes ≡ tree.bytes.items ++ behind
  bytes_are = certified.database.bytes ∙ begins.whole

  tree_is : tree_of db ≡ tree_in tree behind
  tree_is =
      ap (λ (b : List ℕ). search_tree b db.metadata.node_count db.metadata.record_size) bytes_are
      ∙ ap (λ (n : ℕ). search_tree (tree.bytes.items ++ behind) n db.metadata.record_size) count_is
      ∙ ap (λ (n : ℕ). search_tree (tree.bytes.items ++ behind) tree.node_count n) size_is

  tree_len_is : tree_len db ≡ length tree.bytes.items
  tree_len_is = ap (λ (n : ℕ). n * node_bytes db.metadata.record_size) count_is ∙ ap (λ (n : ℕ). tree.node_count * node_bytes n) size_is ∙ sym len

  start_is : data_start db ≡ length (tree.bytes.items ++ begins.separator)
  start_is = let a = tree_len_is in let b = begins.len in let c = length-append tree.bytes.items begins.separator in omega arith

  section_is : data_section db ≡ section
  section_is =
      let room = certified.database.room in
      let size : db.marker - data_start db ≡ length section = certified.section_len in
      let whole : db.bytes ≡ (tree.bytes.items ++ begins.separator) ++ (section ++ begins.behind) = bytes_are ∙ sym (append_assoc tree.bytes.items begins.separator (section ++ begins.behind)) in
      ap (λ (n : ℕ). take n (drop (data_start db) db.bytes)) size
      ∙ ap (λ (n : ℕ). take (length section) (drop n db.bytes)) start_is
      ∙ ap (λ (b : List ℕ). take (length section) (drop (length (tree.bytes.items ++ begins.separator)) b)) whole
      ∙ ap (take (length section)) (drop-append_seam (tree.bytes.items ++ begins.separator) (section ++ begins.behind))
      ∙ take-append_seam section begins.behind

  version_is : db.metadata.ip_version ≡ version_number options.ip_version
  version_is = ap (λ (m : MetadataDatum). m.ip_version) certified.metadata

  -- where the tree leads, the lookup leads
  outcome_is : (found : Option ℕ) (n : ℕ) (address : IpAddr) → address_bits db address ≡ bits_of (width options.ip_version) n
      → record_of tree.node_count (length section) (walk (tree_in tree behind) (bits_of (width options.ip_version) n)) ≡ leaf_of found → outcome_of db (walk (tree_of db) (address_bits db address)) ≡ outcome_at found
  unfolding outcome_of
  outcome_is found n address bits leads =
      let number : walk (tree_of db) (address_bits db address) ≡ walk (tree_in tree behind) (bits_of (width options.ip_version) n) =
      ap (λ t. walk t (address_bits db address)) tree_is ∙ ap (walk (tree_in tree behind)) bits in
      let same : record_of db.metadata.node_count (data_length db) (walk (tree_of db) (address_bits db address)) ≡ leaf_of found =
      ap (λ (k : ℕ). record_of k (data_length db) (walk (tree_of db) (address_bits db address))) count_is
      ∙ ap (λ (k : ℕ). record_of tree.node_count k (walk (tree_of db) (address_bits db address))) certified.section_len
      ∙ ap (record_of tree.node_count (length section)) number ∙ leads in
      ap for_lookup same ∙ for_leaf found

  module _ (values : List Value) (rows : List Row) (can : AllByRecursion (λ v. CanBeRead (value_tree v)) values) (tiles : List Tile) (once : NoneTwice tiles) (laid : AreTiles tiles section) (offsets : List ℕ)
      (all : AllBegin tiles (map value_tree values) offsets) (given entries : List NodeEntry) (of_rows : AllZip (IsEntryOf offsets) rows given)
      (order : AreInOrder options.ip_version (length section) given entries) (leads : LeadsByPrefix options.ip_version (length section) entries tree) (split : HasSplitNodes options.ip_version entries tree) (one_way : HasOneWayToEach tree) where
    -- what is said of an address, and where it begins
    record IsSaid (bits : List Bool) (found : Option ℕ) : Type 0 where
      v : Option Tree
      says : Says values rows bits v
      read : IsRead db found v
      begun : IsBegun tiles found v

    -- a value where it begins
    record IsThere (value found : Option ℕ) : Type 0 where
      v : Option Tree
      is : IsValueOf values value v
      read : IsRead db found v
      begun : IsBegun tiles found v

    value_there : (value found : Option ℕ) → IsOffsetOf offsets value found → IsThere value found
    value_there None found is = record { v = None; is = refl; read = subst (λ (o : Option ℕ). IsRead db o None) (sym is) refl; begun = subst (λ (o : Option ℕ). IsBegun tiles o None) (sym is) refl }
    value_there (Some index) found (offset, at, is) =
        let b = begins_at tiles values offsets index offset all can at in
        let whole : WholeValue true (data_section db) offset (value_tree b.value) = subst (λ (s : List ℕ). WholeValue true s offset (value_tree b.value)) (sym section_is) (part_is_read tiles section laid offset (value_tree b.value) b.begins b.readable.within) in
        record {
          v = Some (value_tree b.value);
          is = (b.value, b.at, refl);
          read = subst (λ (o : Option ℕ). IsRead db o (Some (value_tree b.value))) (sym is) (value_tree b.value, refl, whole);
          begun = subst (λ (o : Option ℕ). IsBegun tiles o (Some (value_tree b.value))) (sym is) (value_tree b.value, refl, b.begins);
        }

    row_said : (bits : List Bool) (found : Option ℕ) → GivesRow rows offsets bits found → IsSaid bits found
    row_said bits found (inl h) =
        record { v = None; says = inl (h.0, refl); read = subst (λ (o : Option ℕ). IsRead db o None) (sym h.1) refl; begun = subst (λ (o : Option ℕ). IsBegun tiles o None) (sym h.1) refl }
    row_said bits found (inr h) =
        let there = value_there h.0.value found h.2 in
        record { v = there.v; says = inr (h.0, h.1, there.is); read = there.read; begun = there.begun }

    blocks_are : (j : ℕ) (e : NodeEntry) → slice_get given j ≡ Some e → IsBlock (block_of e)
    blocks_are j e at = let r = zip_left (IsEntryOf offsets) rows given of_rows j e at in r.2.block

    below_widest : (version : IpVersion) (n : ℕ) → n < 2 ^ width version → n < 2 ^ 128
    below_widest V4 n h = omega arith
    below_widest V6 n h = h

    number_said : (n : ℕ) (found : Option ℕ) → n < 2 ^ width options.ip_version → Gives entries n found → IsSaid (bits_of 128 n) found
    number_said n found fits gives =
        let wide : n < 2 ^ 128 = below_widest options.ip_version n fits in
        row_said (bits_of 128 n) found (gives_row rows offsets given of_rows n wide found (gives_given given entries n order.stable blocks_are found gives))

    -- the answer for an address
    record IsAnswered (address : IpAddr) : Type 0 where
      leaf : List Bool
      found : Option ℕ
      answers : Answers db address leaf (outcome_at found)
      said : IsSaid (wide_bits address) found

    answered : (address : IpAddr) → CanAsk db address → IsAnswered address
    answered address asked =
        let n : ℕ = own_number address in
        let number = number_in db options.ip_version version_is address asked in
        let led = leads behind n number.fits in
        let found = led.0 in
        let answer = each_address_is_answered db address asked in
        record {
          leaf = answer.0;
          found = found;
          answers = subst (λ (r : TreeRecord). Answers db address answer.0 r) (outcome_is found n address number.bits led.2) answer.1;
          said = subst (λ (bits : List Bool). IsSaid bits found) (sym number.wide) (number_said n found number.fits led.1);
        }

    pub lookups_agree : LookupsAgree db values rows
    lookups_agree address asked =
        let h = answered address asked in
        (h.leaf, h.found, h.said.v, h.answers, h.said.says, h.said.read)

    -- ---- equal values

    -- the value at an offset that is answered begins there
    data_begins : (address : IpAddr) (leaf : List Bool) (x : ℕ) (v : Tree) → Answers db address leaf (Data x) → WholeValue true (data_section db) x v → IsPart tiles (At x) v
    data_begins address leaf x v h whole =
        let own = answered address h.can_ask in
        let found : own.found ≡ Some x = offset_of own.found x (sym (answers_are_unique db address leaf own.leaf (Data x) (outcome_at own.found) h own.answers).1) in
        let read : IsRead db (Some x) own.said.v = subst (λ (o : Option ℕ). IsRead db o own.said.v) found own.said.read in
        let begun : IsBegun tiles (Some x) own.said.v = subst (λ (o : Option ℕ). IsBegun tiles o own.said.v) found own.said.begun in
        let tree : begun.0 ≡ read.0 = same_some begun.0 read.0 (sym begun.1 ∙ read.1) in
        subst (IsPart tiles (At x)) (tree ∙ one_whole (data_section db) x read.0 v read.2 whole) begun.2

    pub shares_values : SharesEqualValues db
    shares_values a b p q x y v w one other first second = (
      λ same. one_whole (data_section db) y v w (subst (λ (n : ℕ). WholeValue true (data_section db) n v) same first) second,
      same_start tiles once x y v w (data_begins a p x v one first) (data_begins b q y w other second),
    )

    -- ---- largest blocks

    some_says : (n : ℕ) → n < 2 ^ width options.ip_version → IsSaid (bits_of 128 n) (offset_in entries n)
    some_says n fits = number_said n (offset_in entries n) fits (last_is_longest options.ip_version (length section) entries n order.ordered order.fit)

    pub largest_blocks : HasLargestBlocks db values rows
    largest_blocks leaf wider rest x is_leaf is some =
        let whole : length leaf ≡ length wider + suc (length rest) = ap length is ∙ length-append wider (x ∷ rest) in
        let short = is_leaf.short in
        let width_is : db_width db ≡ width options.ip_version = same_width db options.ip_version version_is in
        let len : length wider ≤ width options.ip_version = omega arith in
        let inner : walk (tree_of db) wider < db.metadata.node_count = is_leaf.inner wider x rest is in
        let on : walk (tree_in tree behind) wider < tree.node_count =
        subst (λ (k : ℕ). walk (tree_in tree behind) wider < k) count_is (subst (λ t. walk t wider < db.metadata.node_count) tree_is inner) in
        let h = split behind wider some len on in
        let one = some_says h.one h.fits in
        let other = some_says h.other h.other_fits in
        record {
          one = bits_of (width options.ip_version) h.one;
          other = bits_of (width options.ip_version) h.other;
          one_full = length-bits_of (width options.ip_version) h.one ∙ sym width_is;
          other_full = length-bits_of (width options.ip_version) h.other ∙ sym width_is;
          one_here = h.in_block;
          other_here = h.other_in_block;
          v = one.v;
          w = other.v;
          one_has = subst (λ (bits : List Bool). Says values rows bits one.v) (sym (wide_number db options.ip_version version_is h.one h.fits)) one.says;
          other_has = subst (λ (bits : List Bool). Says values rows bits other.v) (sym (wide_number db options.ip_version version_is h.other h.other_fits)) other.says;
          differ = λ same. h.differ (same_found tiles once (offset_in entries h.one) (offset_in entries h.other) one.v other.v one.begun other.begun same);
        }

    -- ---- no aliases

    pub no_aliases : HasNoAliases db
    no_aliases bits alias =
        let zeros : before_ipv4 db ≡ zero_bits 96 = ap (λ (b : Bool). zero_bits (cond b 96 0)) alias.ipv6 in
        let on_node : walk (tree_of db) bits < db.metadata.node_count = subst (λ (k : ℕ). k < db.metadata.node_count) (sym alias.same) alias.on_node in
        let on : walk (tree_in tree behind) bits < tree.node_count =
        subst (λ (k : ℕ). walk (tree_in tree behind) bits < k) count_is (subst (λ t. walk t bits < db.metadata.node_count) tree_is on_node) in
        let same : walk (tree_in tree behind) bits ≡ walk (tree_in tree behind) (before_ipv4 db) =
        ap (λ t. walk t bits) (sym tree_is) ∙ alias.same ∙ ap (λ t. walk t (before_ipv4 db)) tree_is in
        let number : number_of 128 bits ≡ number_of 128 (zero_bits 96) = ap (number_of 128) (one_way behind bits (before_ipv4 db) on same ∙ zeros) in
        let small : number_of 128 (zero_bits 96) < 2 ^ 32 = (zeros-number 96 128 (zero_bits 96) (omega arith) (zeros_begin 96)).1 in
        let high = alias.high in
        absurd (omega arith)

    -- ---- lists of networks

    some_node : 0 < db.metadata.node_count
    some_node = certified.database.metadata.supported.some_node

    width_is : db_width db ≡ width options.ip_version
    width_is = same_width db options.ip_version version_is

    -- where all bits of an address lead, and what is said of it
    record IsFull (bits : List Bool) : Type 0 where
      found : Option ℕ
      led_to : record_at db (walk (tree_of db) bits) ≡ leaf_of found
      said : IsSaid (wide_in db bits) found

    full : (bits : List Bool) → length bits ≡ db_width db → IsFull bits
    full bits len =
        let n : ℕ = number_of (width options.ip_version) bits in
        let are : bits_of (width options.ip_version) n ≡ bits = full_number (width options.ip_version) bits (len ∙ width_is) in
        let fits : n < 2 ^ width options.ip_version = number-below (width options.ip_version) bits in
        let led = leads behind n fits in
        let number : walk (tree_of db) bits ≡ walk (tree_in tree behind) (bits_of (width options.ip_version) n) =
        ap (λ t. walk t bits) tree_is ∙ ap (walk (tree_in tree behind)) (sym are) in
        let wide : wide_in db bits ≡ bits_of 128 n = ap (wide_in db) (sym are) ∙ wide_number db options.ip_version version_is n fits in
        record {
          found = led.0;
          led_to = ap (λ (k : ℕ). record_of k (data_length db) (walk (tree_of db) bits)) count_is
              ∙ ap (λ (k : ℕ). record_of tree.node_count k (walk (tree_of db) bits)) certified.section_len
              ∙ ap (record_of tree.node_count (length section)) number ∙ led.2;
          said = subst (λ (b : List Bool). IsSaid b led.0) (sym wide) (number_said n led.0 fits led.1);
        }

    read_one : (found : Option ℕ) (v w : Option Tree) → IsRead db found v → IsRead db found w → v ≡ w
    read_one None v w h k = h ∙ sym k
    read_one (Some offset) v w h k = h.1 ∙ ap Some (one_whole (data_section db) offset h.0 k.0 h.2 k.2) ∙ sym k.1

    -- what is said of two addresses whose bits lead to one number
    said_alike : (one other : List Bool) (f : IsFull one) (g : IsFull other) → walk (tree_of db) one ≡ walk (tree_of db) other → f.said.v ≡ g.said.v
    said_alike one other f g same =
        let found : f.found ≡ g.found = leaf_of_one f.found g.found (sym f.led_to ∙ ap (record_at db) same ∙ g.led_to) in
        read_one g.found f.said.v g.said.v (subst (λ (o : Option ℕ). IsRead db o f.said.v) found f.said.read) g.said.read

    on_leaf : (leaf rest : List Bool) → (db.metadata.node_count ≤ walk (tree_of db) leaf) ⊎ (length leaf ≡ db_width db) → length (leaf ++ rest) ≡ db_width db → walk (tree_of db) (leaf ++ rest) ≡ walk (tree_of db) leaf
    on_leaf leaf rest (inl out) len = walk-past (tree_of db) 0 leaf rest out
    on_leaf leaf rest (inr all_bits) len = ap (walk (tree_of db)) (no_rest leaf rest (let e = length-append leaf rest in omega arith))

    abbrev rest_of : List Bool → List Bool
    rest_of block = zero_bits (db_width db - length block)

    extended : (block : List Bool) → length block ≤ db_width db → length (block ++ rest_of block) ≡ db_width db
    extended block short = let e = length-append block (rest_of block) in let f = length-zero_bits (db_width db - length block) in omega arith

    not_empty : (leaf : List Bool) → IsLeaf db leaf → leaf ≡ [] → ⊥
    not_empty leaf is none = elim is.ended [
      | inl out ↦
          let start : walk (tree_of db) leaf ≡ 0 = ap (walk (tree_of db)) none ∙ walk-nil (tree_of db) 0 in
          let some = some_node in
          absurd (omega arith)
      | inr all_bits ↦ let e = ap length none in let f = width_is in let g = some_bits options.ip_version in absurd (omega arith)
    ]

    -- bits on no node are those of a block of which one value is said
    mixed_on_node : (c front : List Bool) → IsMixed db values rows (c ++ front) → db.metadata.node_count ≤ walk (tree_of db) c → ⊥
    mixed_on_node c front m out =
        let f = full m.one m.one_full in
        let g = full m.other m.other_full in
        let to : (bits : List Bool) → IsPrefix (c ++ front) bits → walk (tree_of db) bits ≡ walk (tree_of db) c =
        λ bits here. ap (walk (tree_of db)) (here.1 ∙ append_assoc c front here.0) ∙ walk-past (tree_of db) 0 c (front ++ here.0) out in
        let same = said_alike m.one m.other f g (to m.one m.one_here ∙ sym (to m.other m.other_here)) in
        m.differ (says_one values rows (wide_in db m.one) m.v f.said.v m.one_has f.said.says ∙ same ∙ says_one values rows (wide_in db m.other) g.said.v m.w g.said.says m.other_has)

    module _ (asked_for : WithinOptions) (list : List Listed) (with_data : includes_without_data asked_for ≡ false) (keeps : skips_empty asked_for ≡ false) (listing : IsListing db asked_for [] list) where
      record HasData (found : Option ℕ) (finding : TreeRecord) : Type 0 where
        offset : ℕ
        is : found ≡ Some offset
        finding_is : finding ≡ Data offset

      data_finding : (found : Option ℕ) (finding : TreeRecord) → finding_of db asked_for (leaf_of found) ≡ Some finding → HasData found finding
      data_finding None finding h =
          let e : cond (includes_without_data asked_for) (Some Empty) None ≡ None = ap (λ (b : Bool). cond b (Some Empty) None) with_data in
          let f : None ≡ Some finding = sym e ∙ h in
          absurd (cc)
      data_finding (Some offset) finding h =
          let e : finding_of db asked_for (Data offset) ≡ Some (Data offset) = ap (λ (b : Bool). cond b (finding_unless_empty (empty_at (data_section db) offset) offset) (Some (Data offset))) keeps in
          let f : Some (Data offset) ≡ Some finding = sym e ∙ h in
          record { offset = offset; is = refl; finding_is = cc }

      listed_network : (m : Listed) → Contains list m → (v : Tree) × IsNetwork db values rows m.leaf v × IsListedWith db list m.leaf v
      unfolding finding_at
      listed_network m has =
          let is : IsListed db asked_for [] m.leaf m.finding = (listing.exact m).0 has in
          let leaf = is.is_leaf in
          let whole = extended m.leaf leaf.short in
          let f = full (m.leaf ++ rest_of m.leaf) whole in
          let walked : walk (tree_of db) (m.leaf ++ rest_of m.leaf) ≡ walk (tree_of db) m.leaf = on_leaf m.leaf (rest_of m.leaf) leaf.ended whole in
          let at : record_at db (walk (tree_of db) m.leaf) ≡ leaf_of f.found = ap (record_at db) (sym walked) ∙ f.led_to in
          let found : finding_at db asked_for (walk (tree_of db) m.leaf) ≡ Some m.finding = finding-complete db asked_for m.leaf m.finding is.found in
          let held = data_finding f.found m.finding (ap (finding_of db asked_for) (sym at) ∙ found) in
          let read : IsRead db (Some held.offset) f.said.v = subst (λ (o : Option ℕ). IsRead db o f.said.v) held.is f.said.read in (
            read.0,
            record {
              some = not_empty m.leaf leaf;
              short = leaf.short;
              alike = λ bits len on.
                  let g = full bits len in
                  let here : walk (tree_of db) bits ≡ walk (tree_of db) m.leaf = ap (walk (tree_of db)) on.1 ∙ on_leaf m.leaf on.0 leaf.ended (sym (ap length on.1) ∙ len) in
                  subst (Says values rows (wide_in db bits)) (said_alike bits (m.leaf ++ rest_of m.leaf) g f (here ∙ sym walked) ∙ read.1) g.said.says;
              largest = λ wider x e some. largest_blocks m.leaf wider [] x leaf e some;
            },
            (held.offset, subst (Contains list) (ap (listed_with m.leaf) held.finding_is) has, read.2),
          )

      module _ (block : List Bool) (v : Tree) (n : IsNetwork db values rows block v) where
        -- the bits of the block lead out of the nodes
        not_on_node : walk (tree_of db) block < db.metadata.node_count → ⊥
        not_on_node inner =
            let e = width_is in let s = n.short in
            let len : length block ≤ width options.ip_version = omega arith in
            let on : walk (tree_in tree behind) block < tree.node_count =
            subst (λ (k : ℕ). walk (tree_in tree behind) block < k) count_is (subst (λ t. walk t block < db.metadata.node_count) tree_is inner) in
            let h = split behind block n.some len on in
            let is_v : (number : ℕ) (fits : number < 2 ^ width options.ip_version) → IsPrefix block (bits_of (width options.ip_version) number) → (said : IsSaid (bits_of 128 number) (offset_in entries number)) → said.v ≡ Some v =
            λ number fits here said.
            let says = n.alike (bits_of (width options.ip_version) number) (length-bits_of (width options.ip_version) number ∙ sym width_is) here in
            says_one values rows (bits_of 128 number) said.v (Some v) said.says (subst (λ (b : List Bool). Says values rows b (Some v)) (wide_number db options.ip_version version_is number fits) says) in
            let one = some_says h.one h.fits in
            let other = some_says h.other h.other_fits in
            h.differ (same_found tiles once (offset_in entries h.one) (offset_in entries h.other) one.v other.v one.begun other.begun
            (is_v h.one h.fits h.in_block one ∙ sym (is_v h.other h.other_fits h.other_in_block other)))

        out : db.metadata.node_count ≤ walk (tree_of db) block
        out = elim (cases_lt (walk (tree_of db) block) db.metadata.node_count) [ inl on ↦ absurd (not_on_node on) | inr past ↦ past ]

        inner_nodes : (c : List Bool) (x : Bool) (d : List Bool) → block ≡ c ++ x ∷ d → walk (tree_of db) c < db.metadata.node_count
        inner_nodes [] x d e = subst (λ (k : ℕ). k < db.metadata.node_count) (sym (walk-nil (tree_of db) 0)) some_node
        inner_nodes (y ∷ c) x d e =
            let t = ends_in x d in
            let whole : block ≡ ((y ∷ c) ++ t.front) ++ t.last ∷ [] = e ∙ ap (λ (xs : List Bool). (y ∷ c) ++ xs) t.whole ∙ sym (append_assoc (y ∷ c) t.front (t.last ∷ [])) in
            let some : ¬ ((y ∷ c) ++ t.front ≡ []) = λ none. cc in
            elim (cases_lt (walk (tree_of db) (y ∷ c)) db.metadata.node_count) [
              | inl on ↦ on
              | inr past ↦ absurd (mixed_on_node (y ∷ c) t.front (n.largest ((y ∷ c) ++ t.front) t.last whole some) past)
            ]

        block_listed : IsListedWith db list block v
        unfolding finding_at
        block_listed =
            let whole = extended block n.short in
            let f = full (block ++ rest_of block) whole in
            let value : f.said.v ≡ Some v = says_one values rows (wide_in db (block ++ rest_of block)) f.said.v (Some v) f.said.says (n.alike (block ++ rest_of block) whole (rest_of block, refl)) in
            let d = data_of f.found (subst (IsRead db f.found) value f.said.read) in
            let at : record_at db (walk (tree_of db) block) ≡ Data d.0 = ap (record_at db) (sym (on_leaf block (rest_of block) (inl out) whole)) ∙ f.led_to ∙ ap leaf_of d.1.0 in
            let found : finding_at db asked_for (walk (tree_of db) block) ≡ Some (Data d.0) =
            ap (finding_of db asked_for) at ∙ ap (λ (b : Bool). cond b (finding_unless_empty (empty_at (data_section db) d.0) d.0) (Some (Data d.0))) keeps in
            let is : IsListed db asked_for [] block (Data d.0) = record {
              is_leaf = record { inner = inner_nodes; short = n.short; ended = inl out };
              in_range = inl (block, refl);
              clear = inr (λ beginning p. no_aliases beginning);
              found = finding-sound db asked_for block (Data d.0) found;
            } in
            (d.0, (listing.exact (listed_with block (Data d.0))).1 is, d.1.1)
          where
            data_of : (found : Option ℕ) → IsRead db found (Some v) → (offset : ℕ) × ((found ≡ Some offset) × WholeValue true (data_section db) offset v)
            data_of None h = absurd (cc)
            data_of (Some offset) h = (offset, (refl, subst (WholeValue true (data_section db) offset) (sym (same_some v h.0 h.1)) h.2))

    pub hands_out : HandsOutNetworks db values rows
    hands_out asked_for list with_data keeps listing = record {
      all = block_listed asked_for list with_data keeps listing;
      only = listed_network asked_for list with_data keeps listing;
    }

    asked_is : IsSizeFor options.record_size (numbers_of tree.node_count (length section)) tree.record_size → IsAsked options db
    asked_is serves = record {
      metadata = certified.metadata ∙ ap (λ (n : ℕ). asked_metadata options n (bits_in tree.record_size)) (sym count_is) ∙ ap (asked_metadata options db.metadata.node_count) (sym size_is);
      size = tree.record_size;
      size_is = size_is;
      serves = subst (λ (k : ℕ). IsSizeFor options.record_size (numbers_of db.metadata.node_count k) tree.record_size) (sym certified.section_len)
          (subst (λ (k : ℕ). IsSizeFor options.record_size (numbers_of k (length section)) tree.record_size) (sym count_is) serves);
    }

    is_written : IsSizeFor options.record_size (numbers_of tree.node_count (length section)) tree.record_size → IsWritten values rows options file
    is_written serves = record { db = db; database = certified.database; asked = asked_is serves; whole = certified.whole; lookups = lookups_agree; shared = shares_values; largest = largest_blocks; clear = no_aliases; networks = hands_out }

-- a file of a data section and entries that have what was added has it
pub writes_of : (options : Options) (section : List ℕ) (entries : List NodeEntry) (file : List ℕ) (values : List Value) (rows : List Row) → IsFileOf options section entries file → AllByRecursion (λ value. CanBeRead (value_tree value)) values
    → HasAdded values rows section entries → IsWritten values rows options file
writes_of options section entries file values rows f readable h =
    is_written file options f.tree section f.certified f.begins f.len values rows readable h.tiles h.once h.laid h.offsets h.begin entries f.entries h.entries_are f.order f.leads f.split f.one_way f.serves
