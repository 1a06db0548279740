-- What comes of a range of a database agrees with lookups.
use Rattle.std.proofs.Common.{◌≡◌, ℕ, ◌+◌, ◌-◌, ◌*◌, ◌/◌, ◌%◌, ◌^◌, ◌<◌, ◌≤◌, ◌⊎◌, inl, inr, Bool, true, false, not, ◌||◌, List, [], ◌∷◌, ◌++◌, map, get_or, length, take, drop, Option, Some, None, refl, ap, arith, sym, subst, ◌∙◌, eqb-true, append_assoc, length-append}
use Rattle.std.specs.Prelude.{⊤, IsSomeAnd}
use Rattle.std.specs.declared.convert.AsSlice.{Ghosts}
use Rattle.std.specs.List.{All, Contains}
use Rattle.std.proofs.lemmas.Bool.{cases_lt, cases_Bool, eq-eqb, lt-ltb}
use Rattle.std.proofs.lemmas.Bool.Decides.{nat_tests}
use Rattle.std.proofs.lemmas.Nat.{div-mul-add}
use Rattle.std.proofs.lemmas.List.{get_or-map, get_or_default, length-map, take_all, drop_at}
use Rattle.std.proofs.lemmas.List.Elements.{All-head, All-tail, All-from_get_or, All-contains, All-contains_itself, All-weaker}
use Rattle.std.proofs.Math.Dec.{ltb}
use Rattle.std.proofs.Math.Seq.{take-append_seam}
use Rattle.std.specs.Int.{w32, w128, to_be_bytes}
use Rattle.std.specs.Net.Addr.{ipv4_bits, ipv6_bits, IsIpv4OfBits, IsIpv6OfBits, segments_of}
use Rattle.std.specs.declared.net.ip_addr.IpAddr.{IpAddr}
use Rattle.std.specs.declared.net.ip_addr.IpAddr.TheVariants.{V4, V6}
use Rattle.std.specs.declared.net.ipv4_addr.Ipv4Addr.{Ipv4Addr}
use Rattle.std.specs.declared.net.ipv6_addr.Ipv6Addr.{Ipv6Addr}
use Rattle.mmdb_net.specs.Bits.{bits_of, zero_bits, number_of, IsPrefix}
use Rattle.mmdb_net.specs.Network.{ip_of, block_of, address_width}
use Rattle.mmdb_net.specs.declared.network.IpNetwork.{IpNetwork}
use Rattle.mmdb_net.specs.declared.network.IpNetwork.TheVariants as Net
use Rattle.mmdb_net.proofs.BitLaws.{length-bits_of, length-zero_bits, take-bits_of, bits_of-zero, number_of-bits_of, number_of-filled, same_from_bits_of}
use Rattle.mmdb_net.proofs.AddressLaws.{ipv4_bits-of, ipv6_bits-of, same_first_bits}
use Rattle.mmdb_net.proofs.NetworkLaws.{prefix_of-le, length-block_of}
use Rattle.mmdb_blocks.specs.declared.block.Block.{Block}
use Rattle.mmdb_blocks.specs.Blocks.{IsWithin, end}
use Rattle.mmdb_blocks.specs.Networks.{network_bits}
use Rattle.mmdb_blocks.proofs.NetworkLaws.{wide_bits, low_zeros}
use Rattle.mmdb_blocks.proofs.NumberLaws.{quotient, nested}
use Rattle.mmdb_tree.specs.declared.record.TreeRecord.{TreeRecord}
use Rattle.mmdb_tree.specs.declared.record.TreeRecord.TheVariants.{Node, Empty, Data, Invalid}
use Rattle.mmdb_reader.specs.File.{Database, width, has_ipv6, before_ipv4}
use Rattle.mmdb_reader.specs.Items.{Item, item_of, item_of_leaf, items_of}
use Rattle.mmdb_reader.specs.Listing.{Listed, listed_with, IsListed, listed}
use Rattle.mmdb_reader.specs.ListingLaws.{AgreesWith}
use Rattle.mmdb_reader.specs.Lookup.{Answers, CanAsk, address_bits, outcome_at}
use Rattle.mmdb_reader.specs.Options.{default_options}
use Rattle.mmdb_reader.specs.Shown.{block_in}
use Rattle.mmdb_reader.specs.ShownLeaf.{is_leaf_shown_as_ipv4}
use Rattle.mmdb_reader.proofs.FindingLemmas.{listed_agrees}
use Rattle.mmdb_reader.proofs.LawLemmas.{answers_are_unique}
use Rattle.mmdb_reader.specs.Found.{leaf_of, offset_found}
use Rattle.mmdb_reader.specs.declared.lookup_result.LookupResult.{LookupResult}
use Rattle.mmdb_reader.proofs.ListingLemmas.{listed_exact}
use Rattle.mmdb_reader.proofs.NumberLemmas.{take-bits-number}
use Rattle.mmdb_compare.specs.Coming.{Leaf, Coming, coming, passed, answer_of, answer_at, between, block_of_bits}
use Rattle.mmdb_compare.specs.Coming.Leaf.{Network, Unread}
use Rattle.mmdb_compare.specs.Coming.Answer.{Record}
use Rattle.mmdb_compare.specs.Agreeing.{IsRecordAt, AllIsLeft, LeftGoesOn, LeftAfterUnread, AnswersAgree, IsFoundAsAnswered}
use Rattle.mmdb_compare.specs.Found.{numbered_ip, IsFoundAt}
use Rattle.mmdb_compare.specs.Listed.{shown_bits, block_within, leaf_of_item, leaves_of_items, all_of}
use Rattle.mmdb_compare.proofs.ComingLaws.{stays, goes, answer_inside, answer_before}
use Rattle.mmdb_compare.proofs.ListedLaws.{zeros_before, within_narrow, within_wide}

-- ---- bits

-- before the bits of a database's addresses, to 128 of them
abbrev zeros_to_128 : Database → List Bool
zeros_to_128 db = zero_bits (128 - width db)

without_zeros : (bits : List Bool) → zero_bits (128 - 128) ++ bits ≡ bits
unfolding zero_bits
without_zeros bits = refl

-- bits that begin with others do so after the same bits, and only then
prefix_after : (front a b : List Bool) → IsPrefix a b → IsPrefix (front ++ a) (front ++ b)
prefix_after front a b (rest, is) = (rest, ap (λ (xs : List Bool). front ++ xs) is ∙ sym (append_assoc front a rest))

prefix_behind : (front a b : List Bool) → IsPrefix (front ++ a) (front ++ b) → IsPrefix a b
prefix_behind front a b (rest, is) =
    let whole : front ++ b ≡ front ++ (a ++ rest) = is ∙ append_assoc front a rest in
    (rest, sym (drop_at front b (length front) refl) ∙ ap (drop (length front)) whole ∙ drop_at front (a ++ rest) (length front) refl)

prefix_of_prefix : (a b c : List Bool) → IsPrefix a b → IsPrefix b c → IsPrefix a c
prefix_of_prefix a b c (rest, b_is) (more, c_is) = (rest ++ more, c_is ∙ ap (λ (xs : List Bool). xs ++ more) b_is ∙ append_assoc a rest more)

-- ---- addresses in the block of some bits

-- the first of them has these bits, and zeros after them
filled : (bits : List Bool) → length bits ≤ 128 → bits_of 128 (number_of 128 bits) ≡ bits ++ zero_bits (128 - length bits)
filled bits le =
    let full = bits ++ zero_bits (128 - length bits) in
    let long : length full ≡ 128 = omega (arith, length-append bits (zero_bits (128 - length bits)), length-zero_bits (128 - length bits), le) in
    let n : number_of 128 full ≡ number_of 128 bits = number_of-filled 128 (128 - length bits) bits in
    let whole : take 128 (bits_of 128 (number_of 128 full)) ≡ bits_of 128 (number_of 128 full) = take_all 128 (bits_of 128 (number_of 128 full)) (omega (arith, length-bits_of 128 (number_of 128 full))) in
    let read : take (length full) (bits_of 128 (number_of 128 full)) ≡ full = take-bits-number 128 full (omega (arith, long)) in
    ap (bits_of 128) (sym n) ∙ sym whole ∙ ap (λ (k : ℕ). take k (bits_of 128 (number_of 128 full))) (sym long) ∙ read

number_fits : (bits : List Bool) → length bits ≤ 128 → number_of 128 bits < 2 ^ 128
number_fits bits le =
    let n = number_of 128 bits in
    let same : n % 2 ^ 128 ≡ n = sym (number_of-bits_of 128 n) ∙ ap (number_of 128) (filled bits le) ∙ number_of-filled 128 (128 - length bits) bits in
    omega (arith, same)

begins_with : (bits : List Bool) (address : ℕ) → length bits ≤ 128 → IsWithin address (block_of_bits bits) → (address < 2 ^ 128) × IsPrefix bits (bits_of 128 address)
begins_with bits address le inn =
    let n = number_of 128 bits in
    let p = length bits in
    let k = 128 - p in
    let fits : n < 2 ^ 128 = number_fits bits le in
    let first : take p (bits_of 128 n) ≡ bits = take-bits-number 128 bits le in
    let zeros : bits_of 128 n ≡ take p (bits_of 128 n) ++ zero_bits k = filled bits le ∙ ap (λ (xs : List Bool). xs ++ zero_bits k) (sym first) in
    let aligned : n % 2 ^ k ≡ 0 = low_zeros 128 p n (bits_of 128 n) le zeros (length-bits_of 128 n) in
    let q = n / 2 ^ k in
    let is : n ≡ q * 2 ^ k = quotient n k aligned in
    let upper : n + 2 ^ k ≤ 0 + 2 ^ 128 = nested n 0 k 128 (omega arith) aligned refl (omega (arith, fits)) in
    let below : address < 2 ^ 128 = omega (arith, inn.1, upper) in
    let rest = address - n in
    let sum : address ≡ q * 2 ^ k + rest = omega (arith, is, inn.0) in
    let small : rest < 2 ^ k = omega (arith, inn.0, inn.1) in
    let same : address / 2 ^ k ≡ q = ap (λ (x : ℕ). x / 2 ^ k) sum ∙ div-mul-add q (2 ^ k) rest small in
    (below, subst (λ (xs : List Bool). IsPrefix xs (bits_of 128 address)) first ((same_first_bits p k 128 n address (omega (arith, le)) fits below).0 (sym same)))

-- ---- the address of a number

short_bits : (n : ℕ) → n < 2 ^ 32 → ipv4_bits (record { octets = to_be_bytes w32 n }) ≡ n
unfolding IsIpv4OfBits
short_bits n fits = ipv4_bits-of (record { octets = to_be_bytes w32 n }) n fits refl

long_bits : (n : ℕ) → n < 2 ^ 128 → ipv6_bits (record { segments = segments_of (to_be_bytes w128 n) }) ≡ n
unfolding IsIpv6OfBits
long_bits n fits = ipv6_bits-of (record { segments = segments_of (to_be_bytes w128 n) }) n fits refl

numbered_short : (n : ℕ) → n < 2 ^ 32 → numbered_ip n ≡ V4 (record { octets = to_be_bytes w32 n })
numbered_short n lt = rw (lt-ltb n (2 ^ 32) lt) refl

numbered_long : (n : ℕ) → 2 ^ 32 ≤ n → numbered_ip n ≡ V6 (record { segments = segments_of (to_be_bytes w128 n) })
numbered_long n ge = let e : ltb n (2 ^ 32) ≡ false = grind (arith, nat_tests) in rw e refl

-- an address that was made of a number
pub made_short : (a : Ipv4Addr) (bits n : ℕ) → IsIpv4OfBits a bits → bits ≡ n → n < 2 ^ 32 → V4 a ≡ numbered_ip n
unfolding IsIpv4OfBits
made_short a bits n made same fits =
    ap (λ (octets : List ℕ). V4 (record { octets = octets })) (made ∙ ap (to_be_bytes w32) same) ∙ sym (numbered_short n fits)

pub made_long : (a : Ipv6Addr) (bits n : ℕ) → IsIpv6OfBits a bits → bits ≡ n → 2 ^ 32 ≤ n → V6 a ≡ numbered_ip n
unfolding IsIpv6OfBits
made_long a bits n made same large =
    ap (λ (segments : List ℕ). V6 (record { segments = segments })) (made ∙ ap (λ (b : ℕ). segments_of (to_be_bytes w128 b)) same) ∙ sym (numbered_long n large)

-- what is not refused can be asked
pub can_be_asked : (db : Database) (address : IpAddr) → (¬ CanAsk db address → ⊥) → CanAsk db address
can_be_asked db (V4 a) h = tt
can_be_asked db (V6 a) h = elim (cases_Bool (has_ipv6 db)) [
  | inl six ↦ eqb-true db.metadata.ip_version 6 six
  | inr four ↦ absurd (h (λ e. let six : has_ipv6 db ≡ true = eq-eqb db.metadata.ip_version 6 e in absurd (cc (sym six ∙ four))))
]

-- the number's bits are those of its address in a database, after zeros
record HasBits (db : Database) (n : ℕ) (address : IpAddr) : Type 0 where
  can_ask : CanAsk db address
  bits : zeros_to_128 db ++ address_bits db address ≡ bits_of 128 n

has_short : (db : Database) (n : ℕ) → n < 2 ^ 32 → HasBits db n (V4 (record { octets = to_be_bytes w32 n }))
has_short db n fits =
    let all : take 32 (bits_of 32 n) ≡ bits_of 32 n = take_all 32 (bits_of 32 n) (omega (arith, length-bits_of 32 n)) in
    let whole : take (96 + 32) (bits_of 128 n) ≡ bits_of 128 n = take_all (96 + 32) (bits_of 128 n) (omega (arith, length-bits_of 128 n)) in
    record {
      can_ask = tt;
      bits = ap (λ (k : ℕ). zeros_to_128 db ++ (before_ipv4 db ++ bits_of 32 k)) (short_bits n fits) ∙ zeros_before (has_ipv6 db) (bits_of 32 n) ∙ ap (λ (xs : List Bool). zero_bits 96 ++ xs) (sym all) ∙ sym (wide_bits n 32 fits) ∙ whole;
    }

has_long : (db : Database) (n : ℕ) → n < 2 ^ 128 → has_ipv6 db ≡ true → HasBits db n (V6 (record { segments = segments_of (to_be_bytes w128 n) }))
has_long db n fits six = record {
  can_ask = eqb-true db.metadata.ip_version 6 six;
  bits = rw six (without_zeros (bits_of 128 (ipv6_bits (record { segments = segments_of (to_be_bytes w128 n) }))) ∙ ap (bits_of 128) (long_bits n fits));
}

-- after 96 zeros only a number below 2 ^ 32 has bits
below_32 : (n : ℕ) (leaf : List Bool) → n < 2 ^ 128 → IsPrefix (zero_bits 96 ++ leaf) (bits_of 128 n) → n < 2 ^ 32
below_32 n leaf fits (rest, is) =
    let tail = leaf ++ rest in
    let split : bits_of 128 n ≡ zero_bits 96 ++ tail = is ∙ append_assoc (zero_bits 96) leaf rest in
    let front : take 96 (zero_bits 96 ++ tail) ≡ zero_bits 96 = ap (λ (k : ℕ). take k (zero_bits 96 ++ tail)) (sym (length-zero_bits 96)) ∙ take-append_seam (zero_bits 96) tail in
    let zeros : take 96 (bits_of 128 n) ≡ zero_bits 96 = ap (take 96) split ∙ front in
    let high : n / 2 ^ 32 ≡ 0 = same_from_bits_of 96 (n / 2 ^ 32) 0 (omega (arith, fits)) (omega arith) (sym (take-bits_of 96 128 32 n refl) ∙ zeros ∙ sym (bits_of-zero 96)) in
    omega (arith, high)

abbrev HasItsBits : Database → ℕ → Type 0
HasItsBits db n = HasBits db n (numbered_ip n)

has_bits : (db : Database) (n : ℕ) (leaf : List Bool) → n < 2 ^ 128 → IsPrefix (zeros_to_128 db ++ leaf) (bits_of 128 n) → HasItsBits db n
has_bits db n leaf fits begins = elim (cases_lt n (2 ^ 32)) [
  | inl lt ↦ subst (HasBits db n) (sym (numbered_short n lt)) (has_short db n lt)
  | inr ge ↦ subst (HasBits db n) (sym (numbered_long n ge)) (elim (cases_Bool (has_ipv6 db)) [
    | inl six ↦ has_long db n fits six
    | inr four ↦ (
        let after : IsPrefix (zero_bits (128 - 32) ++ leaf) (bits_of 128 n) = rw four at begins in
        let low : n < 2 ^ 32 = below_32 n leaf fits after in
        absurd (omega (arith, low, ge)))
  ])
]

-- ---- leaves

-- in 128 bits a leaf has zeros before it
shown_after_zeros : (db : Database) (leaf : List Bool) → shown_bits db leaf (is_leaf_shown_as_ipv4 db leaf) ≡ zeros_to_128 db ++ leaf
shown_after_zeros db leaf = elim (cases_Bool (is_leaf_shown_as_ipv4 db leaf)) [
  | inl shown ↦ rw shown refl
  | inr other ↦ (
      let six : has_ipv6 db ≡ true = first_true (has_ipv6 db) _ other in
      rw other (rw six (sym (without_zeros leaf))))
]
  where
    first_true : (a b : Bool) → (not a || b) ≡ false → a ≡ true
    first_true true b h = refl
    first_true false b h = sym h

-- the bits of a range in 128 bits are those in the database after zeros
range_bits : (db : Database) (range : IpNetwork) → CanAsk db (ip_of range) → network_bits range ≡ zeros_to_128 db ++ block_in db range
range_bits db (Net.V4 n) can = sym (zeros_before (has_ipv6 db) (block_of (Net.V4 n)))
range_bits db (Net.V6 n) can = let six : has_ipv6 db ≡ true = eq-eqb db.metadata.ip_version 6 can in rw six refl

-- each address in the block of a leaf that is listed begins with the leaf
begins_in : (db : Database) (range : IpNetwork) (leaf : List Bool) (address : ℕ) → CanAsk db (ip_of range) → length leaf ≤ width db → length (network_bits range) ≤ 128 → IsPrefix (block_in db range) leaf ⊎ IsPrefix leaf (block_in db range) → IsWithin address (block_within (block_of_bits (network_bits range)) (block_of_bits (zeros_to_128 db ++ leaf))) → (address < 2 ^ 128) × IsPrefix (zeros_to_128 db ++ leaf) (bits_of 128 address)
begins_in db range leaf address can short range_short in_range inn =
    let bits = zeros_to_128 db ++ leaf in
    let of_range = network_bits range in
    let long : length bits ≤ 128 = omega (arith, length-append (zeros_to_128 db) leaf, length-zero_bits (128 - width db), short, width_le db) in
    elim (cases_lt (length bits) (length of_range)) [
      | inl lt ↦ (
          let is : block_of_bits of_range ≡ block_within (block_of_bits of_range) (block_of_bits bits) = within_narrow (block_of_bits of_range) (block_of_bits bits) lt in
          let there = begins_with of_range address range_short (subst (IsWithin address) (sym is) inn) in
          let wide : IsPrefix bits of_range = elim in_range [
            | inl narrow ↦ (
                let whole : length leaf ≡ length (block_in db range) + length narrow.0 = ap length narrow.1 ∙ length-append (block_in db range) narrow.0 in
                let both : length of_range ≡ length (zeros_to_128 db) + length (block_in db range) = ap length (range_bits db range can) ∙ length-append (zeros_to_128 db) (block_in db range) in
                absurd (omega (arith, whole, both, lt, length-append (zeros_to_128 db) leaf)))
            | inr inside ↦ subst (IsPrefix bits) (sym (range_bits db range can)) (prefix_after (zeros_to_128 db) leaf (block_in db range) inside)
          ] in
          (there.0, prefix_of_prefix bits of_range (bits_of 128 address) wide there.1))
      | inr ge ↦ begins_with bits address long (subst (IsWithin address) (sym (within_wide (block_of_bits of_range) (block_of_bits bits) ge)) inn)
    ]
  where
    width_le : (db : Database) → width db ≤ 128
    width_le db = elim (cases_Bool (has_ipv6 db)) [ inl six ↦ rw six (omega arith) | inr four ↦ rw four (omega arith) ]

range_length : (range : IpNetwork) → length (network_bits range) ≤ 128
range_length range =
    let zeros = zero_bits (128 - address_width (ip_of range)) in
    omega (arith, length-append zeros (block_of range), length-zero_bits (128 - address_width (ip_of range)), length-block_of range, prefix_of-le range, width_of (ip_of range))
  where
    width_of : (address : IpAddr) → address_width address ≤ 128
    width_of (V4 a) = omega arith
    width_of (V6 a) = omega arith

-- ---- what comes of a range

-- a lookup of each address in the network finds its record
abbrev IsLeafOf : Database → Leaf → Type 0
IsLeafOf db (Network block offset) = (address : ℕ) → IsWithin address block → IsRecordAt db address offset
IsLeafOf db Unread = ⊤

abbrev leaf_block : Database → IpNetwork → List Bool → Block
leaf_block db range leaf = block_within (block_of_bits (network_bits range)) (block_of_bits (shown_bits db leaf (is_leaf_shown_as_ipv4 db leaf)))

found_at : (db : Database) (range : IpNetwork) (leaf : List Bool) (finding : TreeRecord) (offset : Option ℕ) (address : ℕ) → CanAsk db (ip_of range) → IsListed db default_options (block_in db range) leaf finding → ((asked : IpAddr) → AgreesWith db asked leaf finding → Answers db asked leaf (outcome_at offset)) → IsWithin address (leaf_block db range leaf) → IsRecordAt db address offset
found_at db range leaf finding offset address can is answers inn =
    let inside = subst (λ (xs : List Bool). IsWithin address (block_within (block_of_bits (network_bits range)) (block_of_bits xs))) (shown_after_zeros db leaf) inn in
    let begins = begins_in db range leaf address can is.is_leaf.short (range_length range) is.in_range inside in
    let has : HasItsBits db address = has_bits db address leaf begins.0 begins.1 in
    let on : IsPrefix leaf (address_bits db (numbered_ip address)) = prefix_behind (zeros_to_128 db) leaf (address_bits db (numbered_ip address)) (subst (IsPrefix (zeros_to_128 db ++ leaf)) (sym has.bits) begins.1) in
    (leaf, answers (numbered_ip address) (listed_agrees db default_options (block_in db range) leaf finding (numbered_ip address) is has.can_ask on))

leaf_agrees : (db : Database) (range : IpNetwork) (leaf : List Bool) (finding : TreeRecord) → CanAsk db (ip_of range) → IsListed db default_options (block_in db range) leaf finding → IsLeafOf db (leaf_of_item db (block_of_bits (network_bits range)) (item_of_leaf db leaf finding))
leaf_agrees db range leaf Invalid can is = tt
leaf_agrees db range leaf (Node number) can is = tt
leaf_agrees db range leaf Empty can is = λ address inn. found_at db range leaf Empty None address can is (λ asked agrees. agrees) inn
leaf_agrees db range leaf (Data offset) can is = λ address inn. found_at db range leaf (Data offset) (Some offset) address can is (λ asked agrees. agrees) inn

abbrev leaves_in : Database → IpNetwork → List Listed → List Leaf
leaves_in db range list = leaves_of_items db (block_of_bits (network_bits range)) (items_of db list)

fault : Listed
fault = listed_with [] Invalid

one_agrees : (db : Database) (range : IpNetwork) (list : List Listed) (i : ℕ) → CanAsk db (ip_of range) → list ≡ listed db default_options (block_in db range) → i < length (leaves_in db range list) → IsLeafOf db (get_or (leaves_in db range list) i Unread)
one_agrees db range list i can is lt =
    let items = items_of db list in
    let shown : Item → Leaf = leaf_of_item db (block_of_bits (network_bits range)) in
    let in_items : i < length items = omega (arith, lt, length-map items shown) in
    let in_list : i < length list = omega (arith, in_items, length-map list (item_of db)) in
    let m : Listed = get_or list i fault in
    let item : get_or items i (item_of db fault) ≡ item_of db m = get_or-map (item_of db) list i fault (item_of db fault) in_list in
    let first : get_or (map shown items) i Unread ≡ shown (get_or items i (item_of db fault)) = get_or-map shown items i (item_of db fault) Unread in_items in
    let leaf : get_or (map shown items) i Unread ≡ shown (item_of db m) = first ∙ ap shown item in
    let there : Contains list m = (i, in_list, get_or_default list i m fault in_list) in
    let of_range : Contains (listed db default_options (block_in db range)) m = subst (λ (xs : List Listed). Contains xs m) is there in
    subst (IsLeafOf db) (sym leaf) (leaf_agrees db range m.leaf m.finding can ((listed_exact db default_options (block_in db range) m).0 of_range))

all_agree : (db : Database) (range : IpNetwork) → CanAsk db (ip_of range) → All (IsLeafOf db) (all_of db range).leaves
all_agree db range can =
    let list : List Listed = listed db default_options (block_in db range) in
    All-from_get_or (IsLeafOf db) (leaves_in db range list) Unread (λ i lt. one_agrees db range list i can refl lt)

-- ---- what is left

no_record : (u : Bool) (offset : Option ℕ) → between u ≡ Record offset → ⊥
no_record true offset e = cc
no_record false offset e = cc

same_offset : (a b : Option ℕ) → Record a ≡ Record b → a ≡ b
same_offset a b e = cc

answered : (db : Database) (address : ℕ) (leaves : List Leaf) (u : Bool) (offset : Option ℕ) → All (IsLeafOf db) leaves → answer_at address (coming leaves u) ≡ Record offset → IsRecordAt db address offset
answered db address [] u offset all e = absurd (no_record u offset e)
answered db address (Unread ∷ leaves) u offset all e = absurd (cc)
answered db address (Network block o ∷ leaves) u offset all e = elim (cases_lt address (end block)) [
  | inl lt ↦ elim (cases_lt address block.first) [
    | inl before ↦ absurd (no_record u offset (sym (answer_before address block o leaves u before) ∙ e))
    | inr inn ↦ (
        let same : o ≡ offset = same_offset o offset (sym (answer_inside address block o leaves u inn lt) ∙ e) in
        subst (IsRecordAt db address) same (All-head (IsLeafOf db) (Network block o) leaves all address (inn, lt)))
  ]
  | inr ge ↦ (
      let gone = ap (λ (left : Coming). answer_of address left.leaves left.is_unknown) (goes address block o leaves u ge) in
      answered db address leaves false offset (All-tail (IsLeafOf db) (Network block o) leaves all) (sym gone ∙ e))
]

left_goes_on : (P : Leaf → Type 0) (at : ℕ) (leaves : List Leaf) (u : Bool) → All P leaves → All P (passed at leaves u).leaves
left_goes_on P at [] u all = all
left_goes_on P at (Unread ∷ leaves) u all = all
left_goes_on P at (Network block o ∷ leaves) u all = elim (cases_lt at (end block)) [
  | inl lt ↦ subst (λ (c : Coming). All P c.leaves) (sym (stays at block o leaves u lt)) all
  | inr ge ↦ subst (λ (c : Coming). All P c.leaves) (sym (goes at block o leaves u ge)) (left_goes_on P at leaves false (All-tail P (Network block o) leaves all))
]

pub all_is_left : AllIsLeft
all_is_left db range = All-contains_itself (all_of db range).leaves

pub left_on_goes : LeftGoesOn
left_on_goes db range at c left = left_goes_on (Contains (all_of db range).leaves) at c.leaves c.is_unknown left

pub left_after_unread : LeftAfterUnread
left_after_unread db range at before after past left =
    let P = Contains (all_of db range).leaves in
    let there : All P (Unread ∷ past.leaves) = subst (λ (c : Coming). All P c.leaves) past.met (left_goes_on P at before.leaves before.is_unknown left) in
    subst (λ (c : Coming). All P c.leaves) (sym past.left) (left_goes_on P at past.leaves true (All-tail P Unread past.leaves there))

pub answers_agree : AnswersAgree
answers_agree db range c address offset can left e =
    let all = all_agree db range can in
    let each : All (IsLeafOf db) c.leaves = All-weaker (Contains (all_of db range).leaves) (IsLeafOf db) (λ leaf there. All-contains (IsLeafOf db) (all_of db range).leaves leaf all there) c.leaves left in
    answered db address c.leaves c.is_unknown offset each e

-- ---- what is found

not_invalid : (offset : Option ℕ) → Invalid ≡ outcome_at offset → ⊥
not_invalid None e = cc
not_invalid (Some place) e = cc

one_offset : (a b : Option ℕ) → outcome_at a ≡ outcome_at b → a ≡ b
one_offset None None e = refl
one_offset None (Some b) e = absurd (cc)
one_offset (Some a) None e = absurd (cc)
one_offset (Some a) (Some b) e = cc

found_with : {S : Type 0} {G : Ghosts S ℕ} (db : Database) (address : ℕ) (offset : Option ℕ) (found : Option (LookupResult S G)) → IsRecordAt db address offset → IsFoundAt db (numbered_ip address) found → IsSomeAnd found (λ r. offset_found r ≡ offset)
found_with db address offset None (leaf, is) (inl refused) = absurd (refused is.can_ask)
found_with db address offset None (leaf, is) (inr (other, invalid)) = absurd (not_invalid offset (answers_are_unique db (numbered_ip address) other leaf Invalid (outcome_at offset) invalid is).1)
found_with db address offset (Some r) (leaf, is) answer = one_offset (offset_found r) offset (answers_are_unique db (numbered_ip address) (leaf_of r) leaf (outcome_at (offset_found r)) (outcome_at offset) answer.answers is).1

pub found_as_answered : {S : Type 0} {G : Ghosts S ℕ} (found : Option (LookupResult S G)) → IsFoundAsAnswered found
found_as_answered found db range c address offset can left e there = found_with db address offset found (answers_agree db range c address offset can left e) there
