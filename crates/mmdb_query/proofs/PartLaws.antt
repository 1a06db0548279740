-- What is wanted of networks.
use Rattle.std.proofs.Common.{◌≡◌, ◌↔◌, ◌⊎◌, inl, inr, ◌<◌, ◌≤◌, ℕ, ◌+◌, ◌-◌, ◌^◌, Bool, true, false, ◌||◌, List, [], ◌∷◌, ◌++◌, Option, Some, None, Result, Ok, Err, IfOk, min, length, take, drop, refl, sym, ap, ◌∙◌, subst, append_assoc, append-nil, arith, if◌then◌else◌}
use Rattle.std.proofs.Math.Seq.{take-append-add}
use Rattle.std.proofs.Math.Nat.{min-le_left}
use Rattle.std.proofs.lemmas.List.{length-append, length-take, length-take-le}
use Rattle.std.proofs.lemmas.Slice.Eq.{starts_is}
use Rattle.std.specs.Bool.{beq, IsTrue}
use Rattle.std.specs.Cmp.{booleans_Decides}
use Rattle.std.specs.List.{starts_with}
use Rattle.std.specs.Option.{ForSome}
use Rattle.std.specs.Net.Addr.{is_ipv4}
use Rattle.mmdb_net.specs.Address.{IsMaskedIp, address_width, bits_of_address}
use Rattle.mmdb_net.specs.Bits.{bits_of, zero_bits, IsPrefix}
use Rattle.mmdb_net.specs.Network.{ip_of, prefix_of, block_of}
use Rattle.mmdb_net.specs.declared.network.IpNetwork.{IpNetwork}
use Rattle.mmdb_net.specs.declared.network.IpNetwork.TheVariants.{V4, V6}
use Rattle.mmdb_net.proofs.BitLaws.{length-bits_of, length-zero_bits, IsPrefix-take, bits_of-zero, take-zero_bits}
use Rattle.mmdb_blocks.specs.Blocks.{IsBlock, IsWithin, end}
use Rattle.mmdb_blocks.specs.declared.block.Block.{Block}
use Rattle.mmdb_blocks.specs.declared.kind.Kinds.{Kinds}
use Rattle.mmdb_blocks.specs.declared.kind.Kinds.TheVariants.{Both}
use Rattle.mmdb_query.specs.Abreast.{IsOfIpv4}
use Rattle.mmdb_query.specs.Had.{Had, IsNetworkOf, network_bits}
use Rattle.mmdb_query.specs.Listings.{HasBits}
use Rattle.mmdb_query.specs.Parts.{is_wanted, has_range, range_in, clipped, handed, IsHanded, parts_of, ComesInPart, IsInRange, IsAnsweredIn, AnswersStay}
use Rattle.mmdb_query.specs.Sets.{BeginsWith, IsGathered}
use Rattle.mmdb_query.specs.Taking.{Asked}
use Rattle.mmdb_query.specs.declared.addresses.Addresses.{Addresses}
use Rattle.mmdb_query.specs.Walks.{Item}
use Rattle.mmdb_query.specs.Walks.Item.{Found, Unread}
use Rattle.mmdb_query.proofs.SetLaws.{block_bits, from_bits}

-- ---- bits that begin with others

prefix_of_starts : (bits front : List Bool) → starts_with beq bits front ≡ true → IsPrefix front bits
prefix_of_starts bits front is = (drop (length front) bits, (starts_is booleans_Decides bits front (starts_with beq bits front) refl).0 is)

starts_of_prefix : (bits front : List Bool) → IsPrefix front bits → starts_with beq bits front ≡ true
starts_of_prefix bits front (rest, is) = (starts_is booleans_Decides bits front (starts_with beq bits front) refl).1 rest is

prefix_on : (front bits more : List Bool) → IsPrefix front bits → IsPrefix bits more → IsPrefix front more
prefix_on front bits more (rest, is) (others, whole) = (rest ++ others, whole ∙ ap (λ b. b ++ others) is ∙ append_assoc front rest others)

prefix_cut : (front bits : List Bool) (count : ℕ) → IsPrefix front bits → length front ≤ count → IsPrefix front (take count bits)
prefix_cut front bits count (rest, is) short =
    let left = count - length front in
    let sum : count ≡ length front + left = omega (arith, short) in
    (take left rest, ap (take count) is ∙ ap (λ k. take k (front ++ rest)) sum ∙ take-append-add front rest left)

prefix_short : (front bits : List Bool) → IsPrefix front bits → length front ≤ length bits
prefix_short front bits (rest, is) = let sum = ap length is ∙ length-append front rest in omega (arith, sum)

-- ---- a block has all addresses of another one

same_truth : (a b : Bool) → (IsTrue a → IsTrue b) → (IsTrue b → IsTrue a) → a ≡ b
same_truth true true there back = refl
same_truth true false there back = sym (there refl)
same_truth false true there back = back refl
same_truth false false there back = refl

abbrev pub bits_of_block : Block → List Bool
bits_of_block block = take block.prefix (bits_of 128 block.first)

long_block_bits : (block : Block) → IsBlock block → length (bits_of_block block) ≡ block.prefix
long_block_bits block is = let p = is.prefix in length-take-le block.prefix (bits_of 128 block.first) (omega (arith, p, length-bits_of 128 block.first))

pub has_bits : (whole part : Block) → IsBlock whole → IsBlock part → whole.prefix ≤ part.prefix → IsWithin part.first whole
    → starts_with beq (bits_of_block part) (bits_of_block whole) ≡ true
has_bits whole part is other short within =
    let begins = (block_bits whole (bits_of_block whole) part.first is refl other.first).0 within in
    starts_of_prefix (bits_of_block part) (bits_of_block whole)
    (prefix_cut (bits_of_block whole) (bits_of 128 part.first) part.prefix begins (omega (arith, short, long_block_bits whole is)))

within_bits : (whole part : Block) → IsBlock whole → IsBlock part → starts_with beq (bits_of_block part) (bits_of_block whole) ≡ true
    → (whole.prefix ≤ part.prefix) × IsWithin part.first whole
within_bits whole part is other starts =
    let begins = prefix_of_starts (bits_of_block part) (bits_of_block whole) starts in (
      omega (arith, prefix_short (bits_of_block whole) (bits_of_block part) begins, long_block_bits whole is, long_block_bits part other),
      (block_bits whole (bits_of_block whole) part.first is refl other.first).1
          (prefix_on (bits_of_block whole) (bits_of_block part) (bits_of 128 part.first) begins (IsPrefix-take part.prefix (bits_of 128 part.first))),
    )

false_unless : (b : Bool) → (b ≡ true → ⊥) → b ≡ false
false_unless true never = absurd (never refl)
false_unless false never = refl

pub lacks_bits : (whole part : Block) → IsBlock whole → IsBlock part → ((whole.prefix ≤ part.prefix) × IsWithin part.first whole → ⊥)
    → starts_with beq (bits_of_block part) (bits_of_block whole) ≡ false
lacks_bits whole part is other never = false_unless (starts_with beq (bits_of_block part) (bits_of_block whole)) (λ starts. never (within_bits whole part is other starts))

-- where a test says whether one ends after the other begins
pub tested_bits : (whole part : Block) (r : Bool) → IsBlock whole → IsBlock part → whole.prefix ≤ part.prefix → whole.first ≤ part.first
    → (r ≡ true → part.first < end whole) → (part.first < end whole → r ≡ true) → r ≡ starts_with beq (bits_of_block part) (bits_of_block whole)
tested_bits whole part r is other short low there back =
    same_truth r (starts_with beq (bits_of_block part) (bits_of_block whole))
    (λ yes. has_bits whole part is other short (low, there yes)) (λ starts. back (within_bits whole part is other starts).1.1)

-- ---- the network that is handed out

-- by the bits of blocks
pub range_had : (had : Had) (range network : IpNetwork) (whole part : Block) (r : Bool) → IsNetworkOf had network → bits_of_block whole ≡ network_bits network
    → bits_of_block part ≡ network_bits range → r ≡ starts_with beq (bits_of_block part) (bits_of_block whole) → has_range had range ≡ r
range_had had range network whole part r is bits other same =
    ap (λ b. starts_with beq b had.bits) (sym other) ∙ ap (λ b. starts_with beq (bits_of_block part) b) (sym (bits ∙ is.bits)) ∙ sym same

-- the first bits of IPv4 are 96 zeros
first_zeros : (network : IpNetwork) → is_ipv4 (ip_of network) ≡ true → IsPrefix (zero_bits 96) (network_bits network)
first_zeros (V4 n) is = (block_of (V4 n), refl)
first_zeros (V6 n) is = absurd (cc is)

small_zeros : (first : ℕ) → first < 2 ^ 128 → BeginsWith (zero_bits 96) first → first < 2 ^ 32
small_zeros first fits begins =
    let zeros : zero_bits 96 ≡ take 96 (bits_of 128 0) = sym (ap (take 96) (bits_of-zero 128) ∙ take-zero_bits 96 128 (omega arith)) in
    let within = from_bits 0 96 first (omega arith) (omega arith) refl fits (subst (λ b. BeginsWith b first) zeros begins) in
    omega (arith, within.1)

-- a block in a network of IPv4 is one of IPv4
block_in_ipv4 : (network : IpNetwork) (part : Block) → IsBlock part → is_ipv4 (ip_of network) ≡ true → IsPrefix (network_bits network) (bits_of_block part)
    → (96 ≤ part.prefix) × (part.first < 2 ^ 32)
block_in_ipv4 network part is kind begins =
    let front = prefix_on (zero_bits 96) (network_bits network) (bits_of_block part) (first_zeros network kind) begins in (
      omega (arith, prefix_short (zero_bits 96) (bits_of_block part) front, length-zero_bits 96, long_block_bits part is),
      small_zeros part.first is.first (prefix_on (zero_bits 96) (bits_of_block part) (bits_of 128 part.first) front (IsPrefix-take part.prefix (bits_of 128 part.first))),
    )

one_of : (a b : Bool) → (a || b) ≡ true → (a ≡ true) ⊎ (b ≡ true)
one_of true b is = inl refl
one_of false b is = inr is

-- so it may be shown as one
kind_shown : (had : Had) (range network shown : IpNetwork) (part : Block) → IsNetworkOf had network → IsBlock part → bits_of_block part ≡ network_bits range
    → has_range had range ≡ true → IsTrue (is_ipv4 (ip_of shown)) ↔ IsOfIpv4 (is_ipv4 (ip_of range) || is_ipv4 (ip_of network)) part
    → is_ipv4 (ip_of shown) ≡ (is_ipv4 (ip_of range) || had.as_ipv4)
kind_shown had range network shown part is block bits starts kind =
    let as_range : is_ipv4 (ip_of range) ≡ true → (96 ≤ part.prefix) × (part.first < 2 ^ 32) =
    λ v4. block_in_ipv4 range part block v4 (subst (λ b. IsPrefix (network_bits range) b) (sym bits) ([], sym (append-nil (network_bits range)))) in
    let as_network : is_ipv4 (ip_of network) ≡ true → (96 ≤ part.prefix) × (part.first < 2 ^ 32) =
    λ v4. block_in_ipv4 network part block v4 (subst (λ b. IsPrefix b (bits_of_block part)) (sym is.bits) (subst (λ b. IsPrefix had.bits b) (sym bits) (prefix_of_starts (network_bits range) had.bits starts))) in
    let either = is_ipv4 (ip_of range) || is_ipv4 (ip_of network) in
    let fits : either ≡ true → (96 ≤ part.prefix) × (part.first < 2 ^ 32) =
    λ v4. elim (one_of (is_ipv4 (ip_of range)) (is_ipv4 (ip_of network)) v4) [ inl r ↦ as_range r | inr n ↦ as_network n ] in
    let same : is_ipv4 (ip_of shown) ≡ either = same_truth (is_ipv4 (ip_of shown)) either (λ v4. (kind.0 v4).0) (λ v4. kind.1 (v4, (fits v4).0, (fits v4).1)) in
    same ∙ ap (λ b. is_ipv4 (ip_of range) || b) is.kind

cut_offsets : (b : Bool) (range : IpNetwork) (had : Had) → (if b then range_in had range else had).offsets ≡ had.offsets
cut_offsets true range had = refl
cut_offsets false range had = refl

pub range_shown : (had : Had) (range network shown : IpNetwork) (part : Block) → IsNetworkOf had network → IsBlock part → bits_of_block part ≡ network_bits range
    → has_range had range ≡ true → IsTrue (is_ipv4 (ip_of shown)) ↔ IsOfIpv4 (is_ipv4 (ip_of range) || is_ipv4 (ip_of network)) part
    → network_bits shown ≡ bits_of_block part → IsMaskedIp (ip_of shown) (prefix_of shown) (ip_of shown) → IsHanded (clipped (Some range) had) had (Some shown)
range_shown had range network shown part is block bits starts kind made masked =
    let there : IsNetworkOf (range_in had range) shown =
    record { kind = kind_shown had range network shown part is block bits starts kind; bits = made ∙ bits; masked = masked } in
    (subst (λ b. IsNetworkOf (if b then range_in had range else had) shown) (sym starts) there, cut_offsets (has_range had range) range had)

pub network_shown : (had : Had) (range : IpNetwork) → has_range had range ≡ false → IsHanded (clipped (Some range) had) had None
network_shown had range lacks = ap (λ b. if b then range_in had range else had) lacks

-- a network whose addresses begin with more bits than those of the range has not all of these
pub deeper_shown : (had : Had) (range : IpNetwork) (block : Block) (depth : ℕ) → HasBits block had.bits → length (network_bits range) ≤ depth → depth < block.prefix
    → IsHanded (clipped (Some range) had) had None
deeper_shown had range block depth has deep more =
    network_shown had range (false_unless (has_range had range) (λ starts.
    let short = prefix_short had.bits (network_bits range) (prefix_of_starts (network_bits range) had.bits starts) in
    let long : length had.bits ≡ block.prefix = ap length (sym has.same) ∙ long_block_bits block has.is_block in
    omega (arith, short, long, deep, more)))

deep_length : (n p : ℕ) (bits : List Bool) → length (zero_bits n ++ take p bits) ≤ n + p
deep_length n p bits =
    let sum = length-append (zero_bits n) (take p bits) in
    let zeros = length-zero_bits n in
    let most : min p (length bits) ≤ p = min-le_left p (length bits) in
    omega (arith, sum, zeros, length-take p bits, most)

pub deep_bits : (network : IpNetwork) → length (network_bits network) ≤ (128 - address_width (ip_of network)) + prefix_of network
deep_bits network = deep_length (128 - address_width (ip_of network)) (prefix_of network) (bits_of_address (ip_of network))

-- what is handed out, as it is
pub handed_is : (out had : Had) (part : Option IpNetwork) → IsHanded out had part → handed part had ≡ out
handed_is out had None is = sym is
handed_is out had (Some part) (is, offsets) =
    ap (λ (b : List Bool). record { bits = b; as_ipv4 = is_ipv4 (ip_of part); offsets = had.offsets }) is.bits
    ∙ ap (λ (k : Bool). record { bits = out.bits; as_ipv4 = k; offsets = had.offsets }) is.kind
    ∙ ap (λ (o : List (Option ℕ)). record { bits = out.bits; as_ipv4 = out.as_ipv4; offsets = o }) (sym offsets)

pub handed_masked : (out had : Had) (part : Option IpNetwork) → IsHanded out had part → ForSome part (λ n. IsMaskedIp (ip_of n) (prefix_of n) (ip_of n))
handed_masked out had None is n same = absurd (cc)
handed_masked out had (Some part) (is, offsets) n same = let here : part ≡ n = cc in subst (λ m. IsMaskedIp (ip_of m) (prefix_of m) (ip_of m)) here is.masked

-- ---- what addresses have

offsets_stay : (range : Option IpNetwork) (had : Had) → (clipped range had).offsets ≡ had.offsets
offsets_stay None had = refl
offsets_stay (Some range) had = cut_offsets (has_range had range) range had

cut_begins : (b : Bool) (range : IpNetwork) (had : Had) (address : ℕ) → BeginsWith (network_bits range) address → (b ≡ true → IsPrefix had.bits (network_bits range))
    → BeginsWith (if b then range_in had range else had).bits address ↔ BeginsWith had.bits address
cut_begins true range had address inside begins = ((λ _. prefix_on had.bits (network_bits range) (bits_of 128 address) (begins refl) inside), (λ _. inside))
cut_begins false range had address inside begins = ((λ b. b), (λ b. b))

begins_stay : (range : Option IpNetwork) (had : Had) (address : ℕ) → IsInRange range address → BeginsWith (clipped range had).bits address ↔ BeginsWith had.bits address
begins_stay None had address inside = ((λ b. b), (λ b. b))
begins_stay (Some range) had address inside = cut_begins (has_range had range) range had address inside (λ starts. prefix_of_starts (network_bits range) had.bits starts)

answered_later : (kinds : Kinds) (address : ℕ) (offsets : List (Option ℕ)) (first : Had) (items : List Item)
    → IsAnsweredIn kinds address offsets items → IsAnsweredIn kinds address offsets (Found first ∷ items)
answered_later kinds address offsets first items (had, found, wanted, lies, at) = (had, inr found, wanted, lies, at)

module _ (kinds : Kinds) (range : Option IpNetwork) (address : ℕ) (offsets : List (Option ℕ)) (inside : IsInRange range address) where
  abbrev pub parts_with : Bool → Had → List Item → List Item
  parts_with wanted first items = if wanted then Found (clipped range first) ∷ parts_of kinds range items else parts_of kinds range items

  of_first : (b : Bool) (first : Had) (items : List Item) → is_wanted kinds first.as_ipv4 ≡ b
      → (IsAnsweredIn Both address offsets (parts_of kinds range items) → IsAnsweredIn kinds address offsets items)
      → IsAnsweredIn Both address offsets (parts_with b first items) → IsAnsweredIn kinds address offsets (Found first ∷ items)
  of_first true first items is rest (had, inl same, any, begins, at) = (
    first,
    inl refl,
    is,
    (begins_stay range first address inside).0 (subst (λ (h : Had). BeginsWith h.bits address) same begins),
    sym (offsets_stay range first) ∙ sym (ap (λ (h : Had). h.offsets) same) ∙ at,
  )
  of_first true first items is rest (had, inr found, any, begins, at) = answered_later kinds address offsets first items (rest (had, found, any, begins, at))
  of_first false first items is rest answered = answered_later kinds address offsets first items (rest answered)

  from_parts : (items : List Item) → IsAnsweredIn Both address offsets (parts_of kinds range items) → IsAnsweredIn kinds address offsets items
  from_parts [] (had, found, any, begins, at) = absurd found
  from_parts (Unread ∷ items) answered = from_parts items answered
  from_parts (Found first ∷ items) answered = of_first (is_wanted kinds first.as_ipv4) first items refl (from_parts items) answered

  with_later : (b : Bool) (first : Had) (items : List Item) → IsAnsweredIn Both address offsets (parts_of kinds range items)
      → IsAnsweredIn Both address offsets (parts_with b first items)
  with_later true first items answered = answered_later Both address offsets (clipped range first) (parts_of kinds range items) answered
  with_later false first items answered = answered

  to_parts : (items : List Item) → IsAnsweredIn kinds address offsets items → IsAnsweredIn Both address offsets (parts_of kinds range items)
  to_parts [] (had, found, wanted, begins, at) = absurd found
  to_parts (Unread ∷ items) answered = to_parts items answered
  to_parts (Found first ∷ items) (had, inl same, wanted, begins, at) =
      let is : is_wanted kinds first.as_ipv4 ≡ true = sym (ap (λ (h : Had). is_wanted kinds h.as_ipv4) same) ∙ wanted in
      let there : BeginsWith first.bits address = subst (λ (h : Had). BeginsWith h.bits address) same begins in
      let part : IsAnsweredIn Both address offsets (parts_with true first items) =
      (clipped range first, inl refl, refl, (begins_stay range first address inside).1 there, offsets_stay range first ∙ sym (ap (λ (h : Had). h.offsets) same) ∙ at) in
      subst (λ b. IsAnsweredIn Both address offsets (parts_with b first items)) (sym is) part
  to_parts (Found first ∷ items) (had, inr found, wanted, begins, at) =
      with_later (is_wanted kinds first.as_ipv4) first items (to_parts items (had, found, wanted, begins, at))

pub answers_stay : AnswersStay
answers_stay kinds range items address offsets inside = (from_parts kinds range address offsets inside items, to_parts kinds range address offsets inside items)

-- ---- all that comes

pub all_parts : (items : List Item) → parts_of Both None items ≡ items
all_parts [] = refl
all_parts (Unread ∷ items) = ap (λ rest. Unread ∷ rest) (all_parts items)
all_parts (Found had ∷ items) = ap (λ rest. Found had ∷ rest) (all_parts items)

-- what is gathered of a walk is gathered of all its parts
gathered_whole : {X : Type 0} (comes : List Item → Type 0) (a : Asked X) (set : Addresses) (faults : ℕ) → IsGathered comes a set faults → IsGathered (ComesInPart Both None comes) a set faults
gathered_whole comes a set faults is = record {
  items = is.items;
  come = (is.items, is.come, sym (all_parts is.items));
  put = is.put;
  picked = is.picked;
  exact = is.exact;
  only = is.only;
  all = is.all;
}

pub gathered_of_all : {E X : Type 0} (kinds : Kinds) (range : Option IpNetwork) (comes : List Item → Type 0) (a : Asked X) (r : Result (Addresses × ℕ) E) → kinds ≡ Both → range ≡ None
    → IfOk r (λ found. IsGathered comes a found.0 found.1) → IfOk r (λ found. IsGathered (ComesInPart kinds range comes) a found.0 found.1)
gathered_of_all kinds range comes a (Ok found) both none is =
    subst (λ k. IsGathered (ComesInPart k range comes) a found.0 found.1) (sym both)
    (subst (λ q. IsGathered (ComesInPart Both q comes) a found.0 found.1) (sym none) (gathered_whole comes a found.0 found.1 is))
gathered_of_all kinds range comes a (Err e) both none is = tt
