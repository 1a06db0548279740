-- Networks that ascend are pushed to a list as blocks of IPv4, and then of IPv6.
use Rattle.std.proofs.Common.{◌≡◌, ◌⊎◌, ◌↔◌, inl, inr, ℕ, ◌+◌, ◌-◌, ◌*◌, ◌/◌, ◌%◌, ◌^◌, ◌<◌, ◌≤◌, max, Bool, true, false, List, [], ◌∷◌, ◌++◌, Option, Some, None, drop, refl, sym, ap, ◌∙◌, subst, arith, append_assoc, append-nil, if◌then◌else◌}
use Rattle.std.proofs.lemmas.Bool.{cases_Bool, cases_lt, lt-ltb, le-ltb}
use Rattle.std.proofs.lemmas.List.{take-append-drop}
use Rattle.std.proofs.Math.Nat.{mul-mod_left}
use Rattle.std.specs.List.{flat_map}
use Rattle.mmdb_net.specs.Bits.{bits_of, zero_bits}
use Rattle.mmdb_net.proofs.BitLaws.{bits_of-split, bits_of-zero}
use Rattle.mmdb_blocks.specs.Blocks.{IsBlock, IsWithin, IsIn, IsJoined}
use Rattle.mmdb_blocks.specs.Kinds.{IsWanted}
use Rattle.mmdb_blocks.specs.Lists.{Page, Listing, Pushes, changed_page, with_rest, with_network, with_lines, written_for, is_other, finished_text}
use Rattle.mmdb_blocks.specs.ListTexts.{PushesAll, IsWhole}
use Rattle.mmdb_blocks.specs.declared.block.Block.{Block}
use Rattle.mmdb_blocks.specs.declared.kind.BlockKind.{BlockKind}
use Rattle.mmdb_blocks.specs.declared.kind.BlockKind.TheVariants.{Ipv4, Ipv6}
use Rattle.mmdb_blocks.specs.declared.kind.Kinds.{Kinds}
use Rattle.mmdb_blocks.specs.declared.kind.Kinds.TheVariants.{Both, One}
use Rattle.mmdb_blocks.proofs.NumberLaws.{nested, same-start, twice-le}
use Rattle.mmdb_query.specs.Ascending.{HasIpv4, IsBefore, Ascend, IsAddressOf, HaveAddresses, ArePushedInOrder, IsRun, IsListedWhole}
use Rattle.mmdb_query.specs.Had.{Had}
use Rattle.mmdb_query.specs.Listings.{HasBits, ipv4_part, blocks_of, Puts, PutsAll, PutsBits, puts_listed}
use Rattle.mmdb_query.specs.Rows.{nothing}
use Rattle.mmdb_query.specs.Sets.{BeginsWith, LiesIn, LiesInOne, IsFoundIn}
use Rattle.mmdb_query.specs.Taking.{Asked, IsPicked, ArePicked, Runs}
use Rattle.mmdb_query.specs.Walks.{Item}
use Rattle.mmdb_query.specs.Walks.Item.{Found, Unread}
use Rattle.mmdb_query.specs.declared.error.QueryError.{QueryError}
use Rattle.mmdb_query.proofs.AscendLaws.{either_begins}
use Rattle.mmdb_query.proofs.SetLaws.{block_bits}

-- ---- the networks that are put

abbrev IsPutIn : Had → List Had → Type 0
IsPutIn other [] = ⊥
IsPutIn other (had ∷ others) = (other ≡ had) ⊎ IsPutIn other others

-- after one of IPv6 comes none that has addresses of IPv4
abbrev Leads : Had → Had → Type 0
Leads had other = (other.as_ipv4 ≡ true) ⊎ HasIpv4 other → had.as_ipv4 ≡ true

abbrev InOrder : List Had → Type 0
InOrder [] = Unit {0}
InOrder (had ∷ others) = ((other : Had) → IsPutIn other others → Leads had other) × InOrder others

leads : (had other : Had) → IsBefore had other → Leads had other
leads had other is (inl kind) = is.kind kind
leads had other is (inr part) = is.part part

-- an item is put as it is, or not at all
abbrev IsOne : Item → List Had → Type 0
IsOne Unread put = ⊥
IsOne (Found had) put = put ≡ had ∷ []

none_or_one : (a : Asked Listing) (item : Item) (put : List Had) (fault : ℕ) → IsPicked a item put fault → (put ≡ []) ⊎ IsOne item put
none_or_one a Unread put fault (none, one) = inl none
none_or_one a (Found had) put fault (inl (inl (says, is), none)) = inr is
none_or_one a (Found had) put fault (inl (inr (says, is), none)) = inl is
none_or_one a (Found had) put fault (inr (cant, is, one)) = inl is

found_later : (item : Item) (items : List Item) (other : Had) → IsFoundIn other items → IsFoundIn other (item ∷ items)
found_later Unread items other found = found
found_later (Found had) items other found = inr found

put_first : (item : Item) (items : List Item) (first rest : List Had) (other : Had) → (first ≡ []) ⊎ IsOne item first → (IsPutIn other rest → IsFoundIn other items)
    → IsPutIn other (first ++ rest) → IsFoundIn other (item ∷ items)
put_first item items first rest other (inl none) later put = found_later item items other (later (subst (λ (hs : List Had). IsPutIn other (hs ++ rest)) none put))
put_first Unread items first rest other (inr one) later put = absurd one
put_first (Found had) items first rest other (inr one) later put = of (subst (λ (hs : List Had). IsPutIn other (hs ++ rest)) one put)
  where
    of : (other ≡ had) ⊎ IsPutIn other rest → IsFoundIn other (Found had ∷ items)
    of (inl same) = inl same
    of (inr there) = inr (later there)

put_found : (a : Asked Listing) (items : List Item) (put : List Had) (faults : ℕ) → ArePicked a items put faults → (other : Had) → IsPutIn other put → IsFoundIn other items
put_found a [] put faults (none, zero) other there = absurd (subst (IsPutIn other) none there)
put_found a (item ∷ items) put faults (first, rest, fault, others, one, left, is, sum) other there =
    put_first item items first rest other (none_or_one a item first fault one) (put_found a items rest others left other) (subst (IsPutIn other) is there)

order_first : (item : Item) (items : List Item) (first rest : List Had) → (first ≡ []) ⊎ IsOne item first → Ascend (item ∷ items) → ((other : Had) → IsPutIn other rest → IsFoundIn other items)
    → InOrder rest → InOrder (first ++ rest)
order_first item items first rest (inl none) ascend found order = subst (λ (hs : List Had). InOrder (hs ++ rest)) (sym none) order
order_first Unread items first rest (inr one) ascend found order = absurd one
order_first (Found had) items first rest (inr one) (before, ascend) found order =
    subst (λ (hs : List Had). InOrder (hs ++ rest)) (sym one) ((λ other put. leads had other (before other (found other put))), order)

ascend_rest : (item : Item) (items : List Item) → Ascend (item ∷ items) → Ascend items
ascend_rest Unread items ascend = ascend
ascend_rest (Found had) items (before, ascend) = ascend

picked_order : (a : Asked Listing) (items : List Item) (put : List Had) (faults : ℕ) → ArePicked a items put faults → Ascend items → InOrder put
picked_order a [] put faults (none, zero) ascend = subst InOrder (sym none) tt
picked_order a (item ∷ items) put faults (first, rest, fault, others, one, left, is, sum) ascend =
    subst InOrder (sym is) (order_first item items first rest (none_or_one a item first fault one) ascend (put_found a items rest others left)
    (picked_order a items rest others left (ascend_rest item items ascend)))

-- ---- blocks with addresses of IPv4

-- an address of IPv4 has 96 zeros before it
zeros_before : (address : ℕ) → address < 2 ^ 32 → bits_of 128 address ≡ zero_bits 96 ++ bits_of 32 address
zeros_before address small =
    let none : address / 2 ^ 32 ≡ 0 = omega (arith, small) in
    bits_of-split 96 32 128 address refl ∙ ap (λ (k : ℕ). bits_of 96 k ++ bits_of 32 address) none ∙ ap (λ (bits : List Bool). bits ++ bits_of 32 address) (bits_of-zero 96)

small_has : (had : Had) (address : ℕ) → address < 2 ^ 32 → BeginsWith had.bits address → HasIpv4 had
small_has had address small (rest, is) = either_begins (zero_bits 96) had.bits (bits_of 32 address) rest (sym (zeros_before address small) ∙ is)

begins_first : (block : Block) (bits : List Bool) → HasBits block bits → BeginsWith bits block.first
begins_first block bits has =
    (drop block.prefix (bits_of 128 block.first), sym (take-append-drop block.prefix (bits_of 128 block.first)) ∙ ap (λ (b : List Bool). b ++ drop block.prefix (bits_of 128 block.first)) has.same)

large_first : (had : Had) (block : Block) → HasBits block had.bits → ¬ HasIpv4 had → 2 ^ 32 ≤ block.first
large_first had block has none = elim (cases_lt block.first (2 ^ 32)) [
  | inl small ↦ absurd (none (small_has had block.first small (begins_first block had.bits has)))
  | inr large ↦ large
]

-- what a block has of the addresses of IPv4
part_narrow : (block : Block) (address : ℕ) → IsBlock block → block.first < 2 ^ 32 → 96 ≤ block.prefix → IsWithin address (ipv4_part block) ↔ (IsWithin address block × (address < 2 ^ 32))
part_narrow block address is small deep =
    let same : max block.prefix 96 ≡ block.prefix = omega (arith, deep) in
    let p = is.prefix in
    let over : block.first + 2 ^ (128 - block.prefix) ≤ 0 + 2 ^ 32 = nested block.first 0 (128 - block.prefix) 32 (omega (arith, deep)) is.aligned refl (omega (arith, small)) in
    let size : 2 ^ (128 - max block.prefix 96) ≡ 2 ^ (128 - block.prefix) = ap (λ (k : ℕ). 2 ^ (128 - k)) same in (
      (λ within. ((within.0, omega (arith, within.1, size)), omega (arith, within.1, size, over))),
      (λ both. (both.0.0, omega (arith, both.0.1, size))),
    )

part_wide : (block : Block) (address : ℕ) → IsBlock block → block.first < 2 ^ 32 → block.prefix < 96 → IsWithin address (ipv4_part block) ↔ (IsWithin address block × (address < 2 ^ 32))
part_wide block address is small wide =
    let same : max block.prefix 96 ≡ 96 = omega (arith, wide) in
    let size : 2 ^ (128 - max block.prefix 96) ≡ 2 ^ 32 = ap (λ (k : ℕ). 2 ^ (128 - k)) same in
    let most : 2 * 2 ^ 32 ≤ 2 ^ (128 - block.prefix) = twice-le 32 (128 - block.prefix) (omega (arith, wide)) in
    let zero : block.first ≡ 0 = same-start block.first 0 (128 - block.prefix) is.aligned (zero_aligned (2 ^ (128 - block.prefix))) (omega arith) (omega (arith, small, most)) in (
      (λ within. ((within.0, omega (arith, within.1, size, zero, most)), omega (arith, within.1, size, zero))),
      (λ both. (both.0.0, omega (arith, both.1, size, zero))),
    )
  where
    zero_aligned : (n : ℕ) → 0 % n ≡ 0
    zero_aligned n = let e : 0 ≡ 0 * n = omega arith in ap (λ (k : ℕ). k % n) e ∙ mul-mod_left 0 n

part_within : (block : Block) (address : ℕ) → IsBlock block → block.first < 2 ^ 32 → IsWithin address (ipv4_part block) ↔ (IsWithin address block × (address < 2 ^ 32))
part_within block address is small = elim (cases_lt block.prefix 96) [
  | inl wide ↦ part_wide block address is small wide
  | inr deep ↦ part_narrow block address is small deep
]

-- ---- block after block of a kind

abbrev PutsKind : BlockKind → List Block → Listing → List ℕ → Listing → Type 0
PutsKind kind [] old text new = (new ≡ old) × (text ≡ [])
PutsKind kind (block ∷ blocks) old text new =
    (mid : Listing) × (first rest : List ℕ) × Puts (kind, block) old first mid × PutsKind kind blocks mid rest new × (text ≡ first ++ rest)

puts_none : (kind : BlockKind) (old : Listing) → PutsKind kind [] old [] old
puts_none kind old = (refl, refl)

puts_one : (kind : BlockKind) (block : Block) (old new : Listing) (text : List ℕ) → Puts (kind, block) old text new → PutsKind kind (block ∷ []) old text new
puts_one kind block old new text puts = (new, text, [], puts, (refl, refl), sym (append-nil text))

puts_alone : (kind : BlockKind) (block : Block) (old new : Listing) (text : List ℕ) → PutsAll ((kind, block) ∷ []) old text new → Puts (kind, block) old text new
puts_alone kind block old new text (mid, first, rest, puts, (same, none), is) =
    let whole : text ≡ first = is ∙ ap (λ (t : List ℕ). first ++ t) none ∙ append-nil first in
    subst (λ (l : Listing). Puts (kind, block) old text l) (sym same) (subst (λ (t : List ℕ). Puts (kind, block) old t mid) (sym whole) puts)

-- a block of IPv6 that is no part of IPv4
blocks_late : (block : Block) → 2 ^ 32 ≤ block.first → blocks_of false block ≡ (Ipv6, block) ∷ []
blocks_late block large = ap (λ (b : Bool). if b then (Ipv4, ipv4_part block) ∷ (Ipv6, block) ∷ [] else (Ipv6, block) ∷ []) (le-ltb block.first (2 ^ 32) large)

blocks_both : (block : Block) → block.first < 2 ^ 32 → blocks_of false block ≡ (Ipv4, ipv4_part block) ∷ (Ipv6, block) ∷ []
blocks_both block small = ap (λ (b : Bool). if b then (Ipv4, ipv4_part block) ∷ (Ipv6, block) ∷ [] else (Ipv6, block) ∷ []) (lt-ltb block.first (2 ^ 32) small)

-- ---- networks of IPv6 alone

abbrev IsLate : Had → Type 0
IsLate had = (had.as_ipv4 ≡ false) × ¬ HasIpv4 had

abbrev AreLate : List Had → Type 0
AreLate put = (other : Had) → IsPutIn other put → IsLate other

not_true : (b : Bool) → b ≡ false → b ≡ true → ⊥
not_true b not_so is_so = let e : false ≡ true = sym not_so ∙ is_so in cc

late_of : (b : Bool) → (b ≡ true → ⊥) → b ≡ false
late_of true never = absurd (never refl)
late_of false never = refl

late_after : (had : Had) (others : List Had) → had.as_ipv4 ≡ false → ((other : Had) → IsPutIn other others → Leads had other) → AreLate others
late_after had others v6 leads_all other put = (
  late_of other.as_ipv4 (λ yes. not_true had.as_ipv4 v6 (leads_all other put (inl yes))),
  (λ has. not_true had.as_ipv4 v6 (leads_all other put (inr has))),
)

-- none of them has an address of IPv4
none_late : (put : List Had) (address : ℕ) → AreLate put → LiesInOne true address put → ⊥
none_late [] address late lies = absurd lies
none_late (had ∷ others) address late (inl (kind, begins)) = not_true had.as_ipv4 (late had (inl refl)).0 (sym kind)
none_late (had ∷ others) address late (inr lies) = none_late others address (λ other put. late other (inr put)) lies

small_late : (put : List Had) (address : ℕ) → AreLate put → address < 2 ^ 32 → LiesInOne false address put → ⊥
small_late [] address late small lies = absurd lies
small_late (had ∷ others) address late small (inl (kind, begins)) = (late had (inl refl)).1 (small_has had address small begins)
small_late (had ∷ others) address late small (inr lies) = small_late others address (λ other put. late other (inr put)) small lies

-- an address of a block is one of the network
within_had : (had : Had) (block : Block) (as_ipv4 : Bool) (address : ℕ) → HasBits block had.bits → had.as_ipv4 ≡ as_ipv4 → address < 2 ^ 128 → IsWithin address block ↔ LiesIn as_ipv4 address had
within_had had block as_ipv4 address has kind fits =
    let bits = block_bits block had.bits address has.is_block has.same fits in ((λ within. (sym kind, bits.0 within)), (λ lies. bits.1 lies.1))

either : {P Q R S : Type 0} → P ↔ R → Q ↔ S → (P ⊎ Q) ↔ (R ⊎ S)
either f g = (
  (λ both. elim both [ inl p ↦ inl (f.0 p) | inr q ↦ inr (g.0 q) ]),
  (λ both. elim both [ inl r ↦ inl (f.1 r) | inr s ↦ inr (g.1 s) ]),
)

abbrev AllExact : List Block → (ℕ → Type 0) → Type 0
AllExact blocks P = (address : ℕ) → address < 2 ^ 128 → IsIn address blocks ↔ P address

abbrev IsLateRun : List Had → Listing → List ℕ → Listing → Type 0
IsLateRun put old text new = (blocks : List Block) × PutsKind Ipv6 blocks old text new × AllExact blocks (λ address. LiesInOne false address put)

-- the first of them
late_first : (had : Had) (old new : Listing) (text : List ℕ) → IsLate had → PutsBits had.as_ipv4 had.bits old text new → (block : Block) × HasBits block had.bits × Puts (Ipv6, block) old text new
late_first had old new text (kind, none) (block, has, puts) =
    let bits : PutsAll (blocks_of false block) old text new = subst (λ (b : Bool). PutsAll (blocks_of b block) old text new) kind puts in
    (block, has, puts_alone Ipv6 block old new text (subst (λ parts. PutsAll parts old text new) (blocks_late block (large_first had block has none)) bits))

late_run : (s : List (List ℕ)) (put : List Had) (old new : Listing) (text : List ℕ) → AreLate put → Runs (puts_listed nothing s) put old text new → IsLateRun put old text new
late_run s [] old new text late run = ([], run, (λ address fits. ((λ x. x), (λ x. x))))
late_run s (had ∷ others) old new text late (one, here, rest, puts, left, is) =
    let f = late_first had old one here (late had (inl refl)) puts in
    let r = late_run s others one new rest (λ other put. late other (inr put)) left in (
      f.0 ∷ r.0,
      (one, here, rest, f.2, r.1, is),
      (λ address fits. either (within_had had f.0 false address f.1 (late had (inl refl)).0 fits) (r.2 address fits)),
    )

-- ---- networks in order

record IsSorted (put : List Had) (old : Listing) (text : List ℕ) (new : Listing) : Type 0 where
  ipv4 : List Block
  ipv6 : List Block
  mid : Listing
  first : List ℕ
  second : List ℕ
  ipv4_put : PutsKind Ipv4 ipv4 old first mid
  ipv6_put : PutsKind Ipv6 ipv6 mid second new
  text_is : text ≡ first ++ second
  ipv4_exact : AllExact ipv4 (IsAddressOf Ipv4 put)
  ipv6_exact : AllExact ipv6 (IsAddressOf Ipv6 put)

-- one of IPv4 before others
with_ipv4 : (had : Had) (others : List Had) (block : Block) (old one new : Listing) (here rest text : List ℕ) → had.as_ipv4 ≡ true → HasBits block had.bits
    → Puts (Ipv4, block) old here one → IsSorted others one rest new → text ≡ here ++ rest → IsSorted (had ∷ others) old text new
with_ipv4 had others block old one new here rest text kind has puts r is = record {
  ipv4 = block ∷ r.ipv4;
  ipv6 = r.ipv6;
  mid = r.mid;
  first = here ++ r.first;
  second = r.second;
  ipv4_put = (one, here, r.first, puts, r.ipv4_put, refl);
  ipv6_put = r.ipv6_put;
  text_is = is ∙ ap (λ (t : List ℕ). here ++ t) r.text_is ∙ sym (append_assoc here r.first r.second);
  ipv4_exact = λ address fits.
      let within = within_had had block true address has kind fits in
      let later = r.ipv4_exact address fits in (
        (λ there. elim there [ inl w ↦ inl (inl (within.0 w)) | inr o ↦ elim (later.0 o) [ inl lies ↦ inl (inr lies) | inr both ↦ inr (inr both.0, both.1) ] ]),
        (λ listed. elim listed [
          | inl lies ↦ elim lies [ inl l ↦ inl (within.1 l) | inr l ↦ inr (later.1 (inl l)) ]
          | inr both ↦ elim both.0 [ inl l ↦ absurd (not_true had.as_ipv4 (sym l.0) kind) | inr l ↦ inr (later.1 (inr (l, both.1))) ]
        ]),
      );
  ipv6_exact = λ address fits.
      let later = r.ipv6_exact address fits in (
        (λ there. inr (later.0 there)),
        (λ lies. elim lies [ inl l ↦ absurd (not_true had.as_ipv4 (sym l.0) kind) | inr l ↦ later.1 l ]),
      );
}

-- the addresses of IPv4 that one of IPv6 has before others without any
ipv4_of_both : (had : Had) (others : List Had) (block : Block) → had.as_ipv4 ≡ false → HasBits block had.bits → block.first < 2 ^ 32 → AreLate others
    → AllExact (ipv4_part block ∷ []) (IsAddressOf Ipv4 (had ∷ others))
ipv4_of_both had others block kind has small late address fits =
    let within = within_had had block false address has kind fits in
    let part = part_within block address has.is_block small in (
      (λ there. elim there [ inl w ↦ inr (inl (within.0 (part.0 w).0), (part.0 w).1) | inr none ↦ absurd none ]),
      (λ listed. elim listed [
        | inl lies ↦ elim lies [ inl l ↦ absurd (not_true had.as_ipv4 kind (sym l.0)) | inr l ↦ absurd (none_late others address late l) ]
        | inr both ↦ elim both.0 [ inl l ↦ inl (part.1 (within.1 l, both.1)) | inr l ↦ absurd (small_late others address late both.1 l) ]
      ]),
    )

ipv4_of_none : (had : Had) (others : List Had) (block : Block) → had.as_ipv4 ≡ false → HasBits block had.bits → 2 ^ 32 ≤ block.first → AreLate others
    → AllExact [] (IsAddressOf Ipv4 (had ∷ others))
ipv4_of_none had others block kind has large late address fits =
    let within = within_had had block false address has kind fits in (
      (λ none. absurd none),
      (λ listed. elim listed [
        | inl lies ↦ elim lies [ inl l ↦ absurd (not_true had.as_ipv4 kind (sym l.0)) | inr l ↦ absurd (none_late others address late l) ]
        | inr both ↦ elim both.0 [ inl l ↦ absurd (let w = within.1 l in omega (arith, w.0, large, both.1)) | inr l ↦ absurd (small_late others address late both.1 l) ]
      ]),
    )

with_ipv6 : (had : Had) (others : List Had) (block : Block) (old one new : Listing) (here rest text : List ℕ) → had.as_ipv4 ≡ false → HasBits block had.bits → AreLate others
    → PutsAll (blocks_of false block) old here one → IsLateRun others one rest new → text ≡ here ++ rest → IsSorted (had ∷ others) old text new
with_ipv6 had others block old one new here rest text kind has late puts r is = elim (cases_lt block.first (2 ^ 32)) [
  | inl small ↦
      let both = subst (λ parts. PutsAll parts old here one) (blocks_both block small) puts in
      let mid : Listing = both.0 in
      let first : List ℕ = both.1 in
      let more : List ℕ = both.2 in
      let next = puts_alone Ipv6 block mid one more both.4 in
      record {
        ipv4 = ipv4_part block ∷ [];
        ipv6 = block ∷ r.0;
        mid = mid;
        first = first;
        second = more ++ rest;
        ipv4_put = puts_one Ipv4 (ipv4_part block) old mid first both.3;
        ipv6_put = (one, more, rest, next, r.1, refl);
        text_is = is ∙ ap (λ (t : List ℕ). t ++ rest) both.5 ∙ append_assoc first more rest;
        ipv4_exact = ipv4_of_both had others block kind has small late;
        ipv6_exact = λ address fits. either (within_had had block false address has kind fits) (r.2 address fits);
      }
  | inr large ↦
      let next = puts_alone Ipv6 block old one here (subst (λ parts. PutsAll parts old here one) (blocks_late block large) puts) in
      record {
        ipv4 = [];
        ipv6 = block ∷ r.0;
        mid = old;
        first = [];
        second = here ++ rest;
        ipv4_put = puts_none Ipv4 old;
        ipv6_put = (one, here, rest, next, r.1, refl);
        text_is = is;
        ipv4_exact = ipv4_of_none had others block kind has large late;
        ipv6_exact = λ address fits. either (within_had had block false address has kind fits) (r.2 address fits);
      }
]

sorted_none : (old new : Listing) (text : List ℕ) → new ≡ old → text ≡ [] → IsSorted [] old text new
sorted_none old new text same none = record {
  ipv4 = [];
  ipv6 = [];
  mid = old;
  first = [];
  second = [];
  ipv4_put = puts_none Ipv4 old;
  ipv6_put = (same, refl);
  text_is = none;
  ipv4_exact = λ address fits. ((λ x. absurd x), (λ listed. elim listed [ inl x ↦ absurd x | inr both ↦ absurd both.0 ]));
  ipv6_exact = λ address fits. ((λ x. x), (λ x. x));
}

sorted_run : (s : List (List ℕ)) (put : List Had) (old new : Listing) (text : List ℕ) → InOrder put → Runs (puts_listed nothing s) put old text new → IsSorted put old text new
sorted_run s [] old new text order (same, none) = sorted_none old new text same none
sorted_run s (had ∷ others) old new text (first, order) (one, here, rest, (block, has, puts), left, is) = elim (cases_Bool had.as_ipv4) [
  | inl v4 ↦
      let next = puts_alone Ipv4 block old one here (subst (λ (b : Bool). PutsAll (blocks_of b block) old here one) v4 puts) in
      with_ipv4 had others block old one new here rest text v4 has next (sorted_run s others one new rest order left) is
  | inr v6 ↦
      let late = late_after had others v6 first in
      with_ipv6 had others block old one new here rest text v6 has late (subst (λ (b : Bool). PutsAll (blocks_of b block) old here one) v6 puts) (late_run s others one new rest late left) is
]

-- ---- which kinds are wanted stays

network_kinds : (page : Page) (kind : BlockKind) → (with_network page kind).kinds ≡ page.kinds
network_kinds page kind = of page.has_written
  where
    of : (b : Bool) → (if b then page else record page { has_begun = true; has_written = true; filled = page.filled ++ record { action = page.action; kind = kind } ∷ [] }).kinds ≡ page.kinds
    of true = refl
    of false = refl

lines_kinds : (page : Page) (kind : BlockKind) (blocks : List Block) → (with_lines page kind blocks).kinds ≡ page.kinds
lines_kinds page kind [] = refl
lines_kinds page kind (block ∷ blocks) = lines_kinds (with_network page kind) kind blocks ∙ network_kinds page kind

changed_kinds : (page : Page) (before : Option BlockKind) (kind : BlockKind) (waiting : List Block) → (changed_page page before kind waiting).kinds ≡ page.kinds
changed_kinds page None kind waiting = refl
changed_kinds page (Some before) kind waiting = of (is_other before kind)
  where
    of : (b : Bool) → (if b then with_rest page before waiting else page).kinds ≡ page.kinds
    of true = lines_kinds page before (flat_map (written_for page.syntax before) waiting)
    of false = refl

pushes_kinds : (kind : BlockKind) (block : Block) (old new : Listing) (text : List ℕ) → Pushes kind block old text new → new.page.kinds ≡ old.page.kinds
pushes_kinds kind block old new text is =
    let page : Page = changed_page old.page old.kind kind old.waiting in
    ap (λ (p : Page). p.kinds) is.page ∙ lines_kinds page kind (flat_map (written_for page.syntax kind) new.settled) ∙ changed_kinds old.page old.kind kind old.waiting

-- the kind at hand is wanted
abbrev IsRight : Listing → Type 0
IsRight list = (kind : BlockKind) → list.kind ≡ Some kind → IsWanted list.page.kinds kind

same_some : {A : Type 0} (x y : A) → Some x ≡ Some y → x ≡ y
same_some x y e = cc

pushes_right : (kind : BlockKind) (block : Block) (old new : Listing) (text : List ℕ) → IsWanted old.page.kinds kind → Pushes kind block old text new → IsRight new
pushes_right kind block old new text wanted is other e =
    subst (IsWanted new.page.kinds) (same_some kind other (sym is.at_hand ∙ e)) (subst (λ (k : Kinds). IsWanted k kind) (sym (pushes_kinds kind block old new text is)) wanted)

pushed_wanted : (kind : BlockKind) (blocks : List Block) (old new : Listing) (text : List ℕ) → IsWanted old.page.kinds kind → IsRight old → PutsKind kind blocks old text new
    → PushesAll kind blocks old text new × (new.page.kinds ≡ old.page.kinds) × IsRight new
pushed_wanted kind [] old new text wanted right (same, none) = ((same, none), ap (λ (l : Listing). l.page.kinds) same, subst IsRight (sym same) right)
pushed_wanted kind (block ∷ blocks) old new text wanted right (mid, first, rest, inl (any, pushes), others, is) =
    let kinds = pushes_kinds kind block old mid first pushes in
    let r = pushed_wanted kind blocks mid new rest (subst (λ (k : Kinds). IsWanted k kind) (sym kinds) wanted) (pushes_right kind block old mid first wanted pushes) others in
    ((mid, first, rest, pushes, r.0, is), r.1 ∙ kinds, r.2)
pushed_wanted kind (block ∷ blocks) old new text wanted right (mid, first, rest, inr (not_wanted, same, none), others, is) = absurd (not_wanted wanted)

pushed_unwanted : (kind : BlockKind) (blocks : List Block) (old new : Listing) (text : List ℕ) → ¬ IsWanted old.page.kinds kind → IsRight old → PutsKind kind blocks old text new
    → (new ≡ old) × (text ≡ [])
pushed_unwanted kind [] old new text not_wanted right run = run
pushed_unwanted kind (block ∷ blocks) old new text not_wanted right (mid, first, rest, inl (inl wanted, pushes), others, is) = absurd (not_wanted wanted)
pushed_unwanted kind (block ∷ blocks) old new text not_wanted right (mid, first, rest, inl (inr at_hand, pushes), others, is) = absurd (not_wanted (right kind at_hand))
pushed_unwanted kind (block ∷ blocks) old new text not_wanted right (mid, first, rest, inr (still, same, none), others, is) =
    let r = pushed_unwanted kind blocks mid new rest (subst (λ (l : Listing). ¬ IsWanted l.page.kinds kind) (sym same) not_wanted) (subst IsRight (sym same) right) others in
    (r.0 ∙ same, is ∙ ap (λ (t : List ℕ). t ++ rest) none ∙ r.1)

wanted_or_not : (kinds : Kinds) (kind : BlockKind) → IsWanted kinds kind ⊎ (¬ IsWanted kinds kind)
wanted_or_not Both kind = inl tt
wanted_or_not (One Ipv4) Ipv4 = inl refl
wanted_or_not (One Ipv4) Ipv6 = inr (λ e. cc)
wanted_or_not (One Ipv6) Ipv4 = inr (λ e. cc)
wanted_or_not (One Ipv6) Ipv6 = inl refl

record IsPushedKind (kinds : Kinds) (kind : BlockKind) (P : ℕ → Type 0) (old : Listing) (text : List ℕ) (new : Listing) : Type 0 where
  blocks : List Block
  pushed : PushesAll kind blocks old text new
  kept : new.page.kinds ≡ kinds
  right : IsRight new
  exact : AllExact blocks (λ address. IsWanted kinds kind × P address)

pushed_kind : (kinds : Kinds) (kind : BlockKind) (P : ℕ → Type 0) (blocks : List Block) (old new : Listing) (text : List ℕ) → old.page.kinds ≡ kinds → IsRight old
    → PutsKind kind blocks old text new → AllExact blocks P → IsPushedKind kinds kind P old text new
pushed_kind kinds kind P blocks old new text same right puts exact = elim (wanted_or_not kinds kind) [
  | inl wanted ↦
      let r = pushed_wanted kind blocks old new text (subst (λ (k : Kinds). IsWanted k kind) (sym same) wanted) right puts in
      record {
        blocks = blocks;
        pushed = r.0;
        kept = r.1 ∙ same;
        right = r.2;
        exact = λ address fits. let e = exact address fits in ((λ there. (wanted, e.0 there)), (λ both. e.1 both.1));
      }
  | inr not_wanted ↦
      let r = pushed_unwanted kind blocks old new text (subst (λ (k : Kinds). ¬ IsWanted k kind) (sym same) not_wanted) right puts in
      record {
        blocks = [];
        pushed = r;
        kept = ap (λ (l : Listing). l.page.kinds) r.0 ∙ same;
        right = subst IsRight (sym r.0) right;
        exact = λ address fits. ((λ there. absurd there), (λ both. absurd (not_wanted both.0)));
      }
]

none_right : (list : Listing) → list.kind ≡ None → IsRight list
none_right list none kind e = let both : None ≡ Some kind = sym none ∙ e in absurd (cc both)

in_order : (put : List Had) (old new : Listing) (text : List ℕ) → old.kind ≡ None → IsSorted put old text new → ArePushedInOrder put old text new
in_order put old new text none r =
    let kinds : Kinds = old.page.kinds in
    let f = pushed_kind kinds Ipv4 (IsAddressOf Ipv4 put) r.ipv4 old r.mid r.first refl (none_right old none) r.ipv4_put r.ipv4_exact in
    let g = pushed_kind kinds Ipv6 (IsAddressOf Ipv6 put) r.ipv6 r.mid new r.second f.kept f.right r.ipv6_put r.ipv6_exact in
    record {
      ipv4 = f.blocks;
      ipv6 = g.blocks;
      mid = r.mid;
      first = r.first;
      second = r.second;
      ipv4_pushed = f.pushed;
      ipv6_pushed = g.pushed;
      text_is = r.text_is;
      ipv4_exact = f.exact;
      ipv6_exact = g.exact;
    }

-- ---- the fewest blocks

abbrev pub LawOfFewest : Type 0
LawOfFewest = (ipv4 ipv6 : List Block) (old mid new : Listing) (first second : List ℕ) → old.kind ≡ None → old.waiting ≡ [] → old.page.has_written ≡ false
    → PushesAll Ipv4 ipv4 old first mid → PushesAll Ipv6 ipv6 mid second new → IsWhole old.page ipv4 ipv6 ((first ++ second) ++ finished_text new)

joined_exact : (kinds : Kinds) (kind : BlockKind) (put : List Had) (blocks joined : List Block) → IsJoined blocks joined → HaveAddresses kinds kind put blocks → HaveAddresses kinds kind put joined
joined_exact kinds kind put blocks joined is exact address fits =
    let same = is.covers address in
    let e = exact address fits in ((λ there. e.0 (same.1 there)), (λ listed. same.0 (e.1 listed)))

listed_of_fewest : (put : List Had) (old new : Listing) (text : List ℕ) → LawOfFewest → old.kind ≡ None → old.waiting ≡ [] → old.page.has_written ≡ false
    → ArePushedInOrder put old text new → IsListedWhole put old text new
listed_of_fewest put old new text law none waits unwritten r =
    let w : IsWhole old.page r.ipv4 r.ipv6 ((r.first ++ r.second) ++ finished_text new) = law r.ipv4 r.ipv6 old r.mid new r.first r.second none waits unwritten r.ipv4_pushed r.ipv6_pushed in
    let whole : IsWhole old.page r.ipv4 r.ipv6 (text ++ finished_text new) = record {
      fewest_ipv4 = w.fewest_ipv4;
      fewest_ipv6 = w.fewest_ipv6;
      ipv4_joined = w.ipv4_joined;
      ipv6_joined = w.ipv6_joined;
      text_is = ap (λ (t : List ℕ). t ++ finished_text new) r.text_is ∙ w.text_is;
    } in
    record {
      in_order = r;
      whole = whole;
      ipv4_exact = joined_exact old.page.kinds Ipv4 put r.ipv4 w.fewest_ipv4 w.ipv4_joined r.ipv4_exact;
      ipv6_exact = joined_exact old.page.kinds Ipv6 put r.ipv6 w.fewest_ipv6 w.ipv6_joined r.ipv6_exact;
    }

pub listed_whole : (says : List (Option ℕ) → Bool → Type 0) (unsaid unput : List (Option ℕ) → Type 0) (s : List (List ℕ)) (items : List Item) (put : List Had) (unread : ℕ) (old new : Listing) (text : List ℕ)
    (leaves : Had → Listing → List ℕ → QueryError → Type 0) → LawOfFewest
    → IsRun (record { says = says; unsaid = unsaid; puts = puts_listed nothing s; unput = unput; leaves = leaves }) items put unread old text new → IsListedWhole put old text new
listed_whole says unsaid unput s items put unread old new text leaves law run =
    let a : Asked Listing = record { says = says; unsaid = unsaid; puts = puts_listed nothing s; unput = unput; leaves = leaves } in
    let order : InOrder put = picked_order a items put unread run.picked run.ascend in
    listed_of_fewest put old new text law run.none_at_hand run.none_waits run.none_written (in_order put old new text run.none_at_hand (sorted_run s put old new text order run.ran))
