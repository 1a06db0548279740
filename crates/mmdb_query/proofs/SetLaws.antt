-- Sets of addresses.
use Rattle.std.proofs.Common.{◌≡◌, ◌⊎◌, ◌↔◌, inl, inr, ℕ, ◌+◌, ◌-◌, ◌*◌, ◌/◌, ◌%◌, ◌^◌, ◌<◌, ◌≤◌, List, [], ◌∷◌, ◌++◌, Option, Bool, true, false, length, take, refl, sym, ap, ◌∙◌, subst, arith}
use Rattle.std.proofs.lemmas.List.{length-take-le}
use Rattle.std.proofs.lemmas.Nat.{pow-add, pow_pos, div_below}
use Rattle.std.proofs.Math.Nat.{div-eq_of_lt-le, div-mul-le_self, lt-div-mul-add}
use Rattle.std.specs.Net.Addr.{is_ipv4}
use Rattle.mmdb_net.specs.Bits.{bits_of, IsPrefix}
use Rattle.mmdb_net.specs.Network.{ip_of}
use Rattle.mmdb_net.specs.declared.network.IpNetwork.{IpNetwork}
use Rattle.mmdb_net.proofs.BitLaws.{length-bits_of, take-bits_of, same_from_bits_of, IsPrefix-take, take-IsPrefix}
use Rattle.mmdb_blocks.specs.declared.block.Block.{Block}
use Rattle.mmdb_blocks.specs.Blocks.{IsBlock, IsWithin, end}
use Rattle.mmdb_blocks.specs.Ranges.{IsAmong, IsOfRange}
use Rattle.mmdb_blocks.specs.declared.ranges.BlockRange.{BlockRange}
use Rattle.mmdb_blocks.proofs.NumberLaws.{quotient}
use Rattle.mmdb_query.specs.Had.{Had, IsNetworkOf, network_bits}
use Rattle.mmdb_query.specs.Walks.{Item}
use Rattle.mmdb_query.specs.Walks.Item.{Found, Unread}
use Rattle.mmdb_query.specs.Taking.{Asked, CantBePut, IsPicked, ArePicked, Runs, Takes}
use Rattle.mmdb_query.specs.Ends.{leaves_none}
use Rattle.mmdb_query.specs.Rows.{nothing}
use Rattle.mmdb_query.specs.Sets.{BeginsWith, Has, LiesIn, LiesInOne, AddsNetwork, Adds, IsFoundIn, LiesInChosen, IsLeftOut, IsGathered, puts_addresses, needs_nothing}
use Rattle.mmdb_query.specs.declared.addresses.Addresses.{Addresses}

-- ---- the addresses of a block begin with its bits

pub in_bits : (first prefix address : ℕ) → prefix ≤ 128 → first % 2 ^ (128 - prefix) ≡ 0 → first ≤ address → address < first + 2 ^ (128 - prefix)
    → BeginsWith (take prefix (bits_of 128 first)) address
in_bits first prefix address within aligned low high =
    let l = 128 - prefix in
    let sum : 128 ≡ prefix + l = omega (arith, within) in
    let whole : first ≡ first / 2 ^ l * 2 ^ l = quotient first l aligned in
    let same : address / 2 ^ l ≡ first / 2 ^ l = div-eq_of_lt-le (2 ^ l) (omega (arith, whole, low)) (omega (arith, whole, high)) in
    let bits : take prefix (bits_of 128 address) ≡ take prefix (bits_of 128 first) = take-bits_of prefix 128 l address sum ∙ ap (bits_of prefix) same ∙ sym (take-bits_of prefix 128 l first sum) in
    subst (λ b. IsPrefix b (bits_of 128 address)) bits (IsPrefix-take prefix (bits_of 128 address))

below_first : (n prefix l : ℕ) → n < 2 ^ 128 → 128 ≡ prefix + l → n / 2 ^ l < 2 ^ prefix
below_first n prefix l fits sum =
    let size : 2 ^ 128 ≡ 2 ^ prefix * 2 ^ l = ap (λ (k : ℕ). 2 ^ k) sum ∙ pow-add 2 prefix l in
    div_below n (2 ^ l) (2 ^ prefix) (pow_pos l) (subst (λ m. n < m) size fits)

pub from_bits : (first prefix address : ℕ) → prefix ≤ 128 → first < 2 ^ 128 → first % 2 ^ (128 - prefix) ≡ 0 → address < 2 ^ 128
    → BeginsWith (take prefix (bits_of 128 first)) address → (first ≤ address) × (address < first + 2 ^ (128 - prefix))
from_bits first prefix address within small aligned fits begins =
    let l = 128 - prefix in
    let sum : 128 ≡ prefix + l = omega (arith, within) in
    let whole : first ≡ first / 2 ^ l * 2 ^ l = quotient first l aligned in
    let bits = take prefix (bits_of 128 first) in
    let long : length bits ≡ prefix = length-take-le prefix (bits_of 128 first) (omega (arith, within, length-bits_of 128 first)) in
    let front : take prefix (bits_of 128 address) ≡ bits = ap (λ (k : ℕ). take k (bits_of 128 address)) (sym long) ∙ take-IsPrefix bits (bits_of 128 address) begins in
    let spelled : bits_of prefix (address / 2 ^ l) ≡ bits_of prefix (first / 2 ^ l) = sym (take-bits_of prefix 128 l address sum) ∙ front ∙ take-bits_of prefix 128 l first sum in
    let same : address / 2 ^ l ≡ first / 2 ^ l = same_from_bits_of prefix (address / 2 ^ l) (first / 2 ^ l) (below_first address prefix l fits sum) (below_first first prefix l small sum) spelled in
    let scaled : address / 2 ^ l * 2 ^ l ≡ first = ap (λ (q : ℕ). q * 2 ^ l) same ∙ sym whole in
    let down : address / 2 ^ l * 2 ^ l ≤ address = div-mul-le_self address (2 ^ l) in
    let up : address < address / 2 ^ l * 2 ^ l + 2 ^ l = lt-div-mul-add (pow_pos l) in
    (omega (arith, scaled, down), omega (arith, scaled, up))

pub block_bits : (block : Block) (bits : List Bool) (address : ℕ) → IsBlock block → take block.prefix (bits_of 128 block.first) ≡ bits → address < 2 ^ 128
    → IsWithin address block ↔ BeginsWith bits address
block_bits block bits address is same fits = (
  (λ within. subst (λ b. BeginsWith b address) same (in_bits block.first block.prefix address is.prefix is.aligned within.0 within.1)),
  (λ begins. from_bits block.first block.prefix address is.prefix is.first is.aligned fits (subst (λ b. BeginsWith b address) (sym same) begins)),
)

-- and so are those of its range
pub range_bits : (block : Block) (last : ℕ) (bits : List Bool) (address : ℕ) → IsBlock block → last + 1 ≡ end block → take block.prefix (bits_of 128 block.first) ≡ bits → address < 2 ^ 128
    → IsOfRange address (record { first = block.first; last = last }) ↔ BeginsWith bits address
range_bits block last bits address is over same fits =
    let within = block_bits block bits address is same fits in (
      (λ range. within.0 (range.0, omega (arith, range.1, over))),
      (λ begins. let there = within.1 begins in (there.0, omega (arith, there.1, over))),
    )

-- ---- sets

either : {P Q R S : Type 0} → (P → R) → (Q → S) → P ⊎ Q → R ⊎ S
either f g (inl p) = inl (f p)
either f g (inr q) = inr (g q)

joined : {P Q R : Type 0} → (P ⊎ Q) ⊎ R → P ⊎ (Q ⊎ R)
joined (inl (inl p)) = inl p
joined (inl (inr q)) = inr (inl q)
joined (inr r) = inr (inr r)

parted : {P Q R : Type 0} → P ⊎ (Q ⊎ R) → (P ⊎ Q) ⊎ R
parted (inl p) = inl (inl p)
parted (inr (inl q)) = inl (inr q)
parted (inr (inr r)) = inr r

-- with another right side
pub or_same : {P Q R S : Type 0} → P ↔ (Q ⊎ R) → R ↔ S → P ↔ (Q ⊎ S)
or_same f g = ((λ p. either (λ q. q) g.0 (f.0 p)), (λ q. f.1 (either (λ q. q) g.1 q)))

pub adds_had : (had : Had) (network : IpNetwork) (old new : Addresses) → IsNetworkOf had network → AddsNetwork network old new → Adds had old new
adds_had had network old new is adds as_ipv4 address fits = or_same (adds as_ipv4 address fits) (
  (λ lies. (lies.0 ∙ is.kind, subst (λ b. BeginsWith b address) is.bits lies.1)),
  (λ lies. (lies.0 ∙ sym is.kind, subst (λ b. BeginsWith b address) (sym is.bits) lies.1)),
)

-- after a run of networks
runs_add : (s : List (List ℕ)) (put : List Had) (old new : Addresses) (text : List ℕ) → Runs (puts_addresses nothing s) put old text new → (as_ipv4 : Bool) (address : ℕ) → address < 2 ^ 128
    → Has new as_ipv4 address ↔ (Has old as_ipv4 address ⊎ LiesInOne as_ipv4 address put)
runs_add s [] old new text (same, none) as_ipv4 address fits = (
  (λ has. inl (subst (λ (t : Addresses). Has t as_ipv4 address) same has)),
  (λ has. elim has [ inl there ↦ subst (λ (t : Addresses). Has t as_ipv4 address) (sym same) there | inr lies ↦ absurd lies ]),
)
runs_add s (had ∷ others) old new text (one, here, rest, (add, none), left, is) as_ipv4 address fits =
    let first = add as_ipv4 address fits in
    let more = runs_add s others one new rest left as_ipv4 address fits in
    ((λ has. joined (either first.0 (λ l. l) (more.0 has))), (λ has. more.1 (either first.1 (λ l. l) (parted has))))

not_both : {P : Type 0} → false ≡ true → P
not_both e = cc

pub v4_added : (network : IpNetwork) (ranges more others : List BlockRange) → is_ipv4 (ip_of network) ≡ true
    → ((address : ℕ) → address < 2 ^ 128 → IsAmong address more ↔ (IsAmong address ranges ⊎ BeginsWith (network_bits network) address))
    → AddsNetwork network (record { ipv4 = ranges; ipv6 = others }) (record { ipv4 = more; ipv6 = others })
v4_added network ranges more others is adds true address fits = or_same (adds address fits) ((λ begins. (sym is, begins)), (λ lies. lies.1))
v4_added network ranges more others is adds false address fits =
    ((λ has. inl has), (λ has. elim has [ inl there ↦ there | inr lies ↦ not_both (lies.0 ∙ is) ]))

pub v6_added : (network : IpNetwork) (ranges more others : List BlockRange) → is_ipv4 (ip_of network) ≡ false
    → ((address : ℕ) → address < 2 ^ 128 → IsAmong address more ↔ (IsAmong address ranges ⊎ BeginsWith (network_bits network) address))
    → AddsNetwork network (record { ipv4 = others; ipv6 = ranges }) (record { ipv4 = others; ipv6 = more })
v6_added network ranges more others is adds false address fits = or_same (adds address fits) ((λ begins. (sym is, begins)), (λ lies. lies.1))
v6_added network ranges more others is adds true address fits =
    ((λ has. inl has), (λ has. elim has [ inl there ↦ there | inr lies ↦ not_both (sym (lies.0 ∙ is)) ]))

none_of : (set : Addresses) → set.ipv4 ≡ [] → set.ipv6 ≡ [] → (as_ipv4 : Bool) (address : ℕ) → Has set as_ipv4 address → ⊥
none_of set none empty true address has = subst (IsAmong address) none has
none_of set none empty false address has = subst (IsAmong address) empty has

from_none : (s : List (List ℕ)) (put : List Had) (old new : Addresses) (text : List ℕ) → old.ipv4 ≡ [] → old.ipv6 ≡ [] → Runs (puts_addresses nothing s) put old text new
    → (as_ipv4 : Bool) (address : ℕ) → address < 2 ^ 128 → Has new as_ipv4 address ↔ LiesInOne as_ipv4 address put
from_none s put old new text none empty ran as_ipv4 address fits =
    let grown = runs_add s put old new text ran as_ipv4 address fits in
    ((λ has. elim (grown.0 has) [ inl there ↦ absurd (none_of old none empty as_ipv4 address there) | inr lies ↦ lies ]), (λ lies. grown.1 (inr lies)))

-- ---- which networks are chosen

lies_apart : (as_ipv4 : Bool) (address : ℕ) (some others : List Had) → LiesInOne as_ipv4 address (some ++ others) → LiesInOne as_ipv4 address some ⊎ LiesInOne as_ipv4 address others
lies_apart as_ipv4 address [] others lies = inr lies
lies_apart as_ipv4 address (had ∷ some) others (inl lies) = inl (inl lies)
lies_apart as_ipv4 address (had ∷ some) others (inr lies) = either inr (λ l. l) (lies_apart as_ipv4 address some others lies)

lies_first : (as_ipv4 : Bool) (address : ℕ) (some others : List Had) → LiesInOne as_ipv4 address some → LiesInOne as_ipv4 address (some ++ others)
lies_first as_ipv4 address [] others none = absurd none
lies_first as_ipv4 address (had ∷ some) others (inl lies) = inl lies
lies_first as_ipv4 address (had ∷ some) others (inr lies) = inr (lies_first as_ipv4 address some others lies)

lies_later : (as_ipv4 : Bool) (address : ℕ) (some others : List Had) → LiesInOne as_ipv4 address others → LiesInOne as_ipv4 address (some ++ others)
lies_later as_ipv4 address [] others lies = lies
lies_later as_ipv4 address (had ∷ some) others lies = inr (lies_later as_ipv4 address some others lies)

module _ {X : Type 0} (a : Asked X) (as_ipv4 : Bool) (address : ℕ) where
  chosen_first : (item : Item) (items : List Item) (put : List Had) (fault : ℕ) → IsPicked a item put fault → LiesInOne as_ipv4 address put → LiesInChosen a as_ipv4 address (item ∷ items)
  chosen_first Unread items put fault (none, one) lies = absurd (subst (LiesInOne as_ipv4 address) none lies)
  chosen_first (Found had) items put fault (inl (inl (says, is), none)) lies = elim (subst (LiesInOne as_ipv4 address) is lies) [ inl there ↦ (had, inl refl, says, there) | inr nothing ↦ absurd nothing ]
  chosen_first (Found had) items put fault (inl (inr (says, is), none)) lies = absurd (subst (LiesInOne as_ipv4 address) is lies)
  chosen_first (Found had) items put fault (inr (cant, is, one)) lies = absurd (subst (LiesInOne as_ipv4 address) is lies)

  chosen_later : (item : Item) (items : List Item) → LiesInChosen a as_ipv4 address items → LiesInChosen a as_ipv4 address (item ∷ items)
  chosen_later Unread items (had, found, says, lies) = (had, found, says, lies)
  chosen_later (Found first) items (had, found, says, lies) = (had, inr found, says, lies)

  pub only_picked : (items : List Item) (put : List Had) (faults : ℕ) → ArePicked a items put faults → LiesInOne as_ipv4 address put → LiesInChosen a as_ipv4 address items
  only_picked [] put faults (none, zero) lies = absurd (subst (LiesInOne as_ipv4 address) none lies)
  only_picked (item ∷ items) put faults (first, rest, fault, others, one, left, is, sum) lies =
      elim (lies_apart as_ipv4 address first rest (subst (LiesInOne as_ipv4 address) is lies)) [
        | inl there ↦ chosen_first item items first fault one there
        | inr later ↦ chosen_later item items (only_picked items rest others left later)
      ]

  more_left : (some faults : ℕ) (had : Had) → some ≤ faults → IsLeftOut a some had → IsLeftOut a faults had
  more_left some faults had up (inl unmet) = inl unmet
  more_left some faults had up (inr (cant, counted)) = inr (cant, omega (arith, up, counted))

  picked_first : (had first : Had) (put : List Had) (fault : ℕ) → had ≡ first → IsPicked a (Found first) put fault → LiesIn as_ipv4 address had → LiesInOne as_ipv4 address put ⊎ IsLeftOut a fault had
  picked_first had first put fault same (inl (inl (says, is), none)) lies = inl (subst (LiesInOne as_ipv4 address) (sym is) (inl (subst (LiesIn as_ipv4 address) same lies)))
  picked_first had first put fault same (inl (inr (says, is), none)) lies = inr (inl (subst (λ (h : Had). a.says h.offsets false) (sym same) says))
  picked_first had first put fault same (inr (cant, is, one)) lies = inr (inr (subst (λ (h : Had). CantBePut a h) (sym same) cant, omega (arith, one)))

  pub all_picked : (items : List Item) (had : Had) (put : List Had) (faults : ℕ) → ArePicked a items put faults → IsFoundIn had items → LiesIn as_ipv4 address had → LiesInOne as_ipv4 address put ⊎ IsLeftOut a faults had
  all_picked [] had put faults picked none lies = absurd none
  all_picked (Unread ∷ items) had put faults (first, rest, fault, others, one, left, is, sum) found lies =
      either (λ there. subst (LiesInOne as_ipv4 address) (sym is) (lies_later as_ipv4 address first rest there)) (more_left others faults had (omega (arith, sum))) (all_picked items had rest others left found lies)
  all_picked (Found next ∷ items) had put faults (first, rest, fault, others, one, left, is, sum) (inl same) lies =
      either (λ there. subst (LiesInOne as_ipv4 address) (sym is) (lies_first as_ipv4 address first rest there)) (more_left fault faults had (omega (arith, sum))) (picked_first had next first fault same one lies)
  all_picked (Found next ∷ items) had put faults (first, rest, fault, others, one, left, is, sum) (inr found) lies =
      either (λ there. subst (LiesInOne as_ipv4 address) (sym is) (lies_later as_ipv4 address first rest there)) (more_left others faults had (omega (arith, sum))) (all_picked items had rest others left found lies)

pub gathered : (comes : List Item → Type 0) (says : List (Option ℕ) → Bool → Type 0) (unsaid : List (Option ℕ) → Type 0) (s : List (List ℕ)) (old new : Addresses) (before after : Option (List ℕ)) (faults : ℕ)
    → old.ipv4 ≡ [] → old.ipv6 ≡ []
    → Takes comes (record { says = says; unsaid = unsaid; puts = puts_addresses nothing s; unput = needs_nothing nothing s; leaves = leaves_none nothing s }) old new before after faults
    → IsGathered comes (record { says = says; unsaid = unsaid; puts = puts_addresses nothing s; unput = needs_nothing nothing s; leaves = leaves_none nothing s }) new faults
gathered comes says unsaid s old new before after faults none empty takes =
    let a : Asked Addresses = record { says = says; unsaid = unsaid; puts = puts_addresses nothing s; unput = needs_nothing nothing s; leaves = leaves_none nothing s } in
    let exact = from_none s takes.put old new takes.text none empty takes.ran in
    record {
      items = takes.items;
      come = takes.come;
      put = takes.put;
      picked = takes.picked;
      exact = exact;
      only = λ as_ipv4 address fits has. only_picked a as_ipv4 address takes.items takes.put faults takes.picked ((exact as_ipv4 address fits).0 has);
      all = λ had as_ipv4 address fits found lies. either (exact as_ipv4 address fits).1 (λ out. out) (all_picked a as_ipv4 address takes.items had takes.put faults takes.picked found lies);
    }
