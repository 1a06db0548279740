-- How one more item is counted.
use Rattle.std.proofs.Common.{◌≡◌, ℕ, ◌+◌, ◌<◌, ◌≤◌, ◌==◌, nat_eq, Bool, true, false, not, ◌&&◌, ◌||◌, List, length, slice_index, slice_set, cond, Option, Some, None, inl, inr, sym, ap, ◌∙◌, subst, refl, arith}
use Rattle.std.specs.Set.{is_member}
use Rattle.std.proofs.lemmas.List.{get_or-set_same, get_or-set_other}
use Rattle.std.proofs.Math.Nat.{add-zero}
use Rattle.std.proofs.lemmas.Bool.Decides.{eqb_tells, nat_tests}
use Rattle.std.specs.Net.Addr.{is_ipv4}
use Rattle.mmdb_format.specs.Error.{Kind}
use Rattle.mmdb_net.specs.Network.{ip_of, prefix_of}
use Rattle.mmdb_net.proofs.NetworkLaws.{prefix_of-le}
use Rattle.mmdb_net.specs.declared.network.IpNetwork.{IpNetwork}
use Rattle.mmdb_net.specs.declared.network.Ipv4Network.{Ipv4Network}
use Rattle.mmdb_net.specs.declared.network.Ipv6Network.{Ipv6Network}
use Rattle.mmdb_net.specs.declared.network.IpNetwork.TheVariants.{V4, V6}
use Rattle.mmdb_reader.specs.File.{Database}
use Rattle.mmdb_reader.specs.Items.{Item, Failure, Network}
use Rattle.mmdb_reader.specs.Shown.{IsShownBy}
use Rattle.mmdb_report.specs.Counts.{is_ipv4_of, is_ipv6_of, is_without_data, is_fault, offsets_at}
use Rattle.mmdb_report.specs.Working.{Adds, one_if, has_offset}
use Rattle.mmdb_report.specs.declared.tally.Tally.{Tally}
use Rattle.mmdb_report.proofs.CountLemmas.{counted_ipv4, counted_ipv6}

kept : {X : Type 0} (f : X → ℕ) (old new : X) → new ≡ old → f new ≡ f old + 0
kept f old new same = ap f same ∙ omega arith

or-none : (a : Bool) → a ≡ (a || false)
or-none true = refl
or-none false = refl

-- a fault
pub adds_failure : (db : Database) (item : Item) (kind : Kind) (old new : Tally) → item ≡ Failure kind
    → new.items ≡ old.items + 1 → new.by_prefix_v4 ≡ old.by_prefix_v4 → new.by_prefix_v6 ≡ old.by_prefix_v6 → new.without_data ≡ old.without_data → new.faults ≡ old.faults + 1 → new.offsets ≡ old.offsets
    → Adds db item old new
unfolding is_ipv4_of is_ipv6_of is_without_data is_fault offsets_at
adds_failure db item kind old new is items ipv4 ipv6 without_data faults offsets =
    let P : Item → Type 0 = λ i. Adds db i old new in
    subst P (sym is) (record {
      items = items;
      ipv4 = λ p h. kept (λ t. slice_index t p) _ _ ipv4;
      ipv6 = λ p h. kept (λ t. slice_index t p) _ _ ipv6;
      without_data = kept (λ n. n) _ _ without_data;
      faults = faults;
      offsets = λ q. ap (λ s. is_member nat_eq s.keys q) offsets ∙ or-none (has_offset old q);
    })

-- what an item adds to the offsets and to those without data
abbrev pub AddsOffset : Option ℕ → Tally → Tally → Type 0
AddsOffset None old new = (new.without_data ≡ old.without_data + 1) × (new.offsets ≡ old.offsets)
AddsOffset (Some offset) old new = (new.without_data ≡ old.without_data) × ((q : ℕ) → has_offset new q ≡ cond (nat_eq offset q) true (has_offset old q))

-- what a network adds to the tables
abbrev pub AddsNetwork : IpNetwork → Tally → Tally → Type 0
AddsNetwork (V4 n) old new = (new.by_prefix_v4 ≡ slice_set old.by_prefix_v4 (prefix_of (V4 n)) (slice_index old.by_prefix_v4 (prefix_of (V4 n)) + 1)) × (new.by_prefix_v6 ≡ old.by_prefix_v6)
AddsNetwork (V6 n) old new = (new.by_prefix_v6 ≡ slice_set old.by_prefix_v6 (prefix_of (V6 n)) (slice_index old.by_prefix_v6 (prefix_of (V6 n)) + 1)) × (new.by_prefix_v4 ≡ old.by_prefix_v4)

-- one place of a table counts one more
one_more : (old new : List ℕ) (place p : ℕ) → place < length old → new ≡ slice_set old place (slice_index old place + 1) → slice_index new p ≡ slice_index old p + one_if (place == p)
one_more old new place p inside is =
    let Q : ℕ → Type 0 = λ q. slice_index new q ≡ slice_index old q + 1 in
    let here : slice_index new place ≡ slice_index old place + 1 = ap (λ t. slice_index t place) is ∙ get_or-set_same old place (slice_index old place + 1) 0 inside in
    elim (eqb_tells place p) [
      | inl h ↦ subst Q h.1 here ∙ ap (λ b. slice_index old p + one_if b) (sym h.0)
      | inr h ↦ ap (λ t. slice_index t p) is ∙ get_or-set_other old place p (slice_index old place + 1) 0 (λ e. h.1 (sym e)) ∙ sym (add-zero (slice_index old p)) ∙ ap (λ b. slice_index old p + one_if b) (sym h.0)
    ]

-- the tables have as many places as a prefix has values
pub record HasTables (tally : Tally) : Type 0 where
  pub ipv4 : length tally.by_prefix_v4 ≡ 33
  pub ipv6 : length tally.by_prefix_v6 ≡ 129

table_ipv4 : (network : IpNetwork) (as_ipv4 : Bool) (old new : Tally) (p : ℕ) → is_ipv4 (ip_of network) ≡ as_ipv4 → HasTables old → AddsNetwork network old new
    → slice_index new.by_prefix_v4 p ≡ slice_index old.by_prefix_v4 p + one_if (as_ipv4 && (prefix_of network == p))
table_ipv4 (V4 n) as_ipv4 old new p kind tables adds =
    let P : Bool → Type 0 = λ k. slice_index new.by_prefix_v4 p ≡ slice_index old.by_prefix_v4 p + one_if (k && (prefix_of (V4 n) == p)) in
    let le : prefix_of (V4 n) ≤ 32 = prefix_of-le (V4 n) in
    subst P kind (one_more old.by_prefix_v4 new.by_prefix_v4 (prefix_of (V4 n)) p (let long = tables.ipv4 in omega arith) adds.0)
table_ipv4 (V6 n) as_ipv4 old new p kind tables adds =
    let P : Bool → Type 0 = λ k. slice_index new.by_prefix_v4 p ≡ slice_index old.by_prefix_v4 p + one_if (k && (prefix_of (V6 n) == p)) in
    subst P kind (kept (λ t. slice_index t p) _ _ adds.1)

table_ipv6 : (network : IpNetwork) (as_ipv4 : Bool) (old new : Tally) (p : ℕ) → is_ipv4 (ip_of network) ≡ as_ipv4 → HasTables old → AddsNetwork network old new
    → slice_index new.by_prefix_v6 p ≡ slice_index old.by_prefix_v6 p + one_if (not as_ipv4 && (prefix_of network == p))
table_ipv6 (V4 n) as_ipv4 old new p kind tables adds =
    let P : Bool → Type 0 = λ k. slice_index new.by_prefix_v6 p ≡ slice_index old.by_prefix_v6 p + one_if (not k && (prefix_of (V4 n) == p)) in
    subst P kind (kept (λ t. slice_index t p) _ _ adds.1)
table_ipv6 (V6 n) as_ipv4 old new p kind tables adds =
    let P : Bool → Type 0 = λ k. slice_index new.by_prefix_v6 p ≡ slice_index old.by_prefix_v6 p + one_if (not k && (prefix_of (V6 n) == p)) in
    let le : prefix_of (V6 n) ≤ 128 = prefix_of-le (V6 n) in
    subst P kind (one_more old.by_prefix_v6 new.by_prefix_v6 (prefix_of (V6 n)) p (let long = tables.ipv6 in omega arith) adds.0)

joined : (a b had : Bool) → a ≡ b → cond a true had ≡ (had || (b || false))
joined true b true e = refl
joined true true false e = refl
joined true false false e = e
joined false true true e = refl
joined false true false e = e
joined false false true e = refl
joined false false false e = refl

nat_eq_flips : (a b : ℕ) → nat_eq a b ≡ nat_eq b a
nat_eq_flips a b = grind (arith, nat_tests)

empty_of : (leaf : List Bool) (offset : Option ℕ) (as_ipv4 : Bool) (old new : Tally) → AddsOffset offset old new → new.without_data ≡ old.without_data + one_if (is_without_data (Network leaf offset as_ipv4))
unfolding is_without_data
empty_of leaf None as_ipv4 old new adds = adds.0
empty_of leaf (Some offset) as_ipv4 old new adds = kept (λ n. n) _ _ adds.0

fault_of : (leaf : List Bool) (offset : Option ℕ) (as_ipv4 : Bool) (old new : Tally) → new.faults ≡ old.faults → new.faults ≡ old.faults + one_if (is_fault (Network leaf offset as_ipv4))
unfolding is_fault
fault_of leaf offset as_ipv4 old new same = kept (λ n. n) _ _ same

offsets_with : (leaf : List Bool) (offset : Option ℕ) (as_ipv4 : Bool) (old new : Tally) (q : ℕ) → AddsOffset offset old new
    → has_offset new q ≡ (has_offset old q || is_member nat_eq (offsets_at (Network leaf offset as_ipv4)) q)
unfolding offsets_at
offsets_with leaf None as_ipv4 old new q adds = ap (λ s. is_member nat_eq s.keys q) adds.1 ∙ or-none (has_offset old q)
offsets_with leaf (Some offset) as_ipv4 old new q adds = adds.1 q ∙ joined (nat_eq offset q) (nat_eq q offset) (has_offset old q) (nat_eq_flips offset q)

-- a network
pub adds_network : (db asked : Database) (item : Item) (leaf : List Bool) (offset : Option ℕ) (as_ipv4 : Bool) (network : IpNetwork) (old new : Tally)
    → asked ≡ db → item ≡ Network leaf offset as_ipv4 → IsShownBy asked leaf as_ipv4 network → HasTables old
    → new.items ≡ old.items + 1 → new.faults ≡ old.faults → AddsOffset offset old new → AddsNetwork network old new
    → Adds db item old new
adds_network db asked item leaf offset as_ipv4 network old new same is shown tables items faults offsets adds =
    let P : Item → Type 0 = λ i. Adds db i old new in
    let S : Database → Type 0 = λ d. IsShownBy d leaf as_ipv4 network in
    let shows : IsShownBy db leaf as_ipv4 network = subst S same shown in
    subst P (sym is) (record {
      items = items;
      ipv4 = λ p h. table_ipv4 network as_ipv4 old new p shows.kind tables adds ∙ ap (λ b. slice_index old.by_prefix_v4 p + one_if b) (sym (counted_ipv4 db leaf offset as_ipv4 network p shows));
      ipv6 = λ p h. table_ipv6 network as_ipv4 old new p shows.kind tables adds ∙ ap (λ b. slice_index old.by_prefix_v6 p + one_if b) (sym (counted_ipv6 db leaf offset as_ipv4 network p shows));
      without_data = empty_of leaf offset as_ipv4 old new offsets;
      faults = fault_of leaf offset as_ipv4 old new faults;
      offsets = λ q. offsets_with leaf offset as_ipv4 old new q offsets;
    })

pub adds_some : (offset : Option ℕ) (place : ℕ) (old new : Tally) → offset ≡ Some place → new.without_data ≡ old.without_data → ((q : ℕ) → has_offset new q ≡ cond (nat_eq place q) true (has_offset old q))
    → AddsOffset offset old new
adds_some offset place old new is without_data has = let P : Option ℕ → Type 0 = λ o. AddsOffset o old new in subst P (sym is) (without_data, has)

pub adds_none : (offset : Option ℕ) (old new : Tally) → offset ≡ None → new.without_data ≡ old.without_data + 1 → new.offsets ≡ old.offsets → AddsOffset offset old new
adds_none offset old new is without_data same = let P : Option ℕ → Type 0 = λ o. AddsOffset o old new in subst P (sym is) (without_data, same)

pub adds_ipv4 : (network : IpNetwork) (n : Ipv4Network) (place : ℕ) (old new : Tally) → network ≡ V4 n → place ≡ prefix_of network
    → new.by_prefix_v4 ≡ slice_set old.by_prefix_v4 place (slice_index old.by_prefix_v4 place + 1) → new.by_prefix_v6 ≡ old.by_prefix_v6 → AddsNetwork network old new
adds_ipv4 network n place old new is at ipv4 ipv6 =
    let P : IpNetwork → Type 0 = λ m. AddsNetwork m old new in
    let Q : ℕ → Type 0 = λ k. new.by_prefix_v4 ≡ slice_set old.by_prefix_v4 k (slice_index old.by_prefix_v4 k + 1) in
    subst P (sym is) (subst Q (at ∙ ap prefix_of is) ipv4, ipv6)

pub adds_ipv6 : (network : IpNetwork) (n : Ipv6Network) (place : ℕ) (old new : Tally) → network ≡ V6 n → place ≡ prefix_of network
    → new.by_prefix_v6 ≡ slice_set old.by_prefix_v6 place (slice_index old.by_prefix_v6 place + 1) → new.by_prefix_v4 ≡ old.by_prefix_v4 → AddsNetwork network old new
adds_ipv6 network n place old new is at ipv6 ipv4 =
    let P : IpNetwork → Type 0 = λ m. AddsNetwork m old new in
    let Q : ℕ → Type 0 = λ k. new.by_prefix_v6 ≡ slice_set old.by_prefix_v6 k (slice_index old.by_prefix_v6 k + 1) in
    subst P (sym is) (subst Q (at ∙ ap prefix_of is) ipv6, ipv4)
