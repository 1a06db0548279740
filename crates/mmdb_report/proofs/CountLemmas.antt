-- How items are counted.
use Rattle.std.proofs.Common.{◌≡◌, ℕ, ◌+◌, ◌≤◌, ◌==◌, slice_index, replicate, inl, inr, Bool, not, ◌&&◌, List, ◌∷◌, ◌++◌, length, Option, sym, ap, ◌∙◌, subst, refl, cond, arith, length-append}
use Rattle.std.specs.List.{count_by}
use Rattle.std.proofs.lemmas.List.{get_or-replicate, get_or_past, length-replicate}
use Rattle.std.proofs.lemmas.List.Sums.{sum_by-cons}
use Rattle.std.proofs.lemmas.Bool.{cases_lt}
use Rattle.std.proofs.lemmas.Bool.Decides.{nat_tests}
use Rattle.mmdb_net.specs.declared.network.IpNetwork.{IpNetwork}
use Rattle.mmdb_net.specs.declared.network.IpNetwork.TheVariants.{V4, V6}
use Rattle.mmdb_net.specs.Network.{prefix_of, block_of}
use Rattle.mmdb_net.proofs.NetworkLaws.{length-block_of}
use Rattle.mmdb_reader.specs.File.{Database, before_ipv4}
use Rattle.mmdb_reader.specs.Items.{Network}
use Rattle.mmdb_reader.specs.Shown.{IsShownBy}
use Rattle.mmdb_report.specs.Counts.{is_ipv4_of, is_ipv6_of}

-- one more item
pub count_by-cons : {X : Type 0} (p : X → Bool) (x : X) (xs : List X) → count_by p (x ∷ xs) ≡ cond (p x) 1 0 + count_by p xs
count_by-cons p x xs = sum_by-cons (λ y. cond (p y) 1 0) x xs

eq-behind : (a b c : ℕ) → (a + b == a + c) ≡ (b == c)
eq-behind a b c = grind (arith, nat_tests)

long_ipv4 : (db : Database) (leaf : List Bool) (n : IpNetwork) → before_ipv4 db ++ block_of n ≡ leaf → length leaf ≡ length (before_ipv4 db) + prefix_of n
long_ipv4 db leaf n is = ap length (sym is) ∙ length-append (before_ipv4 db) (block_of n) ∙ ap (λ m. length (before_ipv4 db) + m) (length-block_of n)

long_ipv6 : (leaf : List Bool) (n : IpNetwork) → block_of n ≡ leaf → length leaf ≡ prefix_of n
long_ipv6 leaf n is = ap length (sym is) ∙ length-block_of n

-- an item is counted by the kind of the network that shows it, and by its prefix
pub counted_ipv4 : (db : Database) (leaf : List Bool) (offset : Option ℕ) (as_ipv4 : Bool) (network : IpNetwork) (prefix : ℕ) → IsShownBy db leaf as_ipv4 network
    → is_ipv4_of db prefix (Network leaf offset as_ipv4) ≡ (as_ipv4 && (prefix_of network == prefix))
unfolding is_ipv4_of
counted_ipv4 db leaf offset as_ipv4 (V4 n) prefix h =
    let P : Bool → Type 0 = λ k. (k && (length leaf == length (before_ipv4 db) + prefix)) ≡ (k && (prefix_of (V4 n) == prefix)) in
    subst P h.kind (ap (λ m. m == length (before_ipv4 db) + prefix) (long_ipv4 db leaf (V4 n) h.block) ∙ eq-behind _ _ _)
counted_ipv4 db leaf offset as_ipv4 (V6 n) prefix h =
    let P : Bool → Type 0 = λ k. (k && (length leaf == length (before_ipv4 db) + prefix)) ≡ (k && (prefix_of (V6 n) == prefix)) in
    subst P h.kind refl

pub counted_ipv6 : (db : Database) (leaf : List Bool) (offset : Option ℕ) (as_ipv4 : Bool) (network : IpNetwork) (prefix : ℕ) → IsShownBy db leaf as_ipv4 network
    → is_ipv6_of prefix (Network leaf offset as_ipv4) ≡ (not as_ipv4 && (prefix_of network == prefix))
unfolding is_ipv6_of
counted_ipv6 db leaf offset as_ipv4 (V4 n) prefix h =
    let P : Bool → Type 0 = λ k. (not k && (length leaf == prefix)) ≡ (not k && (prefix_of (V4 n) == prefix)) in
    subst P h.kind refl
counted_ipv6 db leaf offset as_ipv4 (V6 n) prefix h =
    let P : Bool → Type 0 = λ k. (not k && (length leaf == prefix)) ≡ (not k && (prefix_of (V6 n) == prefix)) in
    subst P h.kind (ap (λ m. m == prefix) (long_ipv6 leaf (V6 n) h.block))

-- a table of zeros
pub none_at : (n i : ℕ) → slice_index (replicate n 0) i ≡ 0
none_at n i = elim (cases_lt i n) [ inl h ↦ get_or-replicate n i 0 0 h | inr h ↦ get_or_past (replicate n 0) i 0 (omega (arith, length-replicate {A = ℕ} n 0)) ]

pub none_above : (n i : ℕ) → slice_index (replicate n 0) i ≤ 0
none_above n i = omega (arith, none_at n i)
