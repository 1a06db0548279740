-- What a list hands out agrees with lookups.
use Rattle.std.proofs.Common.{◌≡◌, ℕ, ◌<◌, ◌||◌, ◌&&◌, not, Bool, true, false, List, [], ◌++◌, length, get_or, Option, Some, None, refl, ap, arith, sym, ◌∙◌, subst, append_assoc}
use Rattle.std.specs.List.{Contains}
use Rattle.std.proofs.lemmas.List.{get_or-map, get_or_default, length-map}
use Rattle.std.proofs.lemmas.Bool.{eqb-true}
use Rattle.std.specs.declared.net.ip_addr.IpAddr.{IpAddr}
use Rattle.std.specs.declared.net.ip_addr.IpAddr.TheVariants.{V4, V6}
use Rattle.std.specs.Net.Addr.{is_ipv4}
use Rattle.mmdb_net.specs.Bits.{IsPrefix}
use Rattle.mmdb_net.specs.Address.{IsSameKind}
use Rattle.mmdb_net.specs.Network.{ip_of, block_of}
use Rattle.mmdb_net.specs.declared.network.IpNetwork.{IpNetwork}
use Rattle.mmdb_net.specs.declared.network.IpNetwork.TheVariants as Net
use Rattle.mmdb_reader.specs.File.{Database, has_ipv6, before_ipv4}
use Rattle.mmdb_reader.specs.Items.{Item, Network, item_of, item_of_leaf, items_of}
use Rattle.mmdb_tree.specs.declared.record.TreeRecord.{TreeRecord}
use Rattle.mmdb_tree.specs.declared.record.TreeRecord.TheVariants.{Node, Empty, Data, Invalid}
use Rattle.mmdb_reader.specs.Listing.{Listed, listed_with}
use Rattle.mmdb_reader.specs.Lookup.{Answers, CanAsk, address_bits, outcome_at}
use Rattle.mmdb_reader.specs.Shown.{has_ipv4_subtree, block_in}
use Rattle.mmdb_reader.specs.ShownLeaf.{begins_with_zeros, is_leaf_shown_as_ipv4}
use Rattle.mmdb_reader.specs.ListingLaws.{AgreesWith}
use Rattle.mmdb_reader.specs.Agreement.{Holds, ItemsAgree}
use Rattle.mmdb_reader.proofs.LawLemmas.{answers_are_unique}
use Rattle.mmdb_reader.proofs.FindingLemmas.{listed_agrees}

-- a member of the list for which an item is handed out
handed-out : (db : Database) (list : List Listed) (item : Item) → Contains (items_of db list) item → (m : Listed) × Contains list m × (item_of db m ≡ item)
handed-out db list item (k, below, is) =
    let fault : Listed = listed_with [] Invalid in
    let m : Listed = get_or list k fault in
    let inside : k < length list = omega (arith, below, length-map list (item_of db)) in
    let same : get_or list k m ≡ m = get_or_default list k m fault inside in
    (m, (k, inside, same), sym (get_or-map (item_of db) list k fault item inside) ∙ is)

-- what an item that is a network tells of its leaf
network-parts : (db : Database) (at : List Bool) (finding : TreeRecord) (leaf : List Bool) (offset : Option ℕ) (as_ipv4 : Bool) → item_of_leaf db at finding ≡ Network leaf offset as_ipv4
    → (at ≡ leaf) × (is_leaf_shown_as_ipv4 db at ≡ as_ipv4) × ((address : IpAddr) → AgreesWith db address at finding → Answers db address at (outcome_at offset))
network-parts db at Invalid leaf offset as_ipv4 is = absurd (cc)
network-parts db at (Node number) leaf offset as_ipv4 is = absurd (cc)
network-parts db at Empty leaf offset as_ipv4 is =
    let none : None ≡ offset = cc in
    (cc, cc, λ address agrees. subst (λ (o : Option ℕ). Answers db address at (outcome_at o)) none agrees)
network-parts db at (Data place) leaf offset as_ipv4 is =
    let some : Some place ≡ offset = cc in
    (cc, cc, λ address agrees. subst (λ (o : Option ℕ). Answers db address at (outcome_at o)) some agrees)

-- an address that the network holds begins with the leaf
begins-with_leaf : (db : Database) (leaf : List Bool) (network : IpNetwork) (address : IpAddr) → block_in db network ≡ leaf → Holds network address → IsPrefix leaf (address_bits db address)
begins-with_leaf db leaf (Net.V4 n) (V4 a) block (kind, (rest, bits)) =
    (rest, ap (λ (xs : List Bool). before_ipv4 db ++ xs) bits ∙ sym (append_assoc (before_ipv4 db) (block_of (Net.V4 n)) rest) ∙ ap (λ (xs : List Bool). xs ++ rest) block)
begins-with_leaf db leaf (Net.V6 n) (V6 a) block (kind, (rest, bits)) = (rest, bits ∙ ap (λ (xs : List Bool). xs ++ rest) block)
begins-with_leaf db leaf (Net.V4 n) (V6 a) block (kind, (rest, bits)) = absurd (cc)
begins-with_leaf db leaf (Net.V6 n) (V4 a) block (kind, (rest, bits)) = absurd (cc)

first-true : (a b : Bool) → (not a || b) ≡ false → a ≡ true
first-true true b h = refl
first-true false b h = sym h

-- and may be asked for
may-ask : (db : Database) (leaf : List Bool) (as_ipv4 : Bool) (network : IpNetwork) (address : IpAddr) → is_leaf_shown_as_ipv4 db leaf ≡ as_ipv4 → is_ipv4 (ip_of network) ≡ as_ipv4 → IsSameKind address (ip_of network) → CanAsk db address
may-ask db leaf as_ipv4 network (V4 a) shown kind same = tt
may-ask db leaf as_ipv4 network (V6 a) shown kind same =
    let other : is_leaf_shown_as_ipv4 db leaf ≡ false = cc in
    eqb-true _ _ (first-true (has_ipv6 db) (has_ipv4_subtree db && begins_with_zeros 96 leaf) other)

pub items_agree : ItemsAgree
items_agree db options range list leaf offset as_ipv4 network address listing member shown holds =
    let found = handed-out db list (Network leaf offset as_ipv4) member in
    let m : Listed = found.0 in
    let parts = network-parts db m.leaf m.finding leaf offset as_ipv4 found.2 in
    let is_listed = (listing.exact m).0 found.1 in
    let can = may-ask db m.leaf as_ipv4 network address parts.1 shown.kind holds.0 in
    let on : IsPrefix m.leaf (address_bits db address) = subst (λ (xs : List Bool). IsPrefix xs (address_bits db address)) (sym parts.0) (begins-with_leaf db leaf network address shown.block holds) in
    let answers : Answers db address leaf (outcome_at offset) = subst (λ (xs : List Bool). Answers db address xs (outcome_at offset)) parts.0 (parts.2 address (listed_agrees db options range m.leaf m.finding address is_listed can on)) in
    record { answers = answers; only = λ other outcome at. answers_are_unique db address other leaf outcome (outcome_at offset) at answers }
