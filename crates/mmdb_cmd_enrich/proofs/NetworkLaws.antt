-- The smallest network of an address.
use Rattle.std.proofs.Common.{◌≡◌, ℕ, List, [], ◌∷◌, map, Option, Some, None, Bool, true, false, nat_lt, inl, inr, refl, sym, ap, ◌∙◌, subst, arith}
use Rattle.std.proofs.lemmas.Bool.Decides.{nat_tests}
use Rattle.std.specs.declared.convert.AsSlice.{Ghosts}
use Rattle.std.specs.declared.net.ip_addr.IpAddr.{IpAddr}
use Rattle.mmdb_net.specs.declared.network.IpNetwork.{IpNetwork}
use Rattle.mmdb_reader.specs.File.{Database}
use Rattle.mmdb_reader.specs.Found.{leaf_of, offset_found, shown_as_ipv4}
use Rattle.mmdb_reader.specs.Shown.{IsShownBy}
use Rattle.mmdb_reader.specs.declared.lookup_result.LookupResult.{LookupResult}
use Rattle.mmdb_cmd_enrich.specs.Layers.{Has, has_record}
use Rattle.mmdb_cmd_enrich.specs.Networks.{HasNetwork, depth_of, smaller, smallest, IsShown}
use Rattle.mmdb_cmd_enrich.specs.Working.{offset_in, IsAnswerOf, IsAnswer, IsNetworkOf, AreNetworks, IsSmallest, IsShownOf, ShowNetworks}

smaller_none : (network : Option IpNetwork) → smaller network None ≡ network
smaller_none None = refl
smaller_none (Some network) = refl

-- of three networks the smallest is one, in whichever order they are compared
three : (a b c : IpNetwork) (p q r : Bool) → nat_lt (depth_of a) (depth_of b) ≡ p → nat_lt (depth_of b) (depth_of c) ≡ q → nat_lt (depth_of a) (depth_of c) ≡ r
    → smaller (smaller (Some a) (Some b)) (Some c) ≡ smaller (Some a) (smaller (Some b) (Some c))
three a b c true true true p q r = rw (p, q, r) refl
three a b c true true false p q r = absurd (grind (arith, nat_tests))
three a b c true false r p q is = simp (p, q)
three a b c false true r p q is = simp (p, q)
three a b c false false true p q r = absurd (grind (arith, nat_tests))
three a b c false false false p q r = simp (p, q, r)

smaller_assoc : (a b c : Option IpNetwork) → smaller (smaller a b) c ≡ smaller a (smaller b c)
smaller_assoc None b c = refl
smaller_assoc (Some a) None c = refl
smaller_assoc (Some a) (Some b) None = smaller_none (smaller (Some a) (Some b))
smaller_assoc (Some a) (Some b) (Some c) = three a b c (nat_lt (depth_of a) (depth_of b)) (nat_lt (depth_of b) (depth_of c)) (nat_lt (depth_of a) (depth_of c)) refl refl refl

-- The networks of the answers left complete the smallest of those before.
pub record SmallestWay {S : Type 0} {G : Ghosts S ℕ} (answers left : List (Option (LookupResult S G))) (best : Option IpNetwork) : Type 0 where
  pub of : (more : List (Option IpNetwork)) → AreNetworks left more → (networks : List (Option IpNetwork)) × AreNetworks answers networks × (smaller best (smallest more) ≡ smallest networks)

pub smallest_started : {S : Type 0} {G : Ghosts S ℕ} (answers : List (Option (LookupResult S G))) → SmallestWay answers answers None
smallest_started answers = record { of = λ more are. (more, are, refl) }

-- the network of one more answer
pub one_smaller : {S : Type 0} {G : Ghosts S ℕ} (answers left : List (Option (LookupResult S G))) (answer : Option (LookupResult S G)) (best next network : Option IpNetwork)
    → SmallestWay answers (answer ∷ left) best → IsNetworkOf answer network → next ≡ smaller best network → SmallestWay answers left next
one_smaller answers left answer best next network way is put = record {
  of = λ more are.
      let (networks, all, same) = way.of (network ∷ more) (is, are) in
      (networks, all, ap (λ b. smaller b (smallest more)) put ∙ (smaller_assoc best network (smallest more) ∙ same));
}

pub smallest_done : {S : Type 0} {G : Ghosts S ℕ} (answers : List (Option (LookupResult S G))) (best : Option IpNetwork) → SmallestWay answers [] best → IsSmallest answers best
smallest_done answers best way =
    let (networks, all, same) = way.of [] tt in
    (networks, all, sym (smaller_none best) ∙ same)

-- an answer for an address is one of its database
pub answer_of : {S : Type 0} {G : Ghosts S ℕ} (db : Database) (address : IpAddr) (answer : Option (LookupResult S G)) → IsAnswer db address answer → IsAnswerOf db answer
answer_of db address None is = tt
answer_of db address (Some found) is = let (asked, asks, same, answers, shown) = is in same

-- and says where the record is
pub answer_has : {S : Type 0} {G : Ghosts S ℕ} (db : Database) (address : IpAddr) (answer : Option (LookupResult S G)) → IsAnswer db address answer → Has db address (offset_in answer)
answer_has db address None is = let (asked, asks, cannot) = is in (asked, asks, inl (cannot, refl))
answer_has db address (Some found) is =
    let (asked, asks, same, answers, shown) = is in
    (asked, asks, inr (leaf_of found, answers))

-- its network is the one in which the database has the address
answer_shows : {S : Type 0} {G : Ghosts S ℕ} (db : Database) (address : IpAddr) (answer : Option (LookupResult S G)) (network : Option IpNetwork) → IsAnswer db address answer → IsNetworkOf answer network → HasNetwork db address network
answer_shows db address None None is of = is
answer_shows db address None (Some network) is of = absurd of
answer_shows db address (Some found) None is of = absurd of
answer_shows db address (Some found) (Some network) is of =
    let (asked, asks, same, answers, shown) = is in
    let here = subst (λ d. IsShownBy d (leaf_of found) (shown_as_ipv4 found) network) same of in
    (asked, asks, leaf_of found, offset_found found, answers, subst (λ b. IsShownBy db (leaf_of found) b network) shown here)

pub answers_show : {S : Type 0} {G : Ghosts S ℕ} (db : Database) (left : List Database) (address : IpAddr) (answer : Option (LookupResult S G)) (rest : List (Option (LookupResult S G)))
    → IsAnswer db address answer → ShowNetworks left address rest → ShowNetworks (db ∷ left) address (answer ∷ rest)
answers_show db left address answer rest is all [] are = absurd are
answers_show db left address answer rest is all (network ∷ networks) are = (answer_shows db address answer network is are.0, all networks are.1)

-- no answers have no networks
pub none_shown : (S : Type 0) (G : Ghosts S ℕ) (address : IpAddr) → ShowNetworks {S = S} {G = G} [] address []
none_shown S G address [] are = tt
none_shown S G address (network ∷ networks) are = absurd are

-- the network that is shown of answers is that of the address
pub shown_is : {S : Type 0} {G : Ghosts S ℕ} (dbs : List Database) (address : IpAddr) (answers : List (Option (LookupResult S G))) (network : Option IpNetwork)
    → ShowNetworks dbs address answers → IsShownOf answers network → IsShown dbs address (has_record (map offset_in answers)) network
shown_is dbs address answers network all (networks, are, is) = (networks, all networks are, is)
