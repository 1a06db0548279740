-- Addresses of rows ahead.
use Rattle.std.proofs.Common.{◌≡◌, ℕ, ◌+◌, ◌<◌, ◌≤◌, List, [], ◌∷◌, ◌++◌, None, Some, length, take, drop, get_or, set, arith, sym, ap, ◌∙◌, subst, inl, inr}
use Rattle.std.proofs.lemmas.List.{get_or-set_same, get_or-set_other, get_or-take, length-take-le}
use Rattle.std.proofs.lemmas.Option.{slice_get_within, slice_get-get_or, get_or_from_slice_get}
use Rattle.std.proofs.lemmas.Bool.{cases_lt}
use Rattle.std.specs.List.{slice_get}
use Rattle.std.specs.declared.net.ip_addr.IpAddr.{IpAddr}
use Rattle.mmdb_addresses.specs.Addresses.{IsAddressIn}
use Rattle.mmdb_addresses.specs.Spelling.{spelling}
use Rattle.mmdb_addresses.specs.declared.readings.Reading.{Reading}
use Rattle.mmdb_addresses.specs.declared.address_text.AddressText.{AddressText}
use Rattle.mmdb_reader.specs.File.{Database}
use Rattle.mmdb_reader.specs.Many.{IsFoundFor}
use Rattle.mmdb_tree.specs.declared.group.FoundLeaf.{FoundLeaf}
use Rattle.mmdb_cmd_enrich.specs.Ahead.{AreSpelled, AreFound, AreFoundIn, IsNumbered, number_of_row}
use Rattle.mmdb_cmd_enrich.specs.declared.ahead.RowAddress.{RowAddress}
use Rattle.mmdb_cmd_enrich.specs.declared.ahead.RowAddress.TheVariants.{Nothing, Short, Long}
use Rattle.mmdb_cmd_enrich.specs.declared.leaves.Leaves.{Leaves}

-- one more text, with the address in it
pub spelled_more : (reading : Reading) (texts : List AddressText) (addresses : List IpAddr) (count : ℕ) (copy : AddressText) (address : IpAddr)
    → count < length texts → count < length addresses → IsAddressIn reading (spelling copy) address → AreSpelled reading texts addresses count
    → AreSpelled reading (set texts count copy) (set addresses count address) (count + 1)
spelled_more reading texts addresses count copy address room place spells are i text asked below = elim (cases_lt i count) [
  | inl less ↦
      let text_stays : get_or (set texts count copy) i text ≡ get_or texts i text = get_or-set_other texts count i copy text (λ same. absurd (omega (arith, same, less))) in
      let address_stays : get_or (set addresses count address) i asked ≡ get_or addresses i asked = get_or-set_other addresses count i address asked (λ same. absurd (omega (arith, same, less))) in
      subst (λ (t : AddressText). IsAddressIn reading (spelling t) (get_or (set addresses count address) i asked)) (sym text_stays)
      (subst (λ (a : IpAddr). IsAddressIn reading (spelling (get_or texts i text)) a) (sym address_stays) (are i text asked less))
  | inr more ↦
      let last : i ≡ count = omega (arith, more, below) in
      let text_is : get_or (set texts count copy) i text ≡ copy = ap (λ n. get_or (set texts count copy) n text) last ∙ get_or-set_same texts count copy text room in
      let address_is : get_or (set addresses count address) i asked ≡ address = ap (λ n. get_or (set addresses count address) n asked) last ∙ get_or-set_same addresses count address asked place in
      subst (λ (t : AddressText). IsAddressIn reading (spelling t) (get_or (set addresses count address) i asked)) (sym text_is)
      (subst (λ (a : IpAddr). IsAddressIn reading (spelling copy) a) (sym address_is) spells)
]

-- an address of which a text was noted
pub spelled_at : (reading : Reading) (texts : List AddressText) (addresses : List IpAddr) (count at : ℕ) (copy : AddressText) (text : List ℕ) (address : IpAddr)
    → at < count → get_or texts at copy ≡ copy → spelling copy ≡ text → AreSpelled reading texts addresses count → IsAddressIn reading text (get_or addresses at address)
spelled_at reading texts addresses count at copy text address below there same are =
    subst (λ t. IsAddressIn reading t (get_or addresses at address)) same
    (subst (λ (t : AddressText). IsAddressIn reading (spelling t) (get_or addresses at address)) there (are at copy address below))

-- an address ahead has its number
pub numbered : (addresses : List IpAddr) (count number : ℕ) (other : IpAddr) → number < count → count ≤ length addresses → slice_get (take count addresses) number ≡ Some (get_or addresses number other)
numbered addresses count number other below within =
    let some : number < length (take count addresses) = omega (arith, below, length-take-le count addresses within) in
    slice_get-get_or (take count addresses) number other some ∙ ap Some (get_or-take count addresses number other below)

-- an address that has no number
pub unnumbered : (addresses : List IpAddr) (row : RowAddress) → number_of_row row ≡ None → IsNumbered addresses row
unnumbered addresses Nothing none = tt
unnumbered addresses (Short address None) none = tt
unnumbered addresses (Short address (Some number)) none = absurd (cc)
unnumbered addresses Long none = tt

-- where its walk ends
pub leaf_found : (db : Database) (addresses : List IpAddr) (leaves : List FoundLeaf) (number : ℕ) (address : IpAddr) (leaf : FoundLeaf)
    → AreFound db addresses leaves → slice_get addresses number ≡ Some address → IsFoundFor db address (get_or leaves number leaf)
leaf_found db addresses leaves number address leaf are is =
    let same = get_or_from_slice_get addresses number address address is in
    subst (λ (a : IpAddr). IsFoundFor db a (get_or leaves number leaf)) same (are number address leaf (slice_get_within addresses number address is))

-- of the first database it is known where walks end, where it is of any
pub first_found : (db : Database) (dbs : List Database) (addresses : List IpAddr) (all : List Leaves) (other : Leaves)
    → 1 ≤ length all → AreFoundIn (db ∷ dbs) addresses all → AreFound db addresses (get_or all 0 other).leaves
first_found db dbs addresses [] other some are = absurd (omega (arith, some))
first_found db dbs addresses (leaves ∷ others) other some are = are.0

-- one more database, of which it is known too
pub found_more : (dbs left : List Database) (db : Database) (addresses : List IpAddr) (all : List Leaves) (more : Leaves)
    → drop (length all) dbs ≡ db ∷ left → AreFoundIn dbs addresses all → AreFound db addresses more.leaves → AreFoundIn dbs addresses (all ++ (more ∷ []))
found_more [] left db addresses [] more next are is = tt
found_more (first ∷ dbs) left db addresses [] more next are is = let same : first ≡ db = cc in (subst (λ d. AreFound d addresses more.leaves) (sym same) is, tt)
found_more [] left db addresses (leaves ∷ all) more next are is = tt
found_more (first ∷ dbs) left db addresses (leaves ∷ all) more next are is = (are.0, found_more dbs left db addresses all more next are.1 is)
