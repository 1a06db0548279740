-- Leaves found for several addresses.
use Rattle.std.proofs.Common.{◌≡◌, Bool, true, false, ℕ, suc, ◌+◌, ◌<◌, ◌≤◌, List, ◌∷◌, length, get_or, arith, subst}
use Rattle.std.proofs.lemmas.List.{get_or_default}
use Rattle.std.specs.declared.net.ip_addr.IpAddr.{IpAddr}
use Rattle.mmdb_net.specs.Address.{bits_of_address}
use Rattle.mmdb_tree.specs.declared.group.FoundLeaf.{FoundLeaf}
use Rattle.mmdb_tree.specs.Descents.{Walks}
use Rattle.mmdb_reader.specs.Many.{HasWalk, first_number, IsFoundFor, IsGroup}
use Rattle.mmdb_reader.specs.File.{Database, tree_of}

-- the walk at an index, if there is one, has come to this place
abbrev pub Begins : Database → List IpAddr → ℕ → FoundLeaf → Type 0
Begins db addresses j leaf = (a : IpAddr) → HasWalk db (get_or addresses j a) → Walks (tree_of db) (first_number db (get_or addresses j a)) (bits_of_address (get_or addresses j a)) leaf.taken leaf.number

pub Begins-at : (db : Database) (addresses : List IpAddr) (j : ℕ) (a0 : IpAddr) (leaf : FoundLeaf) → j < length addresses
    → (HasWalk db (get_or addresses j a0) → Walks (tree_of db) (first_number db (get_or addresses j a0)) (bits_of_address (get_or addresses j a0)) leaf.taken leaf.number) → Begins db addresses j leaf
Begins-at db addresses j a0 leaf inside begins a =
    let P : IpAddr → Type 0 = λ x. HasWalk db x → Walks (tree_of db) (first_number db x) (bits_of_address x) leaf.taken leaf.number in
    subst P (get_or_default addresses j a0 a inside) begins

-- ---- groups of found leaves

module _ (db : Database) (left : List IpAddr) (leaves : List FoundLeaf) (next count : ℕ) (group : IsGroup db left leaves next count) (more : next < count) (first : IpAddr) (rest : List IpAddr) (is : left ≡ first ∷ rest) where
  -- the next leaf is the one of the first address
  pub IsGroup-first : (d : FoundLeaf) → IsFoundFor db first (get_or leaves next d)
  IsGroup-first d =
      let P : List IpAddr → Type 0 = λ xs. IsFoundFor db (get_or xs 0 first) (get_or leaves next d) in
      let Q : ℕ → Type 0 = λ n. IsFoundFor db (get_or left 0 first) (get_or leaves n d) in
      let same : next + 0 ≡ next = omega arith in
      subst P is (subst Q same (group.found 0 first d (omega (arith, more))))

  -- and those after it are of the others
  pub IsGroup-rest : IsGroup db rest leaves (next + 1) count
  IsGroup-rest =
      let asked = group.asked in
      let whole : length left ≡ length rest + 1 = rw is (omega arith) in
      record {
        ordered = omega (arith, more);
        few = group.few;
        asked = omega (arith, asked, whole);
        found = λ i a d h.
            let P : List IpAddr → Type 0 = λ xs. IsFoundFor db (get_or xs (suc i) a) (get_or leaves (next + 1 + i) d) in
            let Q : ℕ → Type 0 = λ n. IsFoundFor db (get_or left (suc i) a) (get_or leaves n d) in
            let same : next + suc i ≡ next + 1 + i = omega arith in
            subst P is (subst Q same (group.found (suc i) a d (omega (arith, h))));
      }

-- one of which none is used
pub IsGroup-new : (db : Database) (left : List IpAddr) (leaves : List FoundLeaf) (count : ℕ) → count ≤ 64 → count ≤ length left → ((i : ℕ) (a : IpAddr) (d : FoundLeaf) → i < count → IsFoundFor db (get_or left i a) (get_or leaves i d)) → IsGroup db left leaves 0 count
IsGroup-new db left leaves count few within found = record {
  ordered = omega arith;
  few = few;
  asked = omega (arith, within);
  found = λ i a d h.
      let P : ℕ → Type 0 = λ n. IsFoundFor db (get_or left i a) (get_or leaves n d) in
      let same : i ≡ 0 + i = omega arith in
      subst P same (found i a d (omega (arith, h)));
}

-- one of which all are used, whatever addresses are left
pub IsGroup-used : (db : Database) (left : List IpAddr) (leaves : List FoundLeaf) (next count : ℕ) → next ≡ count → count ≤ 64 → IsGroup db left leaves next count
IsGroup-used db left leaves next count all few = record {
  ordered = omega (arith, all);
  few = few;
  asked = omega (arith, all);
  found = λ i a d h. absurd (omega (arith, all, h));
}

pub not_both : (A : Type 0) (b : Bool) → b ≡ false → b ≡ true → A
not_both A true off on = absurd (cc)
not_both A false off on = absurd (cc)
