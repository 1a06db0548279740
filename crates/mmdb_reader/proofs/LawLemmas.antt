-- Leaves are disjoint and cover all addresses; answers are the same all over a leaf.
use Rattle.std.proofs.Common.{◌≡◌, ℕ, zero, suc, ◌+◌, ◌<◌, ◌≤◌, ◌⊎◌, Option, Some, None, Bool, true, List, [], ◌∷◌, ◌++◌, length, take, refl, ap, arith, sym, ◌∙◌, inl, inr, below_more, length-append}
use Rattle.std.proofs.lemmas.List.{append-nil}
use Rattle.std.proofs.lemmas.Bool.{cases_lt, eq-eqb}
use Rattle.std.specs.declared.net.ip_addr.IpAddr.{IpAddr}
use Rattle.std.specs.declared.net.ip_addr.IpAddr.TheVariants.{V4, V6}
use Rattle.mmdb_net.specs.Bits.{IsPrefix}
use Rattle.mmdb_net.specs.Address.{bits_of_address}
use Rattle.mmdb_net.proofs.AddressLaws.{length-bits_of_address}
use Rattle.mmdb_reader.specs.File.{Database, tree_of, width, has_ipv6, before_ipv4}
use Rattle.mmdb_tree.specs.Tree.{walk}
use Rattle.mmdb_reader.specs.Leaves.{IsLeaf}
use Rattle.mmdb_tree.specs.declared.record.TreeRecord.{TreeRecord}
use Rattle.mmdb_tree.specs.declared.record.TreeRecord.TheVariants.{Invalid}
use Rattle.mmdb_reader.specs.Lookup.{CanAsk, Answers, IsInvalidAt, address_bits, outcome_of, outcome_at}
use Rattle.mmdb_reader.specs.Working.{IsLeafAt}
use Rattle.mmdb_tree.specs.Descents.{Descends}
use Rattle.mmdb_reader.specs.Laws.{LeavesAreDisjoint, EachAddressHasOneLeaf, EachAddressIsAnswered, AnswersAreUnique, SameLeafSameAnswer}
use Rattle.mmdb_tree.proofs.WalkLemmas.{walk-nil, walk-past}
use Rattle.mmdb_reader.proofs.LeafLemmas.{EndsOn, EndsOn-descends, IsLeaf-ends, IsPrefix-ends, length-before_ipv4}

-- a leaf that begins another is that leaf
pub leaves_are_disjoint : LeavesAreDisjoint
leaves_are_disjoint db a b leaf_a leaf_b ([], e) = go e
  where
    go : b ≡ a ++ [] → a ≡ b
    go e = sym (e ∙ append-nil a)
leaves_are_disjoint db a b leaf_a leaf_b (x ∷ d, e) =
    let on = leaf_b.inner a x d e in
    let longer : length b ≡ length a + suc (length d) = ap length e ∙ length-append a (x ∷ d) in
    let short = leaf_b.short in
    absurd (elim leaf_a.ended [ inl out ↦ omega (arith, on, out) | inr all ↦ omega (arith, longer, short, all) ])

-- of two beginnings of one string, one begins the other
either_first : (a t r s : List Bool) → a ++ r ≡ t ++ s → IsPrefix a t ⊎ IsPrefix t a
either_first [] t r s e = inl (t, refl)
either_first (x ∷ a) [] r s e = inr (x ∷ a, refl)
either_first (x ∷ a) (y ∷ t) r s e =
    let first : x ≡ y = cc in
    let others : a ++ r ≡ t ++ s = cc in
    elim (either_first a t r s others) [
      | inl (u, p) ↦ inl (u, (let whole : y ∷ t ≡ x ∷ (a ++ u) = cc in whole))
      | inr (u, p) ↦ inr (u, (let whole : x ∷ a ≡ y ∷ (t ++ u) = cc in whole))
    ]

pub one_leaf : (db : Database) (bits a b : List Bool) → IsLeaf db a → IsLeaf db b → IsPrefix a bits → IsPrefix b bits → a ≡ b
one_leaf db bits a b leaf_a leaf_b on_a on_b =
    elim (either_first a b on_a.0 on_b.0 (sym on_a.1 ∙ on_b.1)) [
      | inl first ↦ leaves_are_disjoint db a b leaf_a leaf_b first
      | inr second ↦ sym (leaves_are_disjoint db b a leaf_b leaf_a second)
    ]

-- somewhere the walk along the bits ends, or it is on nodes as far as it was looked at
ended : (db : Database) (bits : List Bool) (k : ℕ) → k ≤ length bits → ((taken : ℕ) × Descends (tree_of db) 0 bits taken (walk (tree_of db) (take taken bits))) ⊎ ((j : ℕ) → j < k → walk (tree_of db) (take j bits) < db.metadata.node_count)
ended db bits zero h = inr (λ j below. absurd (omega arith))
ended db bits (suc k) h =
    elim (ended db bits k (omega arith)) [
      | inl found ↦ inl found
      | inr on ↦
          elim (cases_lt (walk (tree_of db) (take k bits)) db.metadata.node_count) [
            | inl node ↦ inr (λ j below. below_more (λ i. walk (tree_of db) (take i bits) < db.metadata.node_count) k on node j (omega arith))
            | inr left ↦ inl (k, record { walks = record { within = omega arith; reached = refl; on_nodes = on }; ends = λ _. left })
          ]
    ]

descent_on : (db : Database) (bits : List Bool) → (taken : ℕ) × Descends (tree_of db) 0 bits taken (walk (tree_of db) (take taken bits))
descent_on db bits =
    elim (ended db bits (length bits) (omega arith)) [
      | inl found ↦ found
      | inr on ↦ (length bits, record { walks = record { within = omega arith; reached = refl; on_nodes = on }; ends = λ short. absurd (omega arith) })
    ]

pub each_address_has_one_leaf : EachAddressHasOneLeaf
each_address_has_one_leaf db bits full =
    let found = descent_on db bits in
    let e : EndsOn db [] bits 0 found.0 (walk (tree_of db) (take found.0 bits)) = EndsOn-descends db [] bits 0 found.0 _ (sym (walk-nil (tree_of db) 0)) (λ k h. absurd (omega arith)) (omega (arith, full)) found.1 in
    let leaf = IsLeaf-ends db [] bits 0 found.0 _ e in
    let on = IsPrefix-ends db [] bits 0 found.0 _ e in
    (take found.0 bits, record { is_leaf = leaf; on_bits = on; only = λ other is_leaf begins. one_leaf db bits other (take found.0 bits) is_leaf leaf begins on })

pub answers_are_unique : AnswersAreUnique
answers_are_unique db address a b x y at_a at_b =
    let same = one_leaf db (address_bits db address) a b at_a.is_leaf at_b.is_leaf at_a.on_address at_b.on_address in
    (same, sym at_a.outcome_is ∙ ap (λ (leaf : List Bool). outcome_of db (walk (tree_of db) leaf)) same ∙ at_b.outcome_is)

pub same_leaf_same_answer : SameLeafSameAnswer
same_leaf_same_answer db address other leaf outcome at can on = record {
  can_ask = can;
  is_leaf = at.is_leaf;
  on_address = on;
  outcome_is = at.outcome_is;
}

rejected_at-none : (x : Option ℕ) → outcome_at x ≡ Invalid → ⊥
rejected_at-none (Some offset) e = cc
rejected_at-none None e = cc

-- the leaf's outcome where it is no error is the only one
pub not_rejected : (db : Database) (address : IpAddr) (leaf : List Bool) (number : ℕ) (x : Option ℕ) → IsLeafAt db address leaf number → outcome_of db number ≡ outcome_at x → ¬ IsInvalidAt db address
not_rejected db address leaf number x at is rejected =
    let answer : Answers db address leaf (outcome_at x) = record { can_ask = at.can_ask; is_leaf = at.is_leaf; on_address = at.on_address; outcome_is = ap (outcome_of db) at.reached ∙ is } in
    rejected_at-none x ((answers_are_unique db address leaf rejected.0 (outcome_at x) Invalid answer rejected.1).1)

-- ---- the walk of all bits of an address

pub length-address_bits : (db : Database) (address : IpAddr) → CanAsk db address → length (address_bits db address) ≡ width db
length-address_bits db (V4 a) can = length-append (before_ipv4 db) (bits_of_address (V4 a)) ∙ omega (arith, length-before_ipv4 db, length-bits_of_address (V4 a))
length-address_bits db (V6 a) can = let same : has_ipv6 db ≡ true = eq-eqb _ _ can in rw same (length-bits_of_address (V6 a))

no_rest : (leaf rest : List Bool) → length rest ≡ 0 → leaf ++ rest ≡ leaf
no_rest leaf [] none = append-nil leaf
no_rest leaf (x ∷ rest) none = absurd (omega arith)

-- it leads where the leaf's does
pub walk-on_leaf : (db : Database) (address : IpAddr) (leaf : List Bool) → CanAsk db address → IsLeaf db leaf → IsPrefix leaf (address_bits db address) → walk (tree_of db) (address_bits db address) ≡ walk (tree_of db) leaf
walk-on_leaf db address leaf can is_leaf on = ap (walk (tree_of db)) on.1 ∙ elim is_leaf.ended [
  | inl out ↦ walk-past (tree_of db) 0 leaf on.0 out
  | inr all ↦ ap (walk (tree_of db)) (no_rest leaf on.0 (omega (arith, length-address_bits db address can, ap length on.1, length-append leaf on.0, all)))
]

-- so the answer for an address is what the walk of all its bits says
pub answer-walk : (db : Database) (address : IpAddr) (leaf : List Bool) (outcome : TreeRecord) → Answers db address leaf outcome → outcome_of db (walk (tree_of db) (address_bits db address)) ≡ outcome
answer-walk db address leaf outcome at = ap (outcome_of db) (walk-on_leaf db address leaf at.can_ask at.is_leaf at.on_address) ∙ at.outcome_is

-- and each address that can be asked has an answer
pub each_address_is_answered : EachAddressIsAnswered
each_address_is_answered db address can =
    let found = each_address_has_one_leaf db (address_bits db address) (length-address_bits db address can) in
    (found.0, record { can_ask = can; is_leaf = found.1.is_leaf; on_address = found.1.on_bits; outcome_is = ap (outcome_of db) (sym (walk-on_leaf db address found.0 can found.1.is_leaf found.1.on_bits)) })
