-- What a walk without faults and the check of values say of a file.
use Rattle.std.proofs.Common.{◌≡◌, ℕ, ◌↔◌, zero, suc, Bool, true, false, List, [], ◌∷◌, ◌++◌, arith, sym, ap, ◌∙◌, refl, subst, inl, inr}
use Rattle.std.specs.List.{Contains, list_any}
use Rattle.std.proofs.lemmas.Bool.{cases_Bool, both_ways}
use Rattle.std.proofs.lemmas.List.Elements.{Contains-append_left, Contains-append_right, Contains-append_cases}
use Rattle.mmdb_format.specs.Unfolding.{Tree}
use Rattle.mmdb_format.specs.Error.{MemoryApart}
use Rattle.mmdb_format.specs.declared.error.MaxMindDbError.{MaxMindDbError}
use Rattle.mmdb_format.specs.declared.error.MaxMindDbError.TheVariants.{InvalidDatabase, Io, Decoding, ResourceLimit, InvalidNetwork, InvalidInput, Memory}
use Rattle.mmdb_check.specs.Checking.{none, IsGood, CanAddAll}
use Rattle.mmdb_offsets.specs.OffsetSet.{holds, offsets_of}
use Rattle.mmdb_check.proofs.Members.{can_add_places, can_add_at, good_tree}
use Rattle.mmdb_tree.specs.declared.record.TreeRecord.{TreeRecord}
use Rattle.mmdb_tree.specs.declared.record.TreeRecord.TheVariants.{Data, Empty, Invalid, Node}
use Rattle.mmdb_reader.specs.File.{Database, data_section}
use Rattle.mmdb_tree.specs.declared.walked.WalkEnd.{WalkEnd}
use Rattle.mmdb_tree.specs.declared.walked.WalkEnd.TheVariants.{Whole}
use Rattle.mmdb_tree.specs.Stops.{WalkedTree, Stop, stop, is_fault, offset_of, offsets, IsClean}
use Rattle.mmdb_tree.specs.Walked.{IsVerdict}
use Rattle.mmdb_reader.specs.Stops.{walked_tree, stops}
use Rattle.mmdb_reader.specs.Working.{HoldsOffsets}
use Rattle.mmdb_reader.specs.Whole.{HasWholeTree}
use Rattle.mmdb_reader.specs.WholeLaws.{HasEnd, OffsetsAreExact}
use Rattle.mmdb_reader.proofs.StopLemmas.{stops_exact}

-- ---- memory apart

pub apart_from : (e : MaxMindDbError) (P : Type 0) → P → MemoryApart e P
apart_from (InvalidDatabase message offset) P p = p
apart_from (Io error) P p = p
apart_from (Decoding message offset path) P p = p
apart_from (ResourceLimit message offset path) P p = p
apart_from (InvalidNetwork error) P p = p
apart_from (InvalidInput message) P p = p
apart_from Memory P p = tt

-- ---- faults

fault_free : (ms : List Stop) → list_any (λ m. is_fault m.end) ms ≡ false → (m : Stop) → Contains ms m → is_fault m.end ≡ false
fault_free [] h m (k, below, is) = absurd (omega arith)
fault_free (n ∷ ms) h m (zero, below, is) = elim (cases_Bool (is_fault n.end)) [
  | inl bad ↦ absurd (let wrong : true ≡ false = rw bad at h in cc)
  | inr fine ↦ ap (λ (s : Stop). is_fault s.end) (sym is) ∙ fine
]
fault_free (n ∷ ms) h m (suc k, below, is) = elim (cases_Bool (is_fault n.end)) [
  | inl bad ↦ absurd (let wrong : true ≡ false = rw bad at h in cc)
  | inr fine ↦ fault_free ms (rw fine at h) m (k, omega arith, is)
]

free_fault : (ms : List Stop) → ((m : Stop) → Contains ms m → is_fault m.end ≡ false) → list_any (λ m. is_fault m.end) ms ≡ false
free_fault [] h = refl
free_fault (n ∷ ms) h = rw (h n (0, omega arith, refl)) (free_fault ms (λ m c. h m (suc c.0, let b = c.1 in omega (arith, b), c.2)))

the_fault : (end : TreeRecord) → is_fault end ≡ true → end ≡ Invalid
the_fault Invalid h = refl
the_fault (Node number) h = absurd (cc)
the_fault Empty h = absurd (cc)
the_fault (Data offset) h = absurd (cc)

no_alias_fault : (end : TreeRecord) (number : ℕ) → end ≡ Node number → end ≡ Invalid → ⊥
no_alias_fault end number a b = let e : Node number ≡ Invalid = sym a ∙ b in cc

pub tree_of_clean : (db : Database) → IsClean (walked_tree db) → HasWholeTree db
tree_of_clean db clean = record {
  faultless = λ leaf walked faulty.
      let there = (stops_exact db (stop leaf Invalid)).1 (inr (walked, faulty)) in
      both_ways _ (fault_free (stops db) clean.faultless (stop leaf Invalid) there) refl;
  few = clean.few;
}

pub clean_of_tree : (db : Database) → HasWholeTree db → IsClean (walked_tree db)
clean_of_tree db h = record {
  faultless = free_fault (stops db) (λ m there. elim (cases_Bool (is_fault m.end)) [
    | inr fine ↦ fine
    | inl bad ↦
        let fault = the_fault m.end bad in
        absurd (elim ((stops_exact db m).0 there) [
          | inl alias ↦ no_alias_fault m.end _ alias.1 fault
          | inr leaf ↦ h.faultless m.bits leaf.0 (subst (HasEnd db m.bits) fault leaf.1)
        ])
  ]);
  few = h.few;
}

-- what a walk of a database's tree says where it has stopped everywhere
pub whole_by : (db : Database) (tree : WalkedTree) (set : List Bool) (taken : ℕ) (end : WalkEnd) → IsVerdict tree set taken end → end ≡ Whole → tree ≡ walked_tree db
    → HasWholeTree db × HoldsOffsets db set
whole_by db tree set taken end verdict is same =
    let said : IsVerdict tree set taken Whole = subst (IsVerdict tree set taken) is verdict in
    let there : IsVerdict (walked_tree db) set taken Whole = subst (λ (t : WalkedTree). IsVerdict t set taken Whole) same said in
    (tree_of_clean db there.0, there.1.0)

-- ---- offsets

offsets_nil : offsets [] ≡ []
unfolding offsets
offsets_nil = refl

offsets_cons : (m : Stop) (ms : List Stop) → offsets (m ∷ ms) ≡ offset_of m.end ++ offsets ms
unfolding offsets
offsets_cons m ms = refl

the_offset : (end : TreeRecord) (offset : ℕ) → Contains (offset_of end) offset → end ≡ Data offset
the_offset Invalid offset (k, below, is) = absurd (omega arith)
the_offset (Node number) offset (k, below, is) = absurd (omega arith)
the_offset Empty offset (k, below, is) = absurd (omega arith)
the_offset (Data o) offset (zero, below, is) = ap Data is
the_offset (Data o) offset (suc k, below, is) = absurd (omega arith)

in_offsets : (ms : List Stop) (offset : ℕ) → Contains (offsets ms) offset → (m : Stop) × Contains ms m × (m.end ≡ Data offset)
in_offsets [] offset h = let none = subst (λ (os : List ℕ). Contains os offset) offsets_nil h in absurd (let below = none.1 in omega (arith, below))
in_offsets (m ∷ ms) offset h = elim (Contains-append_cases (offset_of m.end) (offsets ms) offset (subst (λ (os : List ℕ). Contains os offset) (offsets_cons m ms) h)) [
  | inl first ↦ (m, (0, omega arith, refl), the_offset m.end offset first)
  | inr later ↦ let w = in_offsets ms offset later in (w.0, (suc w.1.0, let b = w.1.1 in omega (arith, b), w.1.2), w.2)
]

to_offsets : (ms : List Stop) (m : Stop) (offset : ℕ) → Contains ms m → m.end ≡ Data offset → Contains (offsets ms) offset
to_offsets [] m offset (k, below, is) e = absurd (omega arith)
to_offsets (n ∷ ms) m offset (zero, below, is) e =
    let found : n.end ≡ Data offset = ap (λ (s : Stop). s.end) is ∙ e in
    let here : Contains (offset_of n.end) offset = subst (λ (end : TreeRecord). Contains (offset_of end) offset) (sym found) (0, omega arith, refl) in
    subst (λ (os : List ℕ). Contains os offset) (sym (offsets_cons n ms)) (Contains-append_left _ _ _ here)
to_offsets (n ∷ ms) m offset (suc k, below, is) e =
    subst (λ (os : List ℕ). Contains os offset) (sym (offsets_cons n ms)) (Contains-append_right _ _ _ (to_offsets ms m offset (k, omega arith, is) e))

no_alias_found : (end : TreeRecord) (number offset : ℕ) → end ≡ Node number → end ≡ Data offset → ⊥
no_alias_found end number offset a b = let e : Node number ≡ Data offset = sym a ∙ b in cc

pub offsets_are_exact : OffsetsAreExact
offsets_are_exact db offset = (
  (λ h.
      let w = in_offsets (stops db) offset h in
      elim ((stops_exact db w.0).0 w.1) [
        | inl alias ↦ absurd (no_alias_found w.0.end _ offset alias.1 w.2)
        | inr leaf ↦ (w.0.bits, leaf.0, subst (HasEnd db w.0.bits) w.2 leaf.1)
      ]),
  λ w. to_offsets (stops db) (stop w.0 (Data offset)) offset ((stops_exact db (stop w.0 (Data offset))).1 (inr (w.1, w.2))) refl,
)

-- ---- values

-- the check of the set that a walk has found, from no good set
pub values_checked : (db : Database) (section : List ℕ) (good set : List Bool) → section ≡ data_section db → ((q : ℕ) → holds good q ≡ false) → HoldsOffsets db set
    → CanAddAll section (holds good) (offsets_of set) ↔ CanAddAll (data_section db) none (offsets (stops db))
values_checked db section good set same no_good has =
    let step = can_add_places section (holds good) set (offsets (stops db)) has in
    let from = can_add_at section (data_section db) (holds good) none (offsets (stops db)) same no_good in
    ((λ x. from.0 (step.0 x)), (λ x. step.1 (from.1 x)))

-- each offset of several has a good tree
pub value_good : (db : Database) (offset : ℕ) → CanAddAll (data_section db) none (offsets (stops db)) → Contains (offsets (stops db)) offset → (t : Tree) × IsGood (data_section db) offset t
value_good db offset values there = good_tree (data_section db) none (offsets (stops db)) offset values there
