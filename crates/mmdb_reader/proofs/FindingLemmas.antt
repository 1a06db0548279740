-- What a leaf is listed with.
use Rattle.std.proofs.Common.{◌≡◌, ℕ, ◌+◌, ◌-◌, ◌<◌, ◌≤◌, ◌⊎◌, ◌||◌, ◌==◌, option_map, cond, Bool, true, false, List, Option, Some, None, refl, ap, arith, sym, ◌∙◌, subst, inl, inr}
use Rattle.std.proofs.lemmas.Bool.{cases_Bool, cases_lt, both_ways, eq-eqb, eqb-true, and_parts, and_from, or_left}
use Rattle.mmdb_format.specs.declared.header.Direct.{Direct}
use Rattle.mmdb_format.specs.declared.header.Header.{Header}
use Rattle.mmdb_format.specs.Pointer.{direct_at}
use Rattle.mmdb_reader.specs.declared.options.WithinOptions.{WithinOptions}
use Rattle.mmdb_reader.specs.File.{Database, tree_of, data_length, data_section}
use Rattle.mmdb_tree.specs.Tree.{walk}
use Rattle.mmdb_tree.specs.declared.record.TreeRecord.{TreeRecord}
use Rattle.mmdb_tree.specs.declared.record.TreeRecord.TheVariants.{Node, Empty, Data, Invalid}
use Rattle.mmdb_reader.specs.Lookup.{for_lookup, outcome_of}
use Rattle.mmdb_tree.proofs.LeadLemmas.{record-node, record-empty, record-data, record-invalid}
use Rattle.mmdb_format.specs.Header.{◌>>=◌}
use Rattle.mmdb_decode.specs.Peeking.{is_empty_container, empty_at}
use Rattle.mmdb_reader.specs.Empty.{IsUnreadable, IsEmptyContainer}
use Rattle.mmdb_reader.proofs.EmptyLemmas.{direct_leads, leads_direct}
use Rattle.mmdb_reader.specs.Options.{includes_without_data, skips_empty}
use Rattle.mmdb_reader.specs.ListingLaws.{ListedAgrees}
use Rattle.mmdb_reader.specs.Listing.{HasValueAt, LeadsNowhere, IsFaulty, IsListedWith, finding_at, finding_of, finding_unless_empty}

-- what a lookup finds
pub outcome-offset : (db : Database) (number offset : ℕ) → number ≡ db.metadata.node_count + 16 + offset → offset < data_length db → outcome_of db number ≡ Data offset
unfolding outcome_of
outcome-offset db number offset is inside = ap for_lookup (record-data db.metadata.node_count (data_length db) number offset is inside)

pub outcome-end : (db : Database) (number : ℕ) → number ≤ db.metadata.node_count → outcome_of db number ≡ Empty
unfolding outcome_of
outcome-end db number low = elim (cases_lt number db.metadata.node_count) [
  | inl on ↦ ap for_lookup (record-node db.metadata.node_count (data_length db) number on)
  | inr off ↦ ap for_lookup (record-empty db.metadata.node_count (data_length db) number (omega arith))
]

module _ (db : Database) (options : WithinOptions) (number : ℕ) where
  finding-node : number < db.metadata.node_count → finding_at db options number ≡ Some Invalid
  unfolding finding_at
  finding-node on = ap (finding_of db options) (record-node db.metadata.node_count (data_length db) number on)

  finding-end : number ≡ db.metadata.node_count → finding_at db options number ≡ cond (includes_without_data options) (Some Empty) None
  unfolding finding_at
  finding-end is = ap (finding_of db options) (record-empty db.metadata.node_count (data_length db) number is)

  finding-nowhere : db.metadata.node_count < number → ((offset : ℕ) → number ≡ db.metadata.node_count + 16 + offset → offset < data_length db → ⊥) → finding_at db options number ≡ Some Invalid
  unfolding finding_at
  finding-nowhere past nowhere = ap (finding_of db options) (record-invalid db.metadata.node_count (data_length db) number past nowhere)

  finding-value : (offset : ℕ) → number ≡ db.metadata.node_count + 16 + offset → offset < data_length db
      → finding_at db options number ≡ cond (skips_empty options) (finding_unless_empty (empty_at (data_section db) offset) offset) (Some (Data offset))
  unfolding finding_at
  finding-value offset is inside = ap (finding_of db options) (record-data db.metadata.node_count (data_length db) number offset is inside)

-- where empty values are left out
unless_empty-none : (offset : ℕ) (empty : Option Bool) (finding : TreeRecord) → finding_unless_empty empty offset ≡ Some finding → ((finding ≡ Invalid) × (empty ≡ None)) ⊎ ((finding ≡ Data offset) × (empty ≡ Some false))
unless_empty-none offset None finding e = inl (cc, refl)
unless_empty-none offset (Some true) finding e = cc
unless_empty-none offset (Some false) finding e = inr (cc, refl)

-- ---- empty values

second_of : (x y : Bool) → y ≡ true → (x || y) ≡ true
second_of true y e = refl
second_of false y e = e

either : (x y : Bool) → (x || y) ≡ true → (x ≡ true) ⊎ (y ≡ true)
either true y e = inl refl
either false y e = inr e

abbrev IsHeaderOf : List ℕ → ℕ → Option Direct → Type 0
IsHeaderOf section place found = (found ≡ direct_at section place 0) × (empty_at section place ≡ option_map (λ direct. is_empty_container direct.header) found)

mapped_bind : (o : Option Direct) → (o >>= λ at. Some (is_empty_container at.header)) ≡ option_map (λ (direct : Direct). is_empty_container direct.header) o
mapped_bind None = refl
mapped_bind (Some direct) = refl

header_of : (section : List ℕ) (place : ℕ) → (found : Option Direct) × IsHeaderOf section place found
unfolding empty_at
header_of section place = (direct_at section place 0, (refl, mapped_bind (direct_at section place 0)))

pub unreadable-none : (section : List ℕ) (place : ℕ) → empty_at section place ≡ None → IsUnreadable section place
unreadable-none section place e = let w = header_of section place in go w.0 w.1 e
  where
    go : (found : Option Direct) → IsHeaderOf section place found → empty_at section place ≡ None → IsUnreadable section place
    go None h e = λ header leads.
        let at = leads_direct section place header leads in
        let wrong : None ≡ Some at.0 = h.0 ∙ at.1 in cc
    go (Some direct) h e = let wrong : Some (is_empty_container direct.header) ≡ None = sym h.1 ∙ e in cc

pub none-unreadable : (section : List ℕ) (place : ℕ) → IsUnreadable section place → empty_at section place ≡ None
none-unreadable section place u = let w = header_of section place in go w.0 w.1
  where
    go : (found : Option Direct) → IsHeaderOf section place found → empty_at section place ≡ None
    go None h = h.1
    go (Some direct) h = absurd (u direct.header (direct_leads section place direct (sym h.0)))

pub full-value : (section : List ℕ) (place : ℕ) → empty_at section place ≡ Some false → (¬ IsUnreadable section place) × (¬ IsEmptyContainer section place)
full-value section place e = (
  (λ u. let wrong : None ≡ Some false = sym (none-unreadable section place u) ∙ e in cc),
  λ c.
      let w = header_of section place in
      let (at, read, same) = leads_direct section place c.header c.leads in
      let is : empty_at section place ≡ Some (is_empty_container at.header) = w.1.1 ∙ ap (option_map (λ direct. is_empty_container direct.header)) (w.1.0 ∙ read) in
      let wrong : Some true ≡ Some false = sym (is ∙ ap (λ h. Some (is_empty_container h)) same ∙ ap Some (holds c.header c.container c.empty)) ∙ e in
      cc,
)
  where
    holds : (h : Header) → (h.kind ≡ 7) ⊎ (h.kind ≡ 11) → h.size ≡ 0 → is_empty_container h ≡ true
    holds h kind empty = and_from _ _ (elim kind [ inl map ↦ or_left _ _ (eq-eqb _ _ map) | inr array ↦ second_of _ _ (eq-eqb _ _ array) ]) (eq-eqb _ _ empty)

pub value-full : (section : List ℕ) (place : ℕ) → (¬ IsUnreadable section place) → (¬ IsEmptyContainer section place) → empty_at section place ≡ Some false
value-full section place readable kept = let w = header_of section place in go w.0 w.1
  where
    container : (direct : Direct) → direct_at section place 0 ≡ Some direct → is_empty_container direct.header ≡ true → IsEmptyContainer section place
    container direct stands h =
        let parts = and_parts (direct.header.kind == 7 || direct.header.kind == 11) _ h in
        record {
          header = direct.header;
          leads = direct_leads section place direct stands;
          container = elim (either (direct.header.kind == 7) _ parts.0) [ inl map ↦ inl (eqb-true _ _ map) | inr array ↦ inr (eqb-true _ _ array) ];
          empty = eqb-true _ _ parts.1;
        }

    go : (found : Option Direct) → IsHeaderOf section place found → empty_at section place ≡ Some false
    go None h = absurd (readable (λ header leads. let at = leads_direct section place header leads in let wrong : None ≡ Some at.0 = h.0 ∙ at.1 in cc))
    go (Some direct) h = elim (cases_Bool (is_empty_container direct.header)) [
      | inl empty ↦ absurd (kept (container direct (sym h.0) empty))
      | inr full ↦ h.1 ∙ ap Some full
    ]

-- a leaf with a value that can be read is not faulty
not_faulty : (db : Database) (options : WithinOptions) (leaf : List Bool) (offset : ℕ) → HasValueAt db leaf offset → (skips_empty options ≡ true → ¬ IsUnreadable (data_section db) offset) → ¬ IsFaulty db options leaf
not_faulty db options leaf offset v readable (inl n) = n.nowhere offset v
not_faulty db options leaf offset v readable (inr (inl on)) = let l = v.leads in absurd (omega (arith, l, on))
not_faulty db options leaf offset v readable (inr (inr (skips, u))) =
    let same : u.offset ≡ offset = let l = v.leads in let m = u.value.leads in omega (arith, l, m) in
    readable skips (subst (IsUnreadable (data_section db)) same u.unreadable)

readable_of : (db : Database) (options : WithinOptions) (leaf : List Bool) (offset : ℕ) → HasValueAt db leaf offset → (¬ IsFaulty db options leaf) → skips_empty options ≡ true → ¬ IsUnreadable (data_section db) offset
readable_of db options leaf offset v fine skips u = fine (inr (inr (skips, record { offset = offset; value = v; unreadable = u })))

-- the kinds of numbers that a leaf leads to
pub data KindOf (db : Database) (leaf : List Bool) : Type 0 where
  OnNode : walk (tree_of db) leaf < db.metadata.node_count → KindOf db leaf
  AtEnd : walk (tree_of db) leaf ≡ db.metadata.node_count → KindOf db leaf
  Nowhere : LeadsNowhere db leaf → KindOf db leaf
  Value : (offset : ℕ) → HasValueAt db leaf offset → KindOf db leaf

kind_past : (db : Database) (leaf : List Bool) → db.metadata.node_count < walk (tree_of db) leaf → KindOf db leaf
kind_past db leaf past = elim (cases_lt (walk (tree_of db) leaf) (db.metadata.node_count + 16)) [
  | inl near ↦ Nowhere (record { past = past; nowhere = λ offset v. let l = v.leads in absurd (omega (arith, l, near)) })
  | inr far ↦ elim (cases_lt (walk (tree_of db) leaf - db.metadata.node_count - 16) (data_length db)) [
    | inl low ↦ Value (walk (tree_of db) leaf - db.metadata.node_count - 16) (record { leads = omega (arith, far); inside = low })
    | inr high ↦ Nowhere (record { past = past; nowhere = λ offset v. let l = v.leads in let i = v.inside in absurd (omega (arith, l, i, high)) })
  ]
]

pub kind_of_leaf : (db : Database) (leaf : List Bool) → KindOf db leaf
kind_of_leaf db leaf = elim (cases_lt (walk (tree_of db) leaf) db.metadata.node_count) [
  | inl on ↦ OnNode on
  | inr off ↦ elim (cases_lt db.metadata.node_count (walk (tree_of db) leaf)) [
    | inl past ↦ kind_past db leaf past
    | inr back ↦ AtEnd (omega (arith, off, back))
  ]
]

module _ (db : Database) (options : WithinOptions) (leaf : List Bool) (finding : TreeRecord) where
  fault_is : Some Invalid ≡ Some finding → IsFaulty db options leaf → IsListedWith db options leaf finding
  fault_is e faulty = let same : Invalid ≡ finding = cc in subst (IsListedWith db options leaf) same faulty

  sound_end : walk (tree_of db) leaf ≡ db.metadata.node_count → cond (includes_without_data options) (Some Empty) None ≡ Some finding → IsListedWith db options leaf finding
  sound_end is e = elim (cases_Bool (includes_without_data options)) [
    | inl asked ↦
        let have : Some Empty ≡ Some finding = sym (ap (λ (b : Bool). cond b (Some Empty) None) asked) ∙ e in
        let same : Empty ≡ finding = cc in
        subst (IsListedWith db options leaf) same (is, asked)
    | inr other ↦ let have : None ≡ Some finding = sym (ap (λ (b : Bool). cond b (Some Empty) None) other) ∙ e in cc
  ]

  sound_value : (offset : ℕ) → HasValueAt db leaf offset → cond (skips_empty options) (finding_unless_empty (empty_at (data_section db) offset) offset) (Some (Data offset)) ≡ Some finding → IsListedWith db options leaf finding
  sound_value offset v e = elim (cases_Bool (skips_empty options)) [
    | inl skips ↦
        let have = sym (ap (λ (b : Bool). cond b (finding_unless_empty (empty_at (data_section db) offset) offset) (Some (Data offset))) skips) ∙ e in
        elim (unless_empty-none offset (empty_at (data_section db) offset) finding have) [
          | inl bad ↦ subst (IsListedWith db options leaf) (sym bad.0) (inr (inr (skips, record { offset = offset; value = v; unreadable = unreadable-none (data_section db) offset bad.1 })))
          | inr good ↦
              let full = full-value (data_section db) offset good.1 in
              subst (IsListedWith db options leaf) (sym good.0) (v, (not_faulty db options leaf offset v (λ _. full.0), λ _. full.1))
        ]
    | inr keeps ↦
        let have : Some (Data offset) ≡ Some finding = sym (ap (λ (b : Bool). cond b (finding_unless_empty (empty_at (data_section db) offset) offset) (Some (Data offset))) keeps) ∙ e in
        let same : Data offset ≡ finding = cc in
        subst (IsListedWith db options leaf) same (v, (not_faulty db options leaf offset v (λ skips. absurd (both_ways _ keeps skips)), λ skips. absurd (both_ways _ keeps skips)))
  ]

  -- a leaf that the list has is there for one of the format's reasons
  pub finding-sound : finding_at db options (walk (tree_of db) leaf) ≡ Some finding → IsListedWith db options leaf finding
  finding-sound e = elim (kind_of_leaf db leaf) [
    | OnNode on ↦ fault_is (sym (finding-node db options (walk (tree_of db) leaf) on) ∙ e) (inr (inl on))
    | AtEnd is ↦ sound_end is (sym (finding-end db options (walk (tree_of db) leaf) is) ∙ e)
    | Nowhere n ↦ fault_is (sym (finding-nowhere db options (walk (tree_of db) leaf) n.past (λ offset leads inside. n.nowhere offset (record { leads = leads; inside = inside }))) ∙ e) (inl n)
    | Value offset v ↦ sound_value offset v (sym (finding-value db options (walk (tree_of db) leaf) offset v.leads v.inside) ∙ e)
  ]

-- and each that has such a reason is in the list
pub finding-complete : (db : Database) (options : WithinOptions) (leaf : List Bool) (finding : TreeRecord) → IsListedWith db options leaf finding → finding_at db options (walk (tree_of db) leaf) ≡ Some finding
finding-complete db options leaf (Node number) h = absurd h
finding-complete db options leaf Invalid (inl n) = finding-nowhere db options (walk (tree_of db) leaf) n.past (λ offset leads inside. n.nowhere offset (record { leads = leads; inside = inside }))
finding-complete db options leaf Invalid (inr (inl on)) = finding-node db options (walk (tree_of db) leaf) on
finding-complete db options leaf Invalid (inr (inr (skips, u))) =
    finding-value db options (walk (tree_of db) leaf) u.offset u.value.leads u.value.inside ∙ ap (λ (b : Bool). cond b (finding_unless_empty (empty_at (data_section db) u.offset) u.offset) (Some (Data u.offset))) skips
    ∙ ap (λ (empty : Option Bool). finding_unless_empty empty u.offset) (none-unreadable (data_section db) u.offset u.unreadable)
finding-complete db options leaf Empty h = finding-end db options (walk (tree_of db) leaf) h.0 ∙ ap (λ (b : Bool). cond b (Some Empty) None) h.1
finding-complete db options leaf (Data offset) h =
    finding-value db options (walk (tree_of db) leaf) offset h.0.leads h.0.inside ∙ elim (cases_Bool (skips_empty options)) [
      | inl skips ↦ ap (λ (b : Bool). cond b (finding_unless_empty (empty_at (data_section db) offset) offset) (Some (Data offset))) skips ∙ ap (λ (empty : Option Bool). finding_unless_empty empty offset) (value-full (data_section db) offset (readable_of db options leaf offset h.0 h.1.0 skips) (h.1.1 skips))
      | inr keeps ↦ ap (λ (b : Bool). cond b (finding_unless_empty (empty_at (data_section db) offset) offset) (Some (Data offset))) keeps
    ]

-- each leaf is listed with something where those without data are, and empty values are kept
pub some_finding : (db : Database) (options : WithinOptions) (leaf : List Bool) → includes_without_data options ≡ true → skips_empty options ≡ false → (finding : TreeRecord) × IsListedWith db options leaf finding
some_finding db options leaf asked keeps = elim (kind_of_leaf db leaf) [
  | OnNode on ↦ (Invalid, inr (inl on))
  | AtEnd is ↦ (Empty, (is, asked))
  | Nowhere n ↦ (Invalid, inl n)
  | Value offset v ↦ (Data offset, (v, (not_faulty db options leaf offset v (λ skips. absurd (both_ways _ keeps skips)), λ skips. absurd (both_ways _ keeps skips))))
]

-- ---- answers

pub listed_agrees : ListedAgrees
listed_agrees db options range leaf Invalid address h can on = tt
listed_agrees db options range leaf (Node number) address h can on = tt
listed_agrees db options range leaf Empty address h can on = record {
  can_ask = can;
  is_leaf = h.is_leaf;
  on_address = on;
  outcome_is = outcome-end db (walk (tree_of db) leaf) (let is = h.found.0 in omega (arith, is));
}
listed_agrees db options range leaf (Data offset) address h can on = record {
  can_ask = can;
  is_leaf = h.is_leaf;
  on_address = on;
  outcome_is = outcome-offset db (walk (tree_of db) leaf) offset h.found.0.leads h.found.0.inside;
}
