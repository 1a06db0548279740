-- The stops of a tree are exactly the walked leaves and the topmost aliases.
use Rattle.std.proofs.Common.{◌≡◌, ℕ, ◌<◌, ◌≤◌, ◌⊎◌, ◌↔◌, ◌^◌, ◌&&◌, ◌==◌, nat_le, nat_lt, if◌then◌else◌, zero, suc, Bool, true, false, not, Some, None, List, [], ◌∷◌, ◌++◌, map, length, arith, sym, ap, ◌∙◌, refl, subst, inl, inr, length-append}
use Rattle.std.specs.List.{Contains}
use Rattle.std.proofs.lemmas.Bool.{cases_Bool, ltb-true, ltb-false, lt-ltb, le-ltb, and_parts, and_from, and_cases, and_left, and_right, not-true, not-false, both_ways}
use Rattle.std.proofs.lemmas.List.{append-nil, map-append}
use Rattle.std.proofs.lemmas.List.Elements.{Contains-append_cases}
use Rattle.mmdb_tree.specs.declared.record.TreeRecord.{TreeRecord}
use Rattle.mmdb_tree.specs.declared.record.TreeRecord.TheVariants.{Data, Empty, Invalid, Node}
use Rattle.mmdb_reader.specs.File.{Database, tree_of, width, has_ipv6, data_length}
use Rattle.mmdb_tree.specs.Tree.{walk}
use Rattle.mmdb_reader.specs.Lookup.{record_at}
use Rattle.mmdb_reader.specs.Alias.{IsAlias, is_alias}
use Rattle.mmdb_reader.specs.Listing.{HasValueAt, LeadsNowhere, Ascends, ComesBefore}
use Rattle.mmdb_tree.specs.Stops.{Stop, at_stop, is_ipv4_start, is_alias_in, end_at, goes_on, stops_below}
use Rattle.mmdb_reader.specs.Stops.{walked_tree, stops}
use Rattle.mmdb_reader.specs.Shown.{ipv4_start, has_ipv4_subtree}
use Rattle.mmdb_net.specs.Bits.{number_of}
use Rattle.mmdb_reader.specs.WholeLaws.{HasEnd, IsStop, StopsAreExact}
use Rattle.mmdb_tree.proofs.WalkLemmas.{walk-inner}
use Rattle.mmdb_tree.proofs.LeadLemmas.{record-node, record-empty, record-data, record-invalid}
use Rattle.mmdb_reader.proofs.PositionLemmas.{width-le}
use Rattle.mmdb_reader.proofs.AliasLemmas.{alias-sound, alias-complete}
use Rattle.mmdb_reader.proofs.FindingLemmas.{OnNode, AtEnd, Nowhere, Value, kind_of_leaf}
use Rattle.mmdb_tree.proofs.Visits.{stops-node, stops-end}
use Rattle.mmdb_tree.proofs.StopLemmas.{EndsBelow, sound, complete, shifted}

-- ---- aliases

and_assoc : (a b c : Bool) → (a && (b && c)) ≡ ((a && b) && c)
and_assoc true b c = refl
and_assoc false b c = refl

start-test : (b : Bool) (start number : ℕ) (c : Bool) → (is_ipv4_start (if b then Some start else None) number && c) ≡ (b && (number == start && c))
start-test true start number c = refl
start-test false start number c = refl

no_six : (a b c d : Bool) → a ≡ false → (((a && b) && c) && d) ≡ false
no_six true b c d e = cc
no_six false b c d e = refl

-- an alias of the tree is one of the database
pub alias-same : (db : Database) (s : List Bool) → is_alias_in (walked_tree db) s ≡ is_alias db s
unfolding is_alias_in is_alias
alias-same db s =
    let both : Bool = has_ipv4_subtree db && nat_lt 0 (ipv4_start db) in
    let test : ℕ → Bool = λ n. walk (tree_of db) s == ipv4_start db && nat_le (2 ^ 32) (number_of n s) in
    let first = start-test both (ipv4_start db) (walk (tree_of db) s) (nat_le (2 ^ 32) (number_of (width db) s)) in
    let last = and_assoc (has_ipv4_subtree db) (nat_lt 0 (ipv4_start db)) (test 128) in
    elim (cases_Bool (has_ipv6 db)) [
      | inl six ↦ let wide : width db ≡ 128 = rw six refl in first ∙ ap (λ n. both && test n) wide ∙ sym last
      | inr four ↦ first ∙ no_six (has_ipv6 db) _ _ (test (width db)) four ∙ sym (no_six (has_ipv6 db) _ _ (test 128) four) ∙ sym last
    ]

-- what a leaf has that leads to this number
unfoldable pub end_of_leaf : Database → ℕ → TreeRecord
end_of_leaf db number = at_stop (record_at db number) false

-- ---- what a leaf has

leaf_on : (db : Database) (number : ℕ) → number < db.metadata.node_count → end_of_leaf db number ≡ Invalid
unfolding end_of_leaf
leaf_on db number on = ap (λ (x : TreeRecord). at_stop x false) (record-node db.metadata.node_count (data_length db) number on)

nowhere-end : (db : Database) (leaf : List Bool) → LeadsNowhere db leaf → end_of_leaf db (walk (tree_of db) leaf) ≡ Invalid
unfolding end_of_leaf
nowhere-end db leaf n =
    ap (λ (x : TreeRecord). at_stop x false) (record-invalid db.metadata.node_count (data_length db) (walk (tree_of db) leaf) n.past (λ offset leads inside. n.nowhere offset (record { leads = leads; inside = inside })))

value-end : (db : Database) (leaf : List Bool) (offset : ℕ) → HasValueAt db leaf offset → end_of_leaf db (walk (tree_of db) leaf) ≡ Data offset
unfolding end_of_leaf
value-end db leaf offset v = ap (λ (x : TreeRecord). at_stop x false) (record-data db.metadata.node_count (data_length db) (walk (tree_of db) leaf) offset v.leads v.inside)

absent-end : (db : Database) (leaf : List Bool) → walk (tree_of db) leaf ≡ db.metadata.node_count → end_of_leaf db (walk (tree_of db) leaf) ≡ Empty
unfolding end_of_leaf
absent-end db leaf is = ap (λ (x : TreeRecord). at_stop x false) (record-empty db.metadata.node_count (data_length db) (walk (tree_of db) leaf) is)

-- what a walk stops at, by an alias and by none
end-aliased : (db : Database) (bits : List Bool) → is_alias db bits ≡ true → walk (tree_of db) bits < db.metadata.node_count → end_at (walked_tree db) bits ≡ Node (walk (tree_of db) bits)
end-aliased db bits aliased on =
    ap (at_stop (record_at db (walk (tree_of db) bits))) (alias-same db bits ∙ aliased) ∙ ap (λ (x : TreeRecord). at_stop x true) (record-node db.metadata.node_count (data_length db) (walk (tree_of db) bits) on)

end-unaliased : (db : Database) (bits : List Bool) → is_alias db bits ≡ false → end_at (walked_tree db) bits ≡ end_of_leaf db (walk (tree_of db) bits)
unfolding end_of_leaf
end-unaliased db bits unaliased = ap (at_stop (record_at db (walk (tree_of db) bits))) (alias-same db bits ∙ unaliased)

pub has-end : (db : Database) (leaf : List Bool) → HasEnd db leaf (end_of_leaf db (walk (tree_of db) leaf))
has-end db leaf = elim (kind_of_leaf db leaf) [
  | OnNode on ↦ subst (HasEnd db leaf) (sym (leaf_on db (walk (tree_of db) leaf) on)) (inr (inl on))
  | AtEnd is ↦ subst (HasEnd db leaf) (sym (absent-end db leaf is)) is
  | Nowhere n ↦ subst (HasEnd db leaf) (sym (nowhere-end db leaf n)) (inl n)
  | Value offset v ↦ subst (HasEnd db leaf) (sym (value-end db leaf offset v)) v
]

no_skip : {P : Type 0} → false ≡ true → P
no_skip e = cc

pub end-has : (db : Database) (leaf : List Bool) (end : TreeRecord) → HasEnd db leaf end → end_of_leaf db (walk (tree_of db) leaf) ≡ end
end-has db leaf (Node number) h = absurd h
end-has db leaf Invalid (inl n) = nowhere-end db leaf n
end-has db leaf Invalid (inr (inl on)) = leaf_on db (walk (tree_of db) leaf) on
end-has db leaf Invalid (inr (inr (skips, u))) = no_skip skips
end-has db leaf Empty h = absent-end db leaf h
end-has db leaf (Data offset) h = value-end db leaf offset h

-- ---- at the root

module _ (db : Database) where
  goes_parts : (c : List Bool) → goes_on (walked_tree db) c ≡ true → (is_alias db c ≡ false) × (walk (tree_of db) c < db.metadata.node_count)
  goes_parts c h = let both = and_parts (not (is_alias_in (walked_tree db) c)) _ h in (sym (alias-same db c) ∙ not-true _ both.0, ltb-true _ _ both.1)

  goes : (c : List Bool) → is_alias db c ≡ false → walk (tree_of db) c < db.metadata.node_count → goes_on (walked_tree db) c ≡ true
  goes c unaliased on = and_from _ _ (ap not (alias-same db c ∙ unaliased)) (lt-ltb _ _ on)

  no_test : (c : List Bool) → is_alias db c ≡ false → ¬ IsAlias db c
  no_test c unaliased h = both_ways _ unaliased (alias-complete db c h)

  test_no : (c : List Bool) → length c ≤ 128 → ¬ IsAlias db c → is_alias db c ≡ false
  test_no c short unaliased = elim (cases_Bool (is_alias db c)) [ inl aliased ↦ absurd (unaliased (alias-sound db c short aliased)) | inr fine ↦ fine ]

  any_prefix : (s c d : List Bool) → s ≡ c ++ d → ¬ IsAlias db s → ((x : Bool) (q : List Bool) → s ≡ c ++ x ∷ q → ¬ IsAlias db c) → ¬ IsAlias db c
  any_prefix s c [] e whole proper = let same : s ≡ c = e ∙ append-nil c in subst (λ (t : List Bool). ¬ IsAlias db t) same whole
  any_prefix s c (x ∷ q) e whole proper = proper x q e

  pub stop_of_end : (m : Stop) → EndsBelow (walked_tree db) (width db) [] m.bits m.end → IsStop db m
  stop_of_end m h =
      let proper : (c : List Bool) (x : Bool) (d : List Bool) → m.bits ≡ c ++ x ∷ d → ¬ IsAlias db c = λ c x d e. no_test c (goes_parts c (h.inner c x d e)).0 in
      let short = h.short in
      elim (cases_Bool (is_alias db m.bits)) [
        | inl aliased ↦
            let alias = alias-sound db m.bits (omega (arith, short, width-le db)) aliased in
            inl (record { alias = alias; clear = proper }, h.end_is ∙ end-aliased db m.bits aliased (omega (arith, alias.same, alias.on_node)))
        | inr unaliased ↦ inr (
          record {
            is_leaf = record {
              inner = λ c x d e. (goes_parts c (h.inner c x d e)).1;
              short = short;
              ended = elim h.ended [
                | inl off ↦ elim (and_cases (not (is_alias_in (walked_tree db) m.bits)) _ off) [
                  | inl alias ↦ absurd (both_ways _ unaliased (sym (alias-same db m.bits) ∙ not-false _ alias))
                  | inr out ↦ inl (ltb-false _ _ out)
                ]
                | inr full ↦ inr full
              ];
            };
            clear = λ c begins. any_prefix m.bits c begins.0 begins.1 (no_test m.bits unaliased) (λ x q f. proper c x q f);
          },
          (let is : m.end ≡ end_of_leaf db (walk (tree_of db) m.bits) = h.end_is ∙ end-unaliased db m.bits unaliased in subst (HasEnd db m.bits) (sym is) (has-end db m.bits)),
        )
      ]

  pub end_of_stop : (m : Stop) → IsStop db m → EndsBelow (walked_tree db) (width db) [] m.bits m.end
  end_of_stop m (inl (h, is)) =
      let alias = h.alias in
      let aliased = alias-complete db m.bits alias in
      let six : width db ≡ 128 = rw alias.ipv6 refl in
      let most = alias.short in
      let short : length m.bits ≤ width db = omega (arith, most, six) in
      let same = alias.same in
      let node = alias.on_node in
      record {
        inner = λ c x d e. goes c (test_no c (omega (arith, most, ap length e, length-append c (x ∷ d))) (h.clear c x d e))
            (walk-inner (tree_of db) 0 c (x ∷ d) (omega (arith, ap (walk (tree_of db)) (sym e), same, node)));
        short = short;
        ended = inl (and_left (not (is_alias_in (walked_tree db) m.bits)) _ (ap not (alias-same db m.bits ∙ aliased)));
        end_is = is ∙ sym (end-aliased db m.bits aliased (omega (arith, same, node)));
      }
  end_of_stop m (inr (h, is)) =
      let short = h.is_leaf.short in
      let unaliased = test_no m.bits (omega (arith, short, width-le db)) (h.clear m.bits ([], sym (append-nil m.bits))) in
      record {
        inner = λ c x d e. goes c (test_no c (omega (arith, short, ap length e, length-append c (x ∷ d), width-le db)) (h.clear c (x ∷ d, e))) (h.is_leaf.inner c x d e);
        short = short;
        ended = elim h.is_leaf.ended [
          | inl out ↦ inl (and_right (not (is_alias_in (walked_tree db) m.bits)) _ (le-ltb _ _ out))
          | inr full ↦ inr full
        ];
        end_is = sym (end-has db m.bits m.end is) ∙ sym (end-unaliased db m.bits unaliased);
      }

-- ---- in ascending order

abbrev pub bits_of_stops : List Stop → List (List Bool)
bits_of_stops ms = map (λ (m : Stop). m.bits) ms

in_stops : (ms : List Stop) (bits : List Bool) → Contains (bits_of_stops ms) bits → (m : Stop) × Contains ms m × (m.bits ≡ bits)
in_stops [] bits (k, below, is) = absurd (omega arith)
in_stops (m ∷ ms) bits (zero, below, is) = (m, (0, omega arith, refl), is)
in_stops (m ∷ ms) bits (suc k, below, is) =
    let w = in_stops ms bits (k, omega arith, is) in
    (w.0, (suc w.1.0, let b = w.1.1 in omega (arith, b), w.1.2), w.2)

ascends-append : (xs ys : List (List Bool)) → Ascends xs → Ascends ys → ((a b : List Bool) → Contains xs a → Contains ys b → ComesBefore a b) → Ascends (xs ++ ys)
ascends-append [] ys p q before = q
ascends-append (x ∷ xs) ys p q before = (
  (λ other h. elim (Contains-append_cases xs ys other h) [
    | inl first ↦ p.0 other first
    | inr second ↦ before x other (0, omega arith, refl) second
  ]),
  ascends-append xs ys p.1 q (λ a b in_xs in_ys. before a b (suc in_xs.0, let b = in_xs.1 in omega (arith, b), in_xs.2) in_ys),
)

module _ (db : Database) where
  halves-before : (left : ℕ) (bits a b : List Bool) → Contains (bits_of_stops (stops_below (walked_tree db) left (bits ++ false ∷ []))) a → Contains (bits_of_stops (stops_below (walked_tree db) left (bits ++ true ∷ []))) b → ComesBefore a b
  halves-before left bits a b in_low in_high =
      let low = in_stops _ a in_low in
      let high = in_stops _ b in_high in
      let s = sound (walked_tree db) left (bits ++ false ∷ []) low.0 low.1 in
      let t = sound (walked_tree db) left (bits ++ true ∷ []) high.0 high.1 in
      record {
        shared = bits;
        rest_of_a = s.0;
        rest_of_b = t.0;
        low = sym low.2 ∙ s.1 ∙ shifted bits false s.0;
        high = sym high.2 ∙ t.1 ∙ shifted bits true t.0;
      }

  ascends-one : (left : ℕ) (bits : List Bool) → ((left ≡ 0) ⊎ (goes_on (walked_tree db) bits ≡ false)) → Ascends (bits_of_stops (stops_below (walked_tree db) left bits))
  ascends-one left bits ended = subst (λ (ms : List Stop). Ascends (bits_of_stops ms)) (sym (stops-end (walked_tree db) left bits ended)) ((λ other h. absurd (let below = h.1 in omega (arith, below))), tt)

  ascends-below : (left : ℕ) (bits : List Bool) → Ascends (bits_of_stops (stops_below (walked_tree db) left bits))
  ascends-below zero bits = ascends-one zero bits (inl refl)
  ascends-below (suc left) bits = elim (cases_Bool (goes_on (walked_tree db) bits)) [
    | inr off ↦ ascends-one (suc left) bits (inr off)
    | inl on ↦ subst (λ (ms : List Stop). Ascends (bits_of_stops ms)) (sym (stops-node (walked_tree db) left bits on))
        (subst Ascends (sym (map-append (λ (m : Stop). m.bits) (stops_below (walked_tree db) left (bits ++ false ∷ [])) (stops_below (walked_tree db) left (bits ++ true ∷ []))))
        (ascends-append _ _ (ascends-below left (bits ++ false ∷ [])) (ascends-below left (bits ++ true ∷ [])) (halves-before left bits)))
  ]

pub stops_exact : (db : Database) (m : Stop) → Contains (stops db) m ↔ IsStop db m
stops_exact db m = (
  (λ h.
      let w = sound (walked_tree db) (width db) [] m h in
      stop_of_end db m (subst (λ (s : List Bool). EndsBelow (walked_tree db) (width db) [] s m.end) (sym w.1) w.2)),
  λ h. complete (walked_tree db) (width db) [] m.bits m.end (end_of_stop db m h),
)

pub stops_are_exact : StopsAreExact
stops_are_exact db = record { ascends = ascends-below db (width db) []; exact = stops_exact db }
