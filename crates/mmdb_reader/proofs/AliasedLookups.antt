-- Lookups in a tree none of whose walked leaves is faulty, below aliases too.
use Rattle.std.proofs.Common.{◌≡◌, ℕ, ◌+◌, ◌-◌, ◌^◌, ◌<◌, ◌≤◌, ◌⊎◌, zero, suc, Bool, true, false, List, [], ◌∷◌, ◌++◌, take, drop, length, replicate, arith, sym, ap, ◌∙◌, refl, subst, inl, inr, length-append, append_assoc, zero-add}
use Rattle.std.proofs.lemmas.Bool.{cases_lt}
use Rattle.std.proofs.lemmas.List.{length-replicate, length-take-le, take-append-drop}
use Rattle.std.specs.declared.net.ip_addr.IpAddr.{IpAddr}
use Rattle.mmdb_net.specs.Bits.{zero_bits, number_of}
use Rattle.mmdb_net.proofs.BitLaws.{length-zero_bits}
use Rattle.mmdb_reader.specs.File.{Database, tree_of, width, has_ipv6, before_ipv4}
use Rattle.mmdb_tree.specs.Tree.{walk_from, walk}
use Rattle.mmdb_tree.specs.declared.record.TreeRecord.{TreeRecord}
use Rattle.mmdb_tree.specs.declared.record.TreeRecord.TheVariants.{Node, Empty, Data, Invalid}
use Rattle.mmdb_reader.specs.Lookup.{Answers, address_bits, outcome_of}
use Rattle.mmdb_reader.specs.Shown.{ipv4_start}
use Rattle.mmdb_reader.specs.Alias.{IsAlias}
use Rattle.mmdb_reader.specs.Listing.{HasValueAt}
use Rattle.mmdb_tree.specs.Stops.{stop, end_at}
use Rattle.mmdb_reader.specs.Stops.{walked_tree}
use Rattle.mmdb_reader.specs.Whole.{IsWalked, IsTopmost, HasNoFault}
use Rattle.mmdb_reader.specs.WholeLaws.{LookupsSucceed, AnsweredOffsetsAreWalked, WholeFilesAnswer, GoesOnAsIpv4, AliasesEndAsIpv4}
use Rattle.mmdb_tree.proofs.WalkLemmas.{walk-append, walk-inner, walk-past}
use Rattle.mmdb_reader.proofs.NumberLemmas.{number-below}
use Rattle.mmdb_reader.proofs.LawLemmas.{length-address_bits, answer-walk}
use Rattle.mmdb_reader.proofs.FindingLemmas.{OnNode, AtEnd, Nowhere, Value, kind_of_leaf, outcome-offset, outcome-end}
use Rattle.mmdb_tree.proofs.StopLemmas.{end_on}
use Rattle.mmdb_reader.proofs.StopLemmas.{stop_of_end}
use Rattle.mmdb_reader.proofs.WholeLemmas.{offsets_are_exact, value_good}

-- ---- bits before IPv4 are no alias

number-more : (rest : ℕ) (s t : List Bool) → number_of rest s ≤ number_of rest (s ++ t)
number-more rest [] t = omega arith
number-more zero (x ∷ s) t = omega arith
number-more (suc rest) (x ∷ s) t = let h = number-more rest s t in omega (arith, h)

number-zeros : (n rest : ℕ) (s : List Bool) → number_of (n + rest) (replicate n false ++ s) ≡ number_of rest s
number-zeros zero rest s = ap (λ (k : ℕ). number_of k s) (zero-add rest)
number-zeros (suc n) rest s =
    let e : suc n + rest ≡ suc (n + rest) = omega arith in
    ap (λ (k : ℕ). number_of k (replicate (suc n) false ++ s)) e ∙ zero-add (number_of (n + rest) (replicate n false ++ s)) ∙ number-zeros n rest s

number-ipv4 : (s : List Bool) → number_of 128 (zero_bits 96 ++ s) < 2 ^ 32
unfolding zero_bits
number-ipv4 s = omega (arith, number-zeros 96 32 s, number-below 32 s)

before-is : (db : Database) → has_ipv6 db ≡ true → before_ipv4 db ≡ zero_bits 96
before-is db six = rw six refl

no_alias-ipv4 : (db : Database) (s c d : List Bool) → has_ipv6 db ≡ true → before_ipv4 db ++ s ≡ c ++ d → ¬ IsAlias db c
no_alias-ipv4 db s c d six e h =
    let high = h.high in
    let same : zero_bits 96 ++ s ≡ c ++ d = ap (λ (b : List Bool). b ++ s) (sym (before-is db six)) ∙ e in
    omega (arith, high, number-more 128 c d, number-ipv4 s, ap (number_of 128) same)

length-before : (db : Database) → has_ipv6 db ≡ true → length (before_ipv4 db) ≡ 96
length-before db six = ap length (before-is db six) ∙ length-zero_bits 96

width-is : (db : Database) → has_ipv6 db ≡ true → width db ≡ 128
width-is db six = rw six refl

-- ---- leaves without a fault

past_nodes : (db : Database) (leaf : List Bool) → HasNoFault db → IsWalked db leaf → db.metadata.node_count ≤ walk (tree_of db) leaf
past_nodes db leaf good walked = elim (cases_lt (walk (tree_of db) leaf) db.metadata.node_count) [
  | inl on ↦ absurd (good leaf walked (inr (inl on)))
  | inr off ↦ off
]

-- each full string begins with a topmost alias or a walked leaf
stop_on : (db : Database) (s : List Bool) → length s ≡ width db → (t : List Bool) × (r : List Bool) × (s ≡ t ++ r) × (IsTopmost db t ⊎ IsWalked db t)
stop_on db s full =
    let w = end_on (walked_tree db) (width db) [] s full in
    let is = stop_of_end db (stop w.0 (end_at (walked_tree db) w.0)) w.3 in
    (w.0, w.1, w.2, elim is [ inl alias ↦ inl alias.0 | inr leaf ↦ inr leaf.0 ])

-- of two beginnings of one string, one begins the other
either_first : (a w t r : List Bool) → a ++ w ≡ t ++ r → ((u : List Bool) × (t ≡ a ++ u) × (w ≡ u ++ r)) ⊎ ((u : List Bool) × (a ≡ t ++ u))
either_first [] w t r e = inl (t, refl, e)
either_first (x ∷ a) w [] r e = inr (x ∷ a, refl)
either_first (x ∷ a) w (y ∷ t) r e =
    let first : x ≡ y = cc in
    let others : a ++ w ≡ t ++ r = cc in
    elim (either_first a w t r others) [
      | inl (u, p, q) ↦ inl (u, (let whole : y ∷ t ≡ x ∷ (a ++ u) = cc in whole), q)
      | inr (u, p) ↦ inr (u, (let whole : x ∷ a ≡ y ∷ (t ++ u) = cc in whole))
    ]

pub goes_on_as_ipv4 : GoesOnAsIpv4
goes_on_as_ipv4 db c d h = walk-append (tree_of db) 0 c d ∙ ap (λ (n : ℕ). walk_from (tree_of db) n d) h.same ∙ sym (walk-append (tree_of db) 0 (before_ipv4 db) d)

-- 32 bits after those before IPv4 begin with a walked leaf
in_ipv4 : (db : Database) (w : List Bool) → has_ipv6 db ≡ true → ipv4_start db < db.metadata.node_count → length w ≡ 32
    → (t : List Bool) × (r : List Bool) × (w ≡ t ++ r) × IsWalked db (before_ipv4 db ++ t)
in_ipv4 db w six on_node full =
    let long = length-before db six in
    let wide = width-is db six in
    let on = stop_on db (before_ipv4 db ++ w) (omega (arith, length-append (before_ipv4 db) w, long, wide, full)) in
    let walked : IsWalked db on.0 = elim on.3 [ inl alias ↦ absurd (no_alias-ipv4 db w on.0 on.1 six on.2 alias.alias) | inr leaf ↦ leaf ] in
    elim (either_first (before_ipv4 db) w on.0 on.1 on.2) [
      | inl (u, p, q) ↦ (u, on.1, q, subst (IsWalked db) p walked)
      | inr (u, p) ↦
          let inside = walk-inner (tree_of db) 0 on.0 u (omega (arith, ap (walk (tree_of db)) (sym p), on_node)) in
          absurd (elim walked.is_leaf.ended [
            | inl out ↦ omega (arith, out, inside)
            | inr all ↦ omega (arith, all, wide, ap length p, length-append on.0 u, long)
          ])
    ]

-- a node, or where a walked leaf leads
abbrev IsOfWalked : Database → ℕ → Type 0
IsOfWalked db number = (number < db.metadata.node_count) ⊎ ((t : List Bool) × IsWalked db t × (walk (tree_of db) t ≡ number))

ipv4_walked : (db : Database) (r : List Bool) → HasNoFault db → has_ipv6 db ≡ true → ipv4_start db < db.metadata.node_count → IsOfWalked db (walk (tree_of db) (before_ipv4 db ++ r))
ipv4_walked db r good six on_node = elim (cases_lt (length r) 32) [
  | inl short ↦ elim (cases_lt (walk (tree_of db) (before_ipv4 db ++ r)) db.metadata.node_count) [
    | inl inside ↦ inl inside
    | inr out ↦
        let zeros : List Bool = replicate (32 - length r) false in
        let w = in_ipv4 db (r ++ zeros) six on_node (omega (arith, length-append r zeros, length-replicate (32 - length r) false)) in
        let end = walk-past (tree_of db) 0 (before_ipv4 db ++ w.0) w.1 (past_nodes db (before_ipv4 db ++ w.0) good w.3) in
        let same : (before_ipv4 db ++ r) ++ zeros ≡ (before_ipv4 db ++ w.0) ++ w.1 = append_assoc (before_ipv4 db) r zeros ∙ ap (λ (t : List Bool). before_ipv4 db ++ t) w.2 ∙ sym (append_assoc (before_ipv4 db) w.0 w.1) in
        let stays = walk-past (tree_of db) 0 (before_ipv4 db ++ r) zeros out in
        inr (before_ipv4 db ++ w.0, w.3, sym end ∙ ap (walk (tree_of db)) (sym same) ∙ stays)
  ]
  | inr long ↦
      let w = in_ipv4 db (take 32 r) six on_node (length-take-le 32 r long) in
      let end = walk-past (tree_of db) 0 (before_ipv4 db ++ w.0) (w.1 ++ drop 32 r) (past_nodes db (before_ipv4 db ++ w.0) good w.3) in
      let whole : r ≡ w.0 ++ (w.1 ++ drop 32 r) = sym (take-append-drop 32 r) ∙ ap (λ (t : List Bool). t ++ drop 32 r) w.2 ∙ append_assoc w.0 w.1 (drop 32 r) in
      let same : before_ipv4 db ++ r ≡ (before_ipv4 db ++ w.0) ++ (w.1 ++ drop 32 r) = ap (λ (t : List Bool). before_ipv4 db ++ t) whole ∙ sym (append_assoc (before_ipv4 db) w.0 (w.1 ++ drop 32 r)) in
      inr (before_ipv4 db ++ w.0, w.3, sym end ∙ ap (walk (tree_of db)) (sym same))
]

lookups_walked : (db : Database) → HasNoFault db → (s : List Bool) → length s ≡ width db → IsOfWalked db (walk (tree_of db) s)
lookups_walked db good s full =
    let on = stop_on db s full in
    elim on.3 [
      | inl h ↦
          let alias = h.alias in
          let same = goes_on_as_ipv4 db on.0 on.1 alias in
          subst (IsOfWalked db) (sym same ∙ ap (walk (tree_of db)) (sym on.2)) (ipv4_walked db on.1 good alias.ipv6 alias.on_node)
      | inr walked ↦
          let end = walk-past (tree_of db) 0 on.0 on.1 (past_nodes db on.0 good walked) in
          inr (on.0, walked, sym end ∙ ap (walk (tree_of db)) (sym on.2))
    ]

-- what a lookup answers then: no data, or the offset of the value of a walked leaf
abbrev IsAnswerOfWalked : Database → TreeRecord → Type 0
IsAnswerOfWalked db Empty = Unit {0}
IsAnswerOfWalked db (Data offset) = (t : List Bool) × IsWalked db t × HasValueAt db t offset
IsAnswerOfWalked db Invalid = ⊥
IsAnswerOfWalked db (Node number) = ⊥

leaf_of_walked : (db : Database) (t : List Bool) → HasNoFault db → IsWalked db t → IsAnswerOfWalked db (outcome_of db (walk (tree_of db) t))
leaf_of_walked db t good walked = elim (kind_of_leaf db t) [
  | OnNode on ↦ absurd (good t walked (inr (inl on)))
  | AtEnd is ↦ subst (IsAnswerOfWalked db) (sym (outcome-end db (walk (tree_of db) t) (omega (arith, is)))) tt
  | Nowhere n ↦ absurd (good t walked (inl n))
  | Value offset v ↦ subst (IsAnswerOfWalked db) (sym (outcome-offset db (walk (tree_of db) t) offset v.leads v.inside)) (t, walked, v)
]

of_walked : (db : Database) → HasNoFault db → (address : IpAddr) (leaf : List Bool) (outcome : TreeRecord) → Answers db address leaf outcome → IsAnswerOfWalked db outcome
of_walked db good address leaf outcome at =
    let number : ℕ = walk (tree_of db) (address_bits db address) in
    let here : IsAnswerOfWalked db (outcome_of db number) = elim (lookups_walked db good (address_bits db address) (length-address_bits db address at.can_ask)) [
      | inl on ↦ subst (IsAnswerOfWalked db) (sym (outcome-end db number (omega (arith, on)))) tt
      | inr (t, walked, same) ↦ subst (λ (n : ℕ). IsAnswerOfWalked db (outcome_of db n)) same (leaf_of_walked db t good walked)
    ] in
    subst (IsAnswerOfWalked db) (answer-walk db address leaf outcome at) here

pub lookups_succeed : LookupsSucceed
lookups_succeed db good address can rejected = of_walked db good address rejected.0 Invalid rejected.1

pub answered_offsets_are_walked : AnsweredOffsetsAreWalked
answered_offsets_are_walked db good address leaf offset at = (offsets_are_exact db offset).1 (of_walked db good address leaf (Data offset) at)

pub whole_files_answer : WholeFilesAnswer
whole_files_answer db whole = record {
  lookups = lookups_succeed db whole.tree.faultless;
  values = λ address leaf offset at. value_good db offset whole.values (answered_offsets_are_walked db whole.tree.faultless address leaf offset at);
}

pub aliases_end_as_ipv4 : AliasesEndAsIpv4
aliases_end_as_ipv4 db c d good alias small full =
    let w = in_ipv4 db (take 32 d) alias.ipv6 alias.on_node (length-take-le 32 d (omega arith)) in
    let same = goes_on_as_ipv4 db c w.0 alias in
    let end = past_nodes db (before_ipv4 db ++ w.0) good w.3 in
    let wide = width-is db alias.ipv6 in
    let few : length w.0 ≤ 32 = omega (arith, ap length w.2, length-append w.0 w.1, length-take-le 32 d (omega arith)) in
    record {
      taken = w.0;
      left = w.1 ++ drop 32 d;
      parts = sym (take-append-drop 32 d) ∙ ap (λ (t : List Bool). t ++ drop 32 d) w.2 ∙ append_assoc w.0 w.1 (drop 32 d);
      few = few;
      leaf = record {
        inner = λ p x q e. elim (either_first c w.0 p (x ∷ q) e) [
          | inl (u, is, rest) ↦
              let inside = w.3.is_leaf.inner (before_ipv4 db ++ u) x q (ap (λ (t : List Bool). before_ipv4 db ++ t) rest ∙ sym (append_assoc (before_ipv4 db) u (x ∷ q))) in
              omega (arith, inside, ap (walk (tree_of db)) is, goes_on_as_ipv4 db c u alias)
          | inr (u, is) ↦ let at = alias.same in let node = alias.on_node in walk-inner (tree_of db) 0 p u (omega (arith, ap (walk (tree_of db)) (sym is), at, node))
        ];
        short = omega (arith, length-append c w.0, few, small, wide);
        ended = inl (omega (arith, same, end));
      };
      walked = w.3;
      same = same;
    }
