-- Parts and values, wherever they are in what begins with a section.
use Rattle.std.proofs.Common.{◌≡◌, ◌⊎◌, inl, inr, ℕ, suc, ◌+◌, eqb, Bool, true, false, List, [], ◌∷◌, ◌++◌, length, refl, ap, sym, ◌∙◌, subst, arith, Some, length-append}
use Rattle.std.specs.Prelude.{◌&&◌, ◌||◌, max}
use Rattle.std.specs.List.{AllByRecursion}
use Rattle.std.proofs.lemmas.Bool.{false≢true}
use Rattle.std.proofs.lemmas.Bool.Decides.{nat_tests}
use Rattle.mmdb_format.specs.Header.{header_at}
use Rattle.mmdb_format.specs.Contents.{Scalar, scalar_is_text}
use Rattle.mmdb_format.specs.Unfolding.{Tree, scalar, array, table, pointer, Trees, no_trees, tree, Pairs, no_pairs, pair, Unfolds, array_here, table_here, pointer_here, AllUnfold, none_left, one_more, PairsUnfold, no_pairs_left, one_more_pair, levels, trees_all_levels, pairs_all_levels, has_texts, trees_texts, pairs_texts, without_pointers, trees_without, pairs_without}
use Rattle.mmdb_check.specs.Checking.{leads_to, trees_lead_to, pairs_lead_to}
use Rattle.mmdb_section.specs.declared.value.Number.{Number as SpecNumber}
use Rattle.mmdb_section.specs.declared.value.Number.TheVariants as numbers
use Rattle.mmdb_section.specs.declared.value.SectionPart.{SectionPart}
use Rattle.mmdb_section.specs.declared.value.WrittenValue.{WrittenValue}
use Rattle.mmdb_section.specs.declared.value.SectionPart.TheVariants.{Number, At}
use Rattle.mmdb_section.specs.Sections.{Tile, IsTile, is_start, IsClosed, IsLaid, AreTiles, scalar_of, IsPart, AreParts, ArePairs, IsValue}
use Rattle.mmdb_section.specs.Working.{Grows, Stands, IsHeader, IsPointer, IsScalar, IsWritten, IsWrittenDirect, AreWritten, ArePairsWritten, WritesPart, WritesParts, WritesPairs, WritesArray, WritesMap, WritesValue}
use Rattle.mmdb_section.proofs.StandLemmas.{first_of, second_of}

-- ---- values of a section

pub laid_tile : (P : Tile → Type 0) (t : Tile) (ts : List Tile) → AllByRecursion P ts → IsTile t ts → P t
laid_tile P t [] all is = absurd is
laid_tile P t (u ∷ us) all (inl same) = subst P (sym same) all.0
laid_tile P t (u ∷ us) all (inr more) = laid_tile P t us all.1 more

pub and_first : (a b : Bool) → (a && b) ≡ true → a ≡ true
and_first true b h = refl
and_first false b h = h

pub and_second : (a b : Bool) → (a && b) ≡ true → b ≡ true
and_second true b h = h
and_second false b h = absurd (false≢true h)

pub or_true : (a b : Bool) → b ≡ true → (a || b) ≡ true
or_true true b h = refl
or_true false b h = h

pub or_cases : (a b : Bool) → (a || b) ≡ true → (a ≡ true) ⊎ (b ≡ true)
or_cases true b h = inl refl
or_cases false b h = inr h

pub same_start : (q p : ℕ) → q ≡ p → eqb q p ≡ true
same_start q p h = grind (arith, nat_tests)

pub starts_same : (q p : ℕ) → eqb q p ≡ true → q ≡ p
starts_same q p h = grind (arith, nat_tests)

pub start_of_tile : (t : Tile) (ts : List Tile) → IsTile t ts → is_start ts t.start ≡ true
start_of_tile t [] is = absurd is
start_of_tile t (u ∷ us) (inl same) = let e = same_start t.start u.start (ap (λ (x : Tile). x.start) same) in rw e refl
start_of_tile t (u ∷ us) (inr more) = or_true (eqb t.start u.start) (is_start us t.start) (start_of_tile t us more)

-- ---- parts

pub scalar_written : (tiles : List Tile) (section : List ℕ) (c : Scalar) (xs : List ℕ) → scalar_is_text c ≡ true → IsScalar c xs → IsWritten tiles section (scalar c) xs
scalar_written tiles section c xs utf8 is = record { t = scalar c; unfolds = λ before behind g. is before behind; value = refl; texts = utf8; closed = λ q h. absurd (false≢true h); levels = omega arith }

pub number_is_text : (n : SpecNumber) → scalar_is_text (scalar_of n) ≡ true
number_is_text (numbers.Bool b) = refl
number_is_text (numbers.I32 z) = refl
number_is_text (numbers.U16 n) = refl
number_is_text (numbers.U32 n) = refl
number_is_text (numbers.U64 n) = refl
number_is_text (numbers.U128 n) = refl
number_is_text (numbers.Double x) = refl
number_is_text (numbers.Float x) = refl

pub number_part : (n : SpecNumber) (xs : List ℕ) → IsScalar (scalar_of n) xs → WritesPart (Number n) xs
number_part n xs is tiles section v are stands = subst (λ (w : Tree). IsWritten tiles section w xs) (sym stands) (scalar_written tiles section (scalar_of n) xs (number_is_text n) is)

pointer_written : (tiles : List Tile) (section : List ℕ) (offset : ℕ) (t : Tile) (xs : List ℕ) → AreTiles tiles section → IsTile t tiles → t.start ≡ offset → IsPointer offset xs → IsWritten tiles section (without_pointers t.tree) xs
pointer_written tiles section offset t xs are is at p =
    let laid = laid_tile (IsLaid tiles section) t tiles are.each is in
    record {
      t = pointer offset t.tree;
      unfolds = λ before behind g.
          let s : List ℕ = before ++ (xs ++ behind) in
          let whole : Unfolds (before ++ (xs ++ behind)) t.start t.tree t.end = subst (λ (ys : List ℕ). Unfolds ys t.start t.tree t.end) (sym g.1) (laid.unfolds g.0) in
          let there : Unfolds (before ++ (xs ++ behind)) offset t.tree t.end = subst (λ (n : ℕ). Unfolds (before ++ (xs ++ behind)) n t.tree t.end) at whole in
          pointer_here (p.header before behind) refl (p.leads before behind) there;
      value = refl;
      texts = laid.texts;
      closed = λ q h. elim (or_cases (eqb q offset) (leads_to t.tree q) h) [
        | inl here ↦
            let same : t.start ≡ q = at ∙ sym (starts_same q offset here) in
            subst (λ (n : ℕ). is_start tiles n ≡ true) same (start_of_tile t tiles is)
        | inr below ↦ laid.closed q below
      ];
      levels = let l = laid.levels in omega arith;
    }

pub pointer_part : (offset : ℕ) (xs : List ℕ) → IsPointer offset xs → WritesPart (At offset) xs
pointer_part offset xs p tiles section v are stands = subst (λ (w : Tree). IsWritten tiles section w xs) stands.3 (pointer_written tiles section offset stands.0 xs are stands.1 stands.2 p)

-- ---- one element more

snoc_tree : Trees → Tree → Trees
snoc_tree no_trees v = tree v no_trees
snoc_tree (tree a ts) v = tree a (snoc_tree ts v)

trees_snoc : {s : List ℕ} {p n : ℕ} {ts : Trees} {q r : ℕ} {v : Tree} → AllUnfold s p n ts q → Unfolds s q v r → AllUnfold s p (suc n) (snoc_tree ts v) r
unfolding snoc_tree
trees_snoc none_left a = one_more a none_left
trees_snoc (one_more x y) a = one_more x (trees_snoc y a)

trees_without-snoc : (ts : Trees) (v : Tree) → trees_without (snoc_tree ts v) ≡ snoc_tree (trees_without ts) (without_pointers v)
unfolding snoc_tree
trees_without-snoc no_trees v = refl
trees_without-snoc (tree a ts) v = ap (tree (without_pointers a)) (trees_without-snoc ts v)

trees_texts-snoc : (ts : Trees) (v : Tree) → trees_texts ts ≡ true → has_texts v ≡ true → trees_texts (snoc_tree ts v) ≡ true
unfolding snoc_tree
trees_texts-snoc no_trees v h i = rw i refl
trees_texts-snoc (tree a ts) v h i =
    let x : has_texts a ≡ true = and_first (has_texts a) (trees_texts ts) h in
    rw x (trees_texts-snoc ts v (and_second (has_texts a) (trees_texts ts) h) i)

trees_levels-snoc : (ts : Trees) (v : Tree) → trees_all_levels (snoc_tree ts v) ≡ max (trees_all_levels ts) (levels v)
unfolding snoc_tree
trees_levels-snoc no_trees v = omega arith
trees_levels-snoc (tree a ts) v = let e = trees_levels-snoc ts v in omega arith

trees_closed-snoc : (tiles : List Tile) (ts : Trees) (v : Tree) → ((q : ℕ) → trees_lead_to ts q ≡ true → is_start tiles q ≡ true) → IsClosed tiles v → (q : ℕ) → trees_lead_to (snoc_tree ts v) q ≡ true → is_start tiles q ≡ true
unfolding snoc_tree
trees_closed-snoc tiles no_trees v h i q lead = elim (or_cases (leads_to v q) false lead) [ inl value ↦ i q value | inr none ↦ absurd (false≢true none) ]
trees_closed-snoc tiles (tree a ts) v h i q lead = elim (or_cases (leads_to a q) (trees_lead_to (snoc_tree ts v) q) lead) [
  | inl first ↦ h q (rw first refl)
  | inr last ↦ trees_closed-snoc tiles ts v (λ r l. h r (or_true (leads_to a r) (trees_lead_to ts r) l)) i q last
]

-- all parts but the last, and the last one
record EndsInPart (tiles : List Tile) (ps : List SectionPart) (p : SectionPart) (vs : Trees) : Type 0 where
  front : Trees
  value : Tree
  whole : vs ≡ snoc_tree front value
  before : AreParts tiles ps front
  value_is : IsPart tiles p value

ends_in_part : (tiles : List Tile) (ps : List SectionPart) (p : SectionPart) (vs : Trees) → AreParts tiles (ps ++ p ∷ []) vs → EndsInPart tiles ps p vs
unfolding snoc_tree
ends_in_part tiles [] p no_trees h = absurd h
ends_in_part tiles [] p (tree v no_trees) h = record { front = no_trees; value = v; whole = refl; before = tt; value_is = h.0 }
ends_in_part tiles [] p (tree v (tree a vs)) h = absurd h.1
ends_in_part tiles (x ∷ xs) p no_trees h = absurd h
ends_in_part tiles (x ∷ xs) p (tree v vs) h =
    let e = ends_in_part tiles xs p vs h.1 in
    record { front = tree v e.front; value = e.value; whole = ap (tree v) e.whole; before = (h.0, e.before); value_is = e.value_is }

pub no_parts : WritesParts [] []
no_parts tiles section no_trees are parts = record {
  ts = no_trees;
  unfolds = λ before behind g. let e : length before ≡ length before + 0 = omega arith in subst (λ (q : ℕ). AllUnfold (before ++ behind) (length before) 0 no_trees q) e none_left;
  value = refl;
  texts = refl;
  closed = λ q h. absurd (false≢true h);
  levels = omega arith;
}
no_parts tiles section (tree v vs) are parts = absurd parts

count_snoc : {X : Type 0} (ps : List X) (p : X) → suc (length ps) ≡ length (ps ++ p ∷ [])
count_snoc ps p = let e = length-append ps (p ∷ []) in omega arith

one_more_part : (tiles : List Tile) (section : List ℕ) (n : ℕ) (vs : Trees) (v : Tree) (xs ys : List ℕ) → AreWritten tiles section n vs xs → IsWritten tiles section v ys → AreWritten tiles section (suc n) (snoc_tree vs v) (xs ++ ys)
one_more_part tiles section n vs v xs ys a w = record {
  ts = snoc_tree a.ts w.t;
  unfolds = λ before behind g.
      trees_snoc (first_of (λ s p q. Grows section s → AllUnfold s p n a.ts q) xs ys a.unfolds before behind g)
      (second_of (λ s p q. Grows section s → Unfolds s p w.t q) xs ys w.unfolds before behind g);
  value = trees_without-snoc a.ts w.t ∙ ap (λ (us : Trees). snoc_tree us (without_pointers w.t)) a.value ∙ ap (snoc_tree vs) w.value;
  texts = trees_texts-snoc a.ts w.t a.texts w.texts;
  closed = trees_closed-snoc tiles a.ts w.t a.closed w.closed;
  levels =
      let e = trees_levels-snoc a.ts w.t in let f = trees_levels-snoc vs v in
      let g = a.levels in let h = w.levels in
      omega arith;
}

pub more_parts : (ps : List SectionPart) (p : SectionPart) (xs ys : List ℕ) → WritesParts ps xs → WritesPart p ys → WritesParts (ps ++ p ∷ []) (xs ++ ys)
more_parts ps p xs ys a w tiles section vs are parts =
    let e = ends_in_part tiles ps p vs parts in
    let one = one_more_part tiles section (length ps) e.front e.value xs ys (a tiles section e.front are e.before) (w tiles section e.value are e.value_is) in
    subst (λ (n : ℕ). AreWritten tiles section n vs (xs ++ ys)) (count_snoc ps p) (subst (λ (us : Trees). AreWritten tiles section (suc (length ps)) us (xs ++ ys)) (sym e.whole) one)

-- an array of values that are written
pub array_of : (tiles : List Tile) (section : List ℕ) (n : ℕ) (vs : Trees) (xs ys : List ℕ) → IsHeader 11 n xs → AreWritten tiles section n vs ys → IsWrittenDirect tiles section (array vs) (xs ++ ys)
array_of tiles section n vs xs ys header w = record {
  written = record {
    t = array w.ts;
    unfolds = λ before behind g.
        array_here (first_of (λ s p q. header_at s p ≡ Some (record { kind = 11; size = n; body = q })) xs ys header before behind) refl
        (second_of (λ s p q. Grows section s → AllUnfold s p n w.ts q) xs ys w.unfolds before behind g);
    value = ap array w.value;
    texts = w.texts;
    closed = w.closed;
    levels = let l = w.levels in omega arith;
  };
  direct = refl;
  levels = let l = w.levels in omega arith;
}

pub array_written : (ps : List SectionPart) (xs ys : List ℕ) → IsHeader 11 (length ps) xs → WritesParts ps ys → WritesArray ps (xs ++ ys)
array_written ps xs ys header a tiles section vs are parts = array_of tiles section (length ps) vs xs ys header (a tiles section vs are parts)

-- a first element
pub first_part : (tiles : List Tile) (section : List ℕ) (n : ℕ) (v : Tree) (vs : Trees) (xs ys : List ℕ) → IsWritten tiles section v xs → AreWritten tiles section n vs ys → AreWritten tiles section (suc n) (tree v vs) (xs ++ ys)
first_part tiles section n v vs xs ys w a = record {
  ts = tree w.t a.ts;
  unfolds = λ before behind g.
      one_more (first_of (λ s p q. Grows section s → Unfolds s p w.t q) xs ys w.unfolds before behind g)
      (second_of (λ s p q. Grows section s → AllUnfold s p n a.ts q) xs ys a.unfolds before behind g);
  value = ap (λ (u : Tree). tree u (trees_without a.ts)) w.value ∙ ap (tree v) a.value;
  levels = let g = a.levels in let h = w.levels in omega arith;
  texts = (let e = w.texts in let f = a.texts in rw (e, f) refl);
  closed = λ q h. elim (or_cases (leads_to w.t q) (trees_lead_to a.ts q) h) [ inl first ↦ w.closed q first | inr more ↦ a.closed q more ];
}

-- ---- one pair more

snoc_pair : Pairs → Tree → Tree → Pairs
snoc_pair no_pairs k v = pair k v no_pairs
snoc_pair (pair a b ps) k v = pair a b (snoc_pair ps k v)

pairs_snoc : {s : List ℕ} {p n : ℕ} {ps : Pairs} {q r e : ℕ} {k v : Tree} → PairsUnfold s p n ps q → Unfolds s q k r → Unfolds s r v e → PairsUnfold s p (suc n) (snoc_pair ps k v) e
unfolding snoc_pair
pairs_snoc no_pairs_left a b = one_more_pair a b no_pairs_left
pairs_snoc (one_more_pair x y z) a b = one_more_pair x y (pairs_snoc z a b)

pairs_without-snoc : (ps : Pairs) (k v : Tree) → pairs_without (snoc_pair ps k v) ≡ snoc_pair (pairs_without ps) (without_pointers k) (without_pointers v)
unfolding snoc_pair
pairs_without-snoc no_pairs k v = refl
pairs_without-snoc (pair a b ps) k v = ap (pair (without_pointers a) (without_pointers b)) (pairs_without-snoc ps k v)

pairs_texts-snoc : (ps : Pairs) (k v : Tree) → pairs_texts ps ≡ true → has_texts k ≡ true → has_texts v ≡ true → pairs_texts (snoc_pair ps k v) ≡ true
unfolding snoc_pair
pairs_texts-snoc no_pairs k v h i j = rw (i, j) refl
pairs_texts-snoc (pair a b ps) k v h i j =
    let x : has_texts a ≡ true = and_first (has_texts a) (has_texts b && pairs_texts ps) h in
    let y : (has_texts b && pairs_texts ps) ≡ true = and_second (has_texts a) (has_texts b && pairs_texts ps) h in
    let z : has_texts b ≡ true = and_first (has_texts b) (pairs_texts ps) y in
    let w : pairs_texts ps ≡ true = and_second (has_texts b) (pairs_texts ps) y in
    rw (x, z) (pairs_texts-snoc ps k v w i j)

pairs_levels-snoc : (ps : Pairs) (k v : Tree) → pairs_all_levels (snoc_pair ps k v) ≡ max (pairs_all_levels ps) (max (levels k) (levels v))
unfolding snoc_pair
pairs_levels-snoc no_pairs k v = omega arith
pairs_levels-snoc (pair a b ps) k v = let e = pairs_levels-snoc ps k v in omega arith

pairs_closed-snoc : (tiles : List Tile) (ps : Pairs) (k v : Tree) → ((q : ℕ) → pairs_lead_to ps q ≡ true → is_start tiles q ≡ true) → IsClosed tiles k → IsClosed tiles v → (q : ℕ) → pairs_lead_to (snoc_pair ps k v) q ≡ true → is_start tiles q ≡ true
unfolding snoc_pair
pairs_closed-snoc tiles no_pairs k v h i j q lead = elim (or_cases (leads_to k q) (leads_to v q || false) lead) [
  | inl key ↦ i q key
  | inr more ↦ elim (or_cases (leads_to v q) false more) [ inl value ↦ j q value | inr none ↦ absurd (false≢true none) ]
]
pairs_closed-snoc tiles (pair a b ps) k v h i j q lead = elim (or_cases (leads_to a q) (leads_to b q || pairs_lead_to (snoc_pair ps k v) q) lead) [
  | inl key ↦ h q (rw key refl)
  | inr more ↦ elim (or_cases (leads_to b q) (pairs_lead_to (snoc_pair ps k v) q) more) [
    | inl value ↦ h q (or_true (leads_to a q) (leads_to b q || pairs_lead_to ps q) (rw value refl))
    | inr last ↦ pairs_closed-snoc tiles ps k v (λ r l. h r (or_true (leads_to a r) (leads_to b r || pairs_lead_to ps r) (or_true (leads_to b r) (pairs_lead_to ps r) l))) i j q last
  ]
]

-- all pairs but the last, and the last one
record EndsInPair (tiles : List Tile) (ps : List (SectionPart × SectionPart)) (p : SectionPart × SectionPart) (vs : Pairs) : Type 0 where
  front : Pairs
  key : Tree
  value : Tree
  whole : vs ≡ snoc_pair front key value
  before : ArePairs tiles ps front
  key_is : IsPart tiles p.0 key
  value_is : IsPart tiles p.1 value

ends_in_pair : (tiles : List Tile) (ps : List (SectionPart × SectionPart)) (p : SectionPart × SectionPart) (vs : Pairs) → ArePairs tiles (ps ++ p ∷ []) vs → EndsInPair tiles ps p vs
unfolding snoc_pair
ends_in_pair tiles [] p no_pairs h = absurd h
ends_in_pair tiles [] p (pair k v no_pairs) h = record { front = no_pairs; key = k; value = v; whole = refl; before = tt; key_is = h.0; value_is = h.1 }
ends_in_pair tiles [] p (pair k v (pair a b vs)) h = absurd h.2
ends_in_pair tiles (x ∷ xs) p no_pairs h = absurd h
ends_in_pair tiles (x ∷ xs) p (pair k v vs) h =
    let e = ends_in_pair tiles xs p vs h.2 in
    record { front = pair k v e.front; key = e.key; value = e.value; whole = ap (pair k v) e.whole; before = (h.0, h.1, e.before); key_is = e.key_is; value_is = e.value_is }

pub no_pairs_written : WritesPairs [] []
no_pairs_written tiles section no_pairs are pairs = record {
  ps = no_pairs;
  unfolds = λ before behind g. let e : length before ≡ length before + 0 = omega arith in subst (λ (q : ℕ). PairsUnfold (before ++ behind) (length before) 0 no_pairs q) e no_pairs_left;
  value = refl;
  texts = refl;
  closed = λ q h. absurd (false≢true h);
  levels = omega arith;
}
no_pairs_written tiles section (pair k v vs) are pairs = absurd pairs

-- pairs and a key unfold from one offset to another
abbrev HasKey : List ℕ → ℕ → Pairs → Tree → List ℕ → ℕ → ℕ → Type 0
HasKey section n ps k s p q = Grows section s → (r : ℕ) × PairsUnfold s p n ps r × Unfolds s r k q

has_key : (tiles : List Tile) (section : List ℕ) (n : ℕ) (vs : Pairs) (k : Tree) (xs ys : List ℕ) (a : ArePairsWritten tiles section n vs xs) (key : IsWritten tiles section k ys) → Stands (HasKey section n a.ps key.t) (xs ++ ys)
has_key tiles section n vs k xs ys a key before behind g = (
  length before + length xs,
  first_of (λ s p q. Grows section s → PairsUnfold s p n a.ps q) xs ys a.unfolds before behind g,
  second_of (λ s p q. Grows section s → Unfolds s p key.t q) xs ys key.unfolds before behind g,
)

one_more_pair_written : (tiles : List Tile) (section : List ℕ) (n : ℕ) (vs : Pairs) (k v : Tree) (xs ys zs : List ℕ) → ArePairsWritten tiles section n vs xs → IsWritten tiles section k ys → IsWritten tiles section v zs
    → ArePairsWritten tiles section (suc n) (snoc_pair vs k v) ((xs ++ ys) ++ zs)
one_more_pair_written tiles section n vs k v xs ys zs a key value = record {
  ps = snoc_pair a.ps key.t value.t;
  unfolds = λ before behind g.
      let first = first_of (HasKey section n a.ps key.t) (xs ++ ys) zs (has_key tiles section n vs k xs ys a key) before behind g in
      pairs_snoc first.1 first.2 (second_of (λ s p q. Grows section s → Unfolds s p value.t q) (xs ++ ys) zs value.unfolds before behind g);
  value = pairs_without-snoc a.ps key.t value.t ∙ ap (λ (x : Pairs). snoc_pair x (without_pointers key.t) (without_pointers value.t)) a.value
      ∙ ap (λ (x : Tree). snoc_pair vs x (without_pointers value.t)) key.value ∙ ap (snoc_pair vs k) value.value;
  texts = pairs_texts-snoc a.ps key.t value.t a.texts key.texts value.texts;
  closed = pairs_closed-snoc tiles a.ps key.t value.t a.closed key.closed value.closed;
  levels =
      let e = pairs_levels-snoc a.ps key.t value.t in let f = pairs_levels-snoc vs k v in
      let g = a.levels in let h = key.levels in let i = value.levels in
      omega arith;
}

-- the pairs so far and a key, in their bytes
abbrev pub WritesKey : List (SectionPart × SectionPart) → SectionPart → List ℕ → Type 0
WritesKey ps k zs = (xs : List ℕ) × (ys : List ℕ) × (zs ≡ xs ++ ys) × WritesPairs ps xs × WritesPart k ys

pub more_key : (ps : List (SectionPart × SectionPart)) (k : SectionPart) (xs ys : List ℕ) → WritesPairs ps xs → WritesPart k ys → WritesKey ps k (xs ++ ys)
more_key ps k xs ys a w = (xs, ys, refl, a, w)

pub more_pairs : (ps : List (SectionPart × SectionPart)) (p : SectionPart × SectionPart) (xs zs : List ℕ) → WritesKey ps p.0 xs → WritesPart p.1 zs → WritesPairs (ps ++ p ∷ []) (xs ++ zs)
more_pairs ps p xs zs key w tiles section vs are pairs =
    let e = ends_in_pair tiles ps p vs pairs in
    let one = one_more_pair_written tiles section (length ps) e.front e.key e.value key.0 key.1 zs (key.3 tiles section e.front are e.before) (key.4 tiles section e.key are e.key_is) (w tiles section e.value are e.value_is) in
    let same : (key.0 ++ key.1) ++ zs ≡ xs ++ zs = ap (λ (ys : List ℕ). ys ++ zs) (sym key.2) in
    subst (ArePairsWritten tiles section (length (ps ++ p ∷ [])) vs) same
    (subst (λ (n : ℕ). ArePairsWritten tiles section n vs ((key.0 ++ key.1) ++ zs)) (count_snoc ps p)
    (subst (λ (us : Pairs). ArePairsWritten tiles section (suc (length ps)) us ((key.0 ++ key.1) ++ zs)) (sym e.whole) one))

-- a map of pairs that are written
pub map_of : (tiles : List Tile) (section : List ℕ) (n : ℕ) (vs : Pairs) (xs ys : List ℕ) → IsHeader 7 n xs → ArePairsWritten tiles section n vs ys → IsWrittenDirect tiles section (table vs) (xs ++ ys)
map_of tiles section n vs xs ys header w = record {
  written = record {
    t = table w.ps;
    unfolds = λ before behind g.
        table_here (first_of (λ s p q. header_at s p ≡ Some (record { kind = 7; size = n; body = q })) xs ys header before behind) refl
        (second_of (λ s p q. Grows section s → PairsUnfold s p n w.ps q) xs ys w.unfolds before behind g);
    value = ap table w.value;
    texts = w.texts;
    closed = w.closed;
    levels = let l = w.levels in omega arith;
  };
  direct = refl;
  levels = let l = w.levels in omega arith;
}

pub map_written : (ps : List (SectionPart × SectionPart)) (xs ys : List ℕ) → IsHeader 7 (length ps) xs → WritesPairs ps ys → WritesMap ps (xs ++ ys)
map_written ps xs ys header a tiles section vs are pairs = map_of tiles section (length ps) vs xs ys header (a tiles section vs are pairs)

-- a key and a value unfold from one offset to another
abbrev IsPair : List ℕ → Tree → Tree → List ℕ → ℕ → ℕ → Type 0
IsPair section k v s p q = Grows section s → (r : ℕ) × Unfolds s p k r × Unfolds s r v q

is_pair : (tiles : List Tile) (section : List ℕ) (k v : Tree) (xs ys : List ℕ) (key : IsWritten tiles section k xs) (value : IsWritten tiles section v ys) → Stands (IsPair section key.t value.t) (xs ++ ys)
is_pair tiles section k v xs ys key value before behind g = (
  length before + length xs,
  first_of (λ s p q. Grows section s → Unfolds s p key.t q) xs ys key.unfolds before behind g,
  second_of (λ s p q. Grows section s → Unfolds s p value.t q) xs ys value.unfolds before behind g,
)

-- a first pair
pub first_pair : (tiles : List Tile) (section : List ℕ) (n : ℕ) (k v : Tree) (vs : Pairs) (xs ys zs : List ℕ) → IsWritten tiles section k xs → IsWritten tiles section v ys → ArePairsWritten tiles section n vs zs
    → ArePairsWritten tiles section (suc n) (pair k v vs) ((xs ++ ys) ++ zs)
first_pair tiles section n k v vs xs ys zs key value a = record {
  ps = pair key.t value.t a.ps;
  unfolds = λ before behind g.
      let first = first_of (IsPair section key.t value.t) (xs ++ ys) zs (is_pair tiles section k v xs ys key value) before behind g in
      one_more_pair first.1 first.2 (second_of (λ s p q. Grows section s → PairsUnfold s p n a.ps q) (xs ++ ys) zs a.unfolds before behind g);
  value = ap (λ (u : Tree). pair u (without_pointers value.t) (pairs_without a.ps)) key.value ∙ ap (λ (u : Tree). pair k u (pairs_without a.ps)) value.value ∙ ap (pair k v) a.value;
  levels = let g = a.levels in let h = key.levels in let i = value.levels in omega arith;
  texts = (let d = key.texts in let e = value.texts in let f = a.texts in rw (d, e, f) refl);
  closed = λ q h. elim (or_cases (leads_to key.t q) (leads_to value.t q || pairs_lead_to a.ps q) h) [
    | inl first ↦ key.closed q first
    | inr more ↦ elim (or_cases (leads_to value.t q) (pairs_lead_to a.ps q) more) [ inl second ↦ value.closed q second | inr last ↦ a.closed q last ]
  ];
}

-- ---- values

pub value_written : (tiles : List Tile) (section : List ℕ) (c : Scalar) (v : Tree) (xs : List ℕ) → scalar_is_text c ≡ true → IsScalar c xs → v ≡ scalar c → IsWrittenDirect tiles section v xs
unfolding scalar_written
value_written tiles section c v xs utf8 is same = subst (λ (w : Tree). IsWrittenDirect tiles section w xs) (sym same) (record { written = scalar_written tiles section c xs utf8 is; direct = refl; levels = omega arith })

pub scalar_value : (value : WrittenValue) (c : Scalar) (xs : List ℕ) → ((tiles : List Tile) (v : Tree) → IsValue tiles value v → v ≡ scalar c) → scalar_is_text c ≡ true → IsScalar c xs → WritesValue value xs
scalar_value value c xs f utf8 is tiles section v are stands = value_written tiles section c v xs utf8 is (f tiles v stands)

pub array_value : (value : WrittenValue) (parts : List SectionPart) (xs : List ℕ) → ((tiles : List Tile) (v : Tree) → IsValue tiles value v → (vs : Trees) × AreParts tiles parts vs × (v ≡ array vs)) → WritesArray parts xs → WritesValue value xs
array_value value parts xs f w tiles section v are stands =
    let e = f tiles v stands in
    subst (λ (u : Tree). IsWrittenDirect tiles section u xs) (sym e.2) (w tiles section e.0 are e.1)

pub map_value : (value : WrittenValue) (pairs : List (SectionPart × SectionPart)) (xs : List ℕ) → ((tiles : List Tile) (v : Tree) → IsValue tiles value v → (vs : Pairs) × ArePairs tiles pairs vs × (v ≡ table vs)) → WritesMap pairs xs → WritesValue value xs
map_value value pairs xs f w tiles section v are stands =
    let e = f tiles v stands in
    subst (λ (u : Tree). IsWrittenDirect tiles section u xs) (sym e.2) (w tiles section e.0 are e.1)
