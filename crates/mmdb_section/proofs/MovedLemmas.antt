-- A section that is moved value by value.
use Rattle.std.proofs.Common.{◌≡◌, ◌⊎◌, inl, inr, ℕ, zero, suc, ◌-◌, ◌<◌, ◌≤◌, true, List, [], ◌∷◌, ◌++◌, length, get_or, Some, refl, ap, sym, ◌∙◌, subst, arith, append-nil, append_assoc, Vec}
use Rattle.std.specs.Prelude.{◌&&◌}
use Rattle.std.specs.Global.{Global}
use Rattle.std.specs.List.{slice_get}
use Rattle.std.proofs.lemmas.Bool.{cases_lt}
use Rattle.std.proofs.lemmas.List.Sorted.{IsNonDecreasingBy-push, IsNonDecreasingBy-short}
use Rattle.std.proofs.lemmas.Option.{slice_get-get_or, get_or_from_slice_get, slice_get_within}
use Rattle.mmdb_format.specs.declared.header.Header.{Header}
use Rattle.mmdb_format.specs.declared.header.Pointer.{Pointer}
use Rattle.mmdb_format.specs.Header.{header_at}
use Rattle.mmdb_format.specs.Pointer.{pointer_at}
use Rattle.mmdb_format.specs.Contents.{scalar_is_text}
use Rattle.mmdb_format.specs.Unfolding.{Tree, scalar, array, table, pointer, Trees, no_trees, tree, Pairs, no_pairs, pair, Unfolds, scalar_here, array_here, table_here, pointer_here, AllUnfold, none_left, one_more, PairsUnfold, no_pairs_left, one_more_pair, has_texts, trees_texts, pairs_texts, without_pointers, trees_without, pairs_without}
use Rattle.mmdb_format.proofs.UnfoldingLaws.{no_content_of_pointer, no_content_of_table, no_content_of_array, same_some, one_tree}
use Rattle.mmdb_section.specs.declared.moved.Moved.{Moved}
use Rattle.mmdb_section.specs.declared.moved.MovedSection.{MovedSection}
use Rattle.mmdb_section.specs.declared.moved.Place.{Place}
use Rattle.mmdb_section.specs.declared.moved.Place.TheVariants as places
use Rattle.mmdb_section.specs.declared.value.SectionPart.TheVariants.{At}
use Rattle.mmdb_section.specs.Moved.{HasPlace, MovesTo, AreInOrder, ComesFrom, IsMoved, NoneTwice}
use Rattle.mmdb_section.specs.MovedWorking.{IsAt, ArePlaced, Replaces, MovesScalar, MovesPart, MovesParts, MovesPairs, MovesValue, Places, IsMovedTo, IsMovedBefore, TakesValue}
use Rattle.mmdb_section.specs.Sections.{Tile, IsChain, IsTile, is_start, IsLaid, AreTiles, IsPart}
use Rattle.mmdb_section.specs.Working.{IsHeader, IsPointer, IsWritten, IsWrittenDirect, AreWritten, ArePairsWritten}
use Rattle.mmdb_section.proofs.WriteLemmas.{laid_tile, and_first, and_second, or_true, same_start, value_written, pointer_part, no_parts, no_pairs_written, first_part, first_pair, array_of, map_of}
use Rattle.mmdb_section.proofs.SectionLemmas.{earlier_start, added, more_tiles, added_part}
use Rattle.mmdb_section.proofs.CostLemmas.{own_fits}
use Rattle.mmdb_section.proofs.AllowanceLemmas.{Found, tree_at, tile_at, unfolds_here, own_positive}

-- ---- what a header in the section says of what unfolds there

-- the tree is a pointer to this offset, and ends before another
record Leads (s : List ℕ) (to : Pointer) (t : Tree) (q : ℕ) : Type 0 where
  u : Tree
  r : ℕ
  is : t ≡ pointer to.target u
  ends : to.next ≡ q
  there : Unfolds s to.target u r

leads : {s : List ℕ} {p : ℕ} {t : Tree} {q : ℕ} {header : Header} {to : Pointer} → header_at s p ≡ Some header → header.kind ≡ 1 → pointer_at s header.body header.size ≡ Some to → Unfolds s p t q → Leads s to t q
leads {s = s} {header = x} at kind leading (scalar_here {header = y} h k) = let e = same_some _ _ _ at h in let n : y.kind ≡ 1 = cc in let m = no_content_of_pointer s y n in absurd (cc)
leads {header = x} at kind leading (array_here {header = y} h k a) = let e = same_some _ _ _ at h in let n : y.kind ≡ 1 = cc in absurd (cc)
leads {header = x} at kind leading (table_here {header = y} h k a) = let e = same_some _ _ _ at h in let n : y.kind ≡ 1 = cc in absurd (cc)
leads {s = s} {to = to} at kind leading (pointer_here {q = r} {t = u} {header = y} {to = other} h k o a) =
    let e = same_some _ _ _ at h in
    let f : to ≡ other = let g = ap (λ (z : Header). pointer_at s z.body z.size) e in cc in
    record { u = u; r = r; is = ap (λ (z : Pointer). pointer z.target u) (sym f); ends = ap (λ (z : Pointer). z.next) f; there = subst (λ (z : Pointer). Unfolds s z.target u r) (sym f) a }

elements_of : {s : List ℕ} {p : ℕ} {t : Tree} {q : ℕ} {header : Header} → header_at s p ≡ Some header → header.kind ≡ 11 → Unfolds s p t q → (ts : Trees) × (t ≡ array ts) × AllUnfold s header.body header.size ts q
elements_of {s = s} at kind (scalar_here {header = y} h k) = let e = same_some _ _ _ at h in let n : y.kind ≡ 11 = cc in let m = no_content_of_array s y n in absurd (cc)
elements_of {s = s} at kind (array_here {q = q} {ts = ts} {header = y} h k a) = let e = same_some _ _ _ at h in (ts, refl, subst (λ (z : Header). AllUnfold s z.body z.size ts q) (sym e) a)
elements_of at kind (table_here {header = y} h k a) = let e = same_some _ _ _ at h in let n : y.kind ≡ 11 = cc in absurd (cc)
elements_of at kind (pointer_here {header = y} h k o a) = let e = same_some _ _ _ at h in let n : y.kind ≡ 11 = cc in absurd (cc)

pairs_of : {s : List ℕ} {p : ℕ} {t : Tree} {q : ℕ} {header : Header} → header_at s p ≡ Some header → header.kind ≡ 7 → Unfolds s p t q → (ps : Pairs) × (t ≡ table ps) × PairsUnfold s header.body header.size ps q
pairs_of {s = s} at kind (scalar_here {header = y} h k) = let e = same_some _ _ _ at h in let n : y.kind ≡ 7 = cc in let m = no_content_of_table s y n in absurd (cc)
pairs_of at kind (array_here {header = y} h k a) = let e = same_some _ _ _ at h in let n : y.kind ≡ 7 = cc in absurd (cc)
pairs_of {s = s} at kind (table_here {q = q} {ps = ps} {header = y} h k a) = let e = same_some _ _ _ at h in (ps, refl, subst (λ (z : Header). PairsUnfold s z.body z.size ps q) (sym e) a)
pairs_of at kind (pointer_here {header = y} h k o a) = let e = same_some _ _ _ at h in let n : y.kind ≡ 7 = cc in absurd (cc)

-- ---- parts

pub by_pointer : (moved : List Moved) (from to : ℕ) (xs : List ℕ) → HasPlace moved from (places.At to) → IsPointer to xs → Replaces moved from xs
by_pointer moved from to xs has is section now bytes are placed t q there texts = pointer_part to xs is now bytes (without_pointers t) are (placed from (places.At to) has t q there texts)

pub by_line : (moved : List Moved) (from : ℕ) (line : Vec ℕ Global) (xs : List ℕ) → HasPlace moved from (places.InLine line) → line.items ≡ xs → Replaces moved from xs
by_line moved from line xs has is section now bytes are placed t q there texts =
    subst (IsWritten now bytes (without_pointers t)) is (placed from (places.InLine line) has t q there texts).written

module _ (section : List ℕ) (moved : List Moved) where
  scalar_direct : (at : ℕ) (header : Header) (end : ℕ) (xs : List ℕ) → header_at section at ≡ Some header → MovesScalar section header end xs → MovesValue section moved at end xs
  scalar_direct at header end xs head m now bytes are placed t q there texts =
      let same = one_tree there (scalar_here head m.there) in
      let utf8 : scalar_is_text m.content ≡ true = sym (ap has_texts same.0) ∙ texts in (
        m.ends ∙ sym same.1,
        subst (λ (u : Tree). IsWrittenDirect now bytes (without_pointers u) xs) (sym same.0) (value_written now bytes m.content (scalar m.content) xs utf8 m.is refl),
      )

  pub scalar_part : (at : ℕ) (header : Header) (end : ℕ) (xs : List ℕ) → header_at section at ≡ Some header → MovesScalar section header end xs → MovesPart section moved at end xs
  scalar_part at header end xs head m now bytes are placed t q there texts = let w = scalar_direct at header end xs head m now bytes are placed t q there texts in (w.0, w.1.written)

  pub scalar_moved : (at : ℕ) (header : Header) (end : ℕ) (xs : List ℕ) → header_at section at ≡ Some header → MovesScalar section header end xs → MovesValue section moved at end xs
  scalar_moved = scalar_direct

  pub pointer_moved : (at : ℕ) (header : Header) (to : Pointer) (xs : List ℕ) → header_at section at ≡ Some header → header.kind ≡ 1 → pointer_at section header.body header.size ≡ Some to → Replaces moved to.target xs → MovesPart section moved at to.next xs
  pointer_moved at header to xs head kind leading r now bytes are placed t q there texts =
      let l = leads head kind leading there in
      let w = r section now bytes are placed l.u l.r l.there (sym (ap has_texts l.is) ∙ texts) in
      (l.ends, subst (λ (u : Tree). IsWritten now bytes (without_pointers u) xs) (sym l.is) w)

  -- ---- parts one after the other

  -- Of the values from an offset on so many are left from another on, and with the bytes of those all are written.
  pub record ArePartsLeft (now : List Tile) (bytes : List ℕ) (n : ℕ) (ts : Trees) (q at left : ℕ) (xs : List ℕ) : Type 0 where
    pub rest : Trees
    pub there : AllUnfold section at left rest q
    pub texts : trees_texts rest ≡ true
    pub with_rest : (ys : List ℕ) → AreWritten now bytes left (trees_without rest) ys → AreWritten now bytes n (trees_without ts) (xs ++ ys)

  abbrev pub MovesFirst : ℕ → ℕ → ℕ → ℕ → List ℕ → Type 0
  MovesFirst from n at left xs = (now : List Tile) (bytes : List ℕ) → AreTiles now bytes → ArePlaced section moved now bytes
      → (ts : Trees) (q : ℕ) → AllUnfold section from n ts q → trees_texts ts ≡ true → ArePartsLeft now bytes n ts q at left xs

  pub none_first : (from n : ℕ) → MovesFirst from n from n []
  none_first from n now bytes are placed ts q there texts = record { rest = ts; there = there; texts = texts; with_rest = λ ys w. w }

  one_first : (now : List Tile) (bytes : List ℕ) → AreTiles now bytes → ArePlaced section moved now bytes → (n : ℕ) (ts : Trees) (q at left : ℕ) (xs : List ℕ) (rest : Trees) → AllUnfold section at (suc left) rest q → trees_texts rest ≡ true
      → ((ys : List ℕ) → AreWritten now bytes (suc left) (trees_without rest) ys → AreWritten now bytes n (trees_without ts) (xs ++ ys))
      → (end : ℕ) (zs : List ℕ) → MovesPart section moved at end zs → ArePartsLeft now bytes n ts q end left (xs ++ zs)
  one_first now bytes are placed n ts q at left xs no_trees x texts cont end zs part = elim x [ ]
  one_first now bytes are placed n ts q at left xs (tree t rest) (one_more {n = m} a b) texts cont end zs part =
      let first : has_texts t ≡ true = and_first (has_texts t) (trees_texts rest) texts in
      let w = part now bytes are placed t _ a first in
      record {
        rest = rest;
        there = subst (λ (p : ℕ). AllUnfold section p left rest q) (sym w.0) b;
        texts = and_second (has_texts t) (trees_texts rest) texts;
        with_rest = λ ys others.
            subst (AreWritten now bytes n (trees_without ts)) (sym (append_assoc xs zs ys))
            (cont (zs ++ ys) (first_part now bytes left (without_pointers t) (trees_without rest) zs ys w.1 others));
      }

  pub next_first : (from n at left end : ℕ) (xs zs : List ℕ) → MovesFirst from n at (suc left) xs → MovesPart section moved at end zs → MovesFirst from n end left (xs ++ zs)
  next_first from n at left end xs zs before part now bytes are placed ts q there texts =
      let h = before now bytes are placed ts q there texts in
      one_first now bytes are placed n ts q at left xs h.rest h.there h.texts h.with_rest end zs part

  none_left_of : {p q : ℕ} {ts : Trees} → AllUnfold section p 0 ts q → (p ≡ q) × (ts ≡ no_trees)
  none_left_of none_left = (refl, refl)

  pub all_first : (from n at : ℕ) (xs : List ℕ) → MovesFirst from n at 0 xs → MovesParts section moved from n at xs
  all_first from n at xs before now bytes are placed ts q there texts =
      let h = before now bytes are placed ts q there texts in
      let none = none_left_of h.there in
      let nothing : AreWritten now bytes 0 no_trees [] = no_parts now bytes no_trees are tt in
      let whole = h.with_rest [] (subst (λ (us : Trees). AreWritten now bytes 0 (trees_without us) []) (sym none.1) nothing) in
      (none.0, subst (AreWritten now bytes n (trees_without ts)) (append-nil xs) whole)

  -- ---- pairs one after the other

  pub record ArePairsLeft (now : List Tile) (bytes : List ℕ) (n : ℕ) (ps : Pairs) (q at left : ℕ) (xs : List ℕ) : Type 0 where
    pub rest : Pairs
    pub there : PairsUnfold section at left rest q
    pub texts : pairs_texts rest ≡ true
    pub with_rest : (ys : List ℕ) → ArePairsWritten now bytes left (pairs_without rest) ys → ArePairsWritten now bytes n (pairs_without ps) (xs ++ ys)

  abbrev pub MovesFirstPairs : ℕ → ℕ → ℕ → ℕ → List ℕ → Type 0
  MovesFirstPairs from n at left xs = (now : List Tile) (bytes : List ℕ) → AreTiles now bytes → ArePlaced section moved now bytes
      → (ps : Pairs) (q : ℕ) → PairsUnfold section from n ps q → pairs_texts ps ≡ true → ArePairsLeft now bytes n ps q at left xs

  pub no_pairs_first : (from n : ℕ) → MovesFirstPairs from n from n []
  no_pairs_first from n now bytes are placed ps q there texts = record { rest = ps; there = there; texts = texts; with_rest = λ ys w. w }

  one_pair_first : (now : List Tile) (bytes : List ℕ) → AreTiles now bytes → ArePlaced section moved now bytes → (n : ℕ) (ps : Pairs) (q at left : ℕ) (xs : List ℕ) (rest : Pairs) → PairsUnfold section at (suc left) rest q → pairs_texts rest ≡ true
      → ((ys : List ℕ) → ArePairsWritten now bytes (suc left) (pairs_without rest) ys → ArePairsWritten now bytes n (pairs_without ps) (xs ++ ys))
      → (mid end : ℕ) (ys zs : List ℕ) → MovesPart section moved at mid ys → MovesPart section moved mid end zs → ArePairsLeft now bytes n ps q end left (xs ++ (ys ++ zs))
  one_pair_first now bytes are placed n ps q at left xs no_pairs x texts cont mid end ys zs key value = elim x [ ]
  one_pair_first now bytes are placed n ps q at left xs (pair k v rest) (one_more_pair {r = r} a b c) texts cont mid end ys zs key value =
      let behind = and_second (has_texts k) (has_texts v && pairs_texts rest) texts in
      let one = key now bytes are placed k _ a (and_first (has_texts k) (has_texts v && pairs_texts rest) texts) in
      let two = value now bytes are placed v _ (subst (λ (p : ℕ). Unfolds section p v r) (sym one.0) b) (and_first (has_texts v) (pairs_texts rest) behind) in
      record {
        rest = rest;
        there = subst (λ (p : ℕ). PairsUnfold section p left rest q) (sym two.0) c;
        texts = and_second (has_texts v) (pairs_texts rest) behind;
        with_rest = λ ws others.
            subst (ArePairsWritten now bytes n (pairs_without ps)) (sym (append_assoc xs (ys ++ zs) ws))
            (cont ((ys ++ zs) ++ ws) (first_pair now bytes left (without_pointers k) (without_pointers v) (pairs_without rest) ys zs ws one.1 two.1 others));
      }

  pub next_pair_first : (from n at left mid end : ℕ) (xs ys zs : List ℕ) → MovesFirstPairs from n at (suc left) xs → MovesPart section moved at mid ys → MovesPart section moved mid end zs → MovesFirstPairs from n end left (xs ++ (ys ++ zs))
  next_pair_first from n at left mid end xs ys zs before key value now bytes are placed ps q there texts =
      let h = before now bytes are placed ps q there texts in
      one_pair_first now bytes are placed n ps q at left xs h.rest h.there h.texts h.with_rest mid end ys zs key value

  -- a key's bytes and a value's
  abbrev pub IsKeyThenValue : ℕ → ℕ → ℕ → List ℕ → Type 0
  IsKeyThenValue at mid end ws = (ys : List ℕ) × (zs : List ℕ) × (ws ≡ ys ++ zs) × MovesPart section moved at mid ys × MovesPart section moved mid end zs

  pub key_then_value : (from n at left mid end : ℕ) (xs ws : List ℕ) → MovesFirstPairs from n at (suc left) xs → IsKeyThenValue at mid end ws → MovesFirstPairs from n end left (xs ++ ws)
  key_then_value from n at left mid end xs ws before p =
      subst (λ (us : List ℕ). MovesFirstPairs from n end left (xs ++ us)) (sym p.2) (next_pair_first from n at left mid end xs p.0 p.1 before p.3 p.4)

  no_pairs_left_of : {p q : ℕ} {ps : Pairs} → PairsUnfold section p 0 ps q → (p ≡ q) × (ps ≡ no_pairs)
  no_pairs_left_of no_pairs_left = (refl, refl)

  pub all_pairs_first : (from n at : ℕ) (xs : List ℕ) → MovesFirstPairs from n at 0 xs → MovesPairs section moved from n at xs
  all_pairs_first from n at xs before now bytes are placed ps q there texts =
      let h = before now bytes are placed ps q there texts in
      let none = no_pairs_left_of h.there in
      let nothing : ArePairsWritten now bytes 0 no_pairs [] = no_pairs_written now bytes no_pairs are tt in
      let whole = h.with_rest [] (subst (λ (us : Pairs). ArePairsWritten now bytes 0 (pairs_without us) []) (sym none.1) nothing) in
      (none.0, subst (ArePairsWritten now bytes n (pairs_without ps)) (append-nil xs) whole)

  -- ---- arrays and maps

  pub array_moved : (at : ℕ) (header : Header) (end : ℕ) (xs ys : List ℕ) → header_at section at ≡ Some header → header.kind ≡ 11 → IsHeader 11 header.size xs → MovesParts section moved header.body header.size end ys → MovesValue section moved at end (xs ++ ys)
  array_moved at header end xs ys head kind is parts now bytes are placed t q there texts =
      let e = elements_of head kind there in
      let w = parts now bytes are placed e.0 q e.2 (sym (ap has_texts e.1) ∙ texts) in
      (w.0, subst (λ (u : Tree). IsWrittenDirect now bytes (without_pointers u) (xs ++ ys)) (sym e.1) (array_of now bytes header.size (trees_without e.0) xs ys is w.1))

  pub map_moved : (at : ℕ) (header : Header) (end : ℕ) (xs ys : List ℕ) → header_at section at ≡ Some header → header.kind ≡ 7 → IsHeader 7 header.size xs → MovesPairs section moved header.body header.size end ys → MovesValue section moved at end (xs ++ ys)
  map_moved at header end xs ys head kind is parts now bytes are placed t q there texts =
      let e = pairs_of head kind there in
      let w = parts now bytes are placed e.0 q e.2 (sym (ap has_texts e.1) ∙ texts) in
      (w.0, subst (λ (u : Tree). IsWrittenDirect now bytes (without_pointers u) (xs ++ ys)) (sym e.1) (map_of now bytes header.size (pairs_without e.0) xs ys is w.1))

-- ---- lists with one more

at_front : {X : Type 0} (xs : List X) (x : X) (i : ℕ) (y : X) → slice_get xs i ≡ Some y → slice_get (xs ++ x ∷ []) i ≡ Some y
at_front [] x i y at = absurd (cc)
at_front (z ∷ zs) x zero y at = at
at_front (z ∷ zs) x (suc i) y at = at_front zs x i y at

at_end : {X : Type 0} (xs : List X) (x : X) → slice_get (xs ++ x ∷ []) (length xs) ≡ Some x
at_end [] x = refl
at_end (z ∷ zs) x = at_end zs x

before_end : {X : Type 0} (xs : List X) (x : X) (i : ℕ) (y : X) → slice_get (xs ++ x ∷ []) i ≡ Some y → (slice_get xs i ≡ Some y) ⊎ (x ≡ y)
before_end [] x zero y at = inr (cc)
before_end [] x (suc i) y at = absurd (cc)
before_end (z ∷ zs) x zero y at = inl at
before_end (z ∷ zs) x (suc i) y at = before_end zs x i y at

more_at : (moved : List Moved) (m : Moved) (from : ℕ) (place : Place) → HasPlace moved from place → HasPlace (moved ++ m ∷ []) from place
more_at moved m from place h = (h.0, at_front moved m h.0 (record { from = from; place = place }) h.1)

last_at : (moved : List Moved) (m : Moved) (from : ℕ) (place : Place) → HasPlace (moved ++ m ∷ []) from place → HasPlace moved from place ⊎ ((m.from ≡ from) × (m.place ≡ place))
last_at moved m from place h = elim (before_end moved m h.0 (record { from = from; place = place }) h.1) [
  | inl before ↦ inl (h.0, before)
  | inr last ↦ inr (ap (λ (x : Moved). x.from) last, ap (λ (x : Moved). x.place) last)
]

pub same_moved : (m : Moved) (from : ℕ) (place : Place) → m.from ≡ from → m.place ≡ place → m ≡ record { from = from; place = place }
same_moved m from place e f = ap (λ (n : ℕ). record { from = n; place = m.place }) e ∙ ap (λ (p : Place). record { from = from; place = p }) f

last_before : (moved : List Moved) (at : ℕ) (m d : Moved) → 0 < length moved → ((from : ℕ) (place : Place) → HasPlace moved from place → from < at) → m.from ≡ at → (get_or moved (length moved - 1) d).from ≤ m.from
last_before moved at m d some before from =
    let x : Moved = get_or moved (length moved - 1) d in
    let got : slice_get moved (length moved - 1) ≡ Some (get_or moved (length moved - 1) d) = slice_get-get_or moved (length moved - 1) d (omega arith) in
    let b = before x.from x.place (length moved - 1, got) in
    omega arith

-- ---- what a search does not find

-- the first that began no earlier than an offset, if it is not that of the offset, is behind each of it: there is none
pub none_there : (moved : List Moved) (from r : ℕ) → AreInOrder moved → ((k : ℕ) (d : Moved) → k < r → (get_or moved k d).from < from) → ((d : Moved) → r < length moved → from < (get_or moved r d).from) → (place : Place) → HasPlace moved from place → ⊥
none_there moved from r ordered earlier later place h =
    let m : Moved = record { from = from; place = place } in
    let inside : h.0 < length moved = slice_get_within moved h.0 m h.1 in
    let is : get_or moved h.0 m ≡ m = get_or_from_slice_get moved h.0 m m h.1 in
    let own : (get_or moved h.0 m).from ≡ from = ap (λ (x : Moved). x.from) is in
    elim (cases_lt h.0 r) [
      | inl before ↦ let a = earlier h.0 m before in omega arith
      | inr behind ↦ let a = later m (omega arith) in let b = ordered r h.0 m behind inside in omega arith
    ]

-- ---- values stay where they are

still_tile : (t u : Tile) (ts : List Tile) → IsTile t ts → IsTile t (ts ++ u ∷ [])
still_tile t u [] h = absurd h
still_tile t u (x ∷ xs) (inl same) = inl same
still_tile t u (x ∷ xs) (inr later) = inr (still_tile t u xs later)

last_tiles : (t u : Tile) (ts : List Tile) → IsTile t (ts ++ u ∷ []) → IsTile t ts ⊎ (t ≡ u)
last_tiles t u [] (inl same) = inr same
last_tiles t u [] (inr none) = absurd none
last_tiles t u (x ∷ xs) (inl same) = inl (inl same)
last_tiles t u (x ∷ xs) (inr later) = elim (last_tiles t u xs later) [ inl here ↦ inl (inr here) | inr last ↦ inr last ]

still_at : (now : List Tile) (u : Tile) (bytes more : List ℕ) (place : Place) (v : Tree) → IsAt now bytes place v → IsAt (now ++ u ∷ []) (bytes ++ more) place v
still_at now u bytes more (places.At to) v h = (h.0, still_tile h.0 u now h.1, h.2, h.3)
still_at now u bytes more (places.InLine line) v h = record {
  written = record {
    t = h.written.t;
    unfolds = λ before behind g. h.written.unfolds before behind (more ++ g.0, g.1 ∙ append_assoc bytes more g.0);
    value = h.written.value;
    texts = h.written.texts;
    closed = λ q lead. earlier_start q now u (h.written.closed q lead);
    levels = h.written.levels;
  };
  direct = h.direct;
  levels = h.levels;
}

-- where a value ends the next one begins
next_start : (from to : ℕ) (ts : List Tile) → IsChain from ts to → (t : Tile) → IsTile t ts → (is_start ts t.end ≡ true) ⊎ (t.end ≡ to)
next_start from to [] chain t is = absurd is
next_start from to (u ∷ []) chain t (inl same) = inr (ap (λ (x : Tile). x.end) same ∙ chain.1)
next_start from to (u ∷ w ∷ us) chain t (inl same) =
    let e : t.end ≡ w.start = ap (λ (x : Tile). x.end) same ∙ sym chain.1.0 in
    let f = same_start t.end w.start e in
    inl (or_true _ (is_start (w ∷ us) t.end) (rw f refl))
next_start from to (u ∷ us) chain t (inr later) = elim (next_start u.end to us chain.1 t later) [
  | inl start ↦ inl (or_true _ (is_start us t.end) start)
  | inr end ↦ inr end
]

-- ---- one value more

module _ (tiles : List Tile) (section : List ℕ) (are : AreTiles tiles section) (at end : ℕ) (old new : MovedSection) (m : Moved) (s : IsMovedTo tiles section at old) (below : at < length section)
    (from : m.from ≡ at) (grown : new.moved.items ≡ old.moved.items ++ m ∷ []) (xs : List ℕ) (moves : MovesValue section old.moved.items at end xs) where
  start : is_start tiles at ≡ true
  start = elim s.next [ inl is ↦ is | inr done ↦ absurd (let e = done in omega arith) ]

  here : Found tiles at (tree_at tiles at)
  here = tile_at tiles at start

  laid : IsLaid tiles section here.tile
  laid = laid_tile (IsLaid tiles section) here.tile tiles are.each here.is

  there : Unfolds section at here.tile.tree here.tile.end
  there = subst (λ (n : ℕ). Unfolds section n here.tile.tree here.tile.end) here.at (unfolds_here tiles section are here.tile here.is)

  moved_here : (end ≡ here.tile.end) × IsWrittenDirect s.now old.bytes.items (without_pointers here.tile.tree) xs
  moved_here = moves s.now old.bytes.items s.are s.placed here.tile.tree here.tile.end there laid.texts

  further : at < end
  further = let a = own_fits there in let b = own_positive here.tile.tree in let e = moved_here.0 in omega arith

  next : (is_start tiles end ≡ true) ⊎ (end ≡ length section)
  next = elim (next_start 0 (length section) tiles are.chain here.tile here.is) [
    | inl begins ↦ inl (subst (λ (n : ℕ). is_start tiles n ≡ true) (sym moved_here.0) begins)
    | inr e ↦ inr (moved_here.0 ∙ e)
  ]

  cases : (f : ℕ) (place : Place) → HasPlace new.moved.items f place → HasPlace old.moved.items f place ⊎ ((m.from ≡ f) × (m.place ≡ place))
  cases f place h = last_at old.moved.items m f place (subst (λ (ms : List Moved). HasPlace ms f place) grown h)

  starts : (f : ℕ) (place : Place) → HasPlace new.moved.items f place → is_start tiles f ≡ true
  starts f place h = elim (cases f place h) [
    | inl earlier ↦ s.starts f place earlier
    | inr last ↦ subst (λ (n : ℕ). is_start tiles n ≡ true) (sym from ∙ last.0) start
  ]

  before : (f : ℕ) (place : Place) → HasPlace new.moved.items f place → f < end
  before f place h = elim (cases f place h) [
    | inl earlier ↦ let a = s.before f place earlier in let b = further in omega arith
    | inr last ↦ let a = last.0 in let b = further in omega arith
  ]

  one : (f : ℕ) (p q : Place) → HasPlace new.moved.items f p → HasPlace new.moved.items f q → p ≡ q
  one f p q h k = elim (cases f p h) [
    | inl x ↦ elim (cases f q k) [
      | inl y ↦ s.one f p q x y
      | inr y ↦ let b = s.before f p x in let e = y.0 in absurd (omega arith)
    ]
    | inr x ↦ elim (cases f q k) [
      | inl y ↦ let b = s.before f q y in let e = x.0 in absurd (omega arith)
      | inr y ↦ sym x.1 ∙ y.1
    ]
  ]

  ordered : AreInOrder new.moved.items
  ordered = subst AreInOrder (sym grown) (IsNonDecreasingBy-push (λ (x : Moved). x.from) old.moved.items m s.ordered (λ d some. last_before old.moved.items at m d some s.before from))

  still_from : (u : Tile) → ComesFrom tiles old u → ComesFrom tiles new u
  still_from u h = (h.0, h.1, subst (λ (ms : List Moved). HasPlace ms h.0.start (places.At u.start)) (sym grown) (more_at old.moved.items m h.0.start (places.At u.start) h.2), h.3)

  placed_with : (now : List Tile) (bytes : List ℕ) → ((place : Place) (v : Tree) → IsAt s.now old.bytes.items place v → IsAt now bytes place v) → IsAt now bytes m.place (without_pointers here.tile.tree) → ArePlaced section new.moved.items now bytes
  placed_with now bytes still last f place h t q unfolds texts = elim (cases f place h) [
    | inl earlier ↦ still place (without_pointers t) (s.placed f place earlier t q unfolds texts)
    | inr same ↦
        let at_same : f ≡ at = sym same.0 ∙ from in
        let tree_same : here.tile.tree ≡ t = (one_tree there (subst (λ (n : ℕ). Unfolds section n t q) at_same unfolds)).0 in
        subst (λ (p : Place). IsAt now bytes p (without_pointers t)) same.1 (subst (λ (u : Tree). IsAt now bytes m.place (without_pointers u)) tree_same last)
  ]

  pub in_line_now : (line : Vec ℕ Global) → m.place ≡ places.InLine line → line.items ≡ xs → new.bytes.items ≡ old.bytes.items → IsMovedTo tiles section end new
  in_line_now line place is bytes = record {
    now = s.now;
    are = subst (AreTiles s.now) (sym bytes) s.are;
    placed = subst (ArePlaced section new.moved.items s.now) (sym bytes)
        (placed_with s.now old.bytes.items (λ p v h. h)
        (subst (λ (p : Place). IsAt s.now old.bytes.items p (without_pointers here.tile.tree)) (sym place) (subst (IsWrittenDirect s.now old.bytes.items (without_pointers here.tile.tree)) (sym is) moved_here.1)));
    only = λ u is_u. still_from u (s.only u is_u);
    starts = starts;
    before = before;
    one = one;
    ordered = ordered;
    next = next;
  }

  last : Tile
  last = added s.now (without_pointers here.tile.tree) old.bytes.items xs s.are moved_here.1

  last_from : (to : ℕ) → m.place ≡ places.At to → to ≡ length old.bytes.items → ComesFrom tiles new last
  unfolding last added
  last_from to place is =
      let whole : m ≡ record { from = here.tile.start; place = places.At (length old.bytes.items) } = same_moved m here.tile.start (places.At (length old.bytes.items)) (from ∙ sym here.at) (place ∙ ap places.At is) in
      let got : slice_get (old.moved.items ++ m ∷ []) (length old.moved.items) ≡ Some (record { from = here.tile.start; place = places.At (length old.bytes.items) }) = at_end old.moved.items m ∙ ap Some whole in
      (here.tile, here.is, (length old.moved.items, subst (λ (ms : List Moved). slice_get ms (length old.moved.items) ≡ Some (record { from = here.tile.start; place = places.At (length old.bytes.items) })) (sym grown) got), moved_here.1.written.value)

  pub by_itself_now : (to : ℕ) → m.place ≡ places.At to → to ≡ length old.bytes.items → new.bytes.items ≡ old.bytes.items ++ xs → IsMovedTo tiles section end new
  unfolding last
  by_itself_now to place is bytes =
      let now : List Tile = s.now ++ last ∷ [] in
      let part : IsPart (s.now ++ last ∷ []) (At to) (without_pointers here.tile.tree) = subst (λ (n : ℕ). IsPart (s.now ++ last ∷ []) (At n) (without_pointers here.tile.tree)) (sym is) (added_part s.now (without_pointers here.tile.tree) old.bytes.items xs s.are moved_here.1) in
      record {
        now = now;
        are = subst (AreTiles now) (sym bytes) (more_tiles s.now (without_pointers here.tile.tree) old.bytes.items xs s.are moved_here.1);
        placed = subst (ArePlaced section new.moved.items now) (sym bytes)
            (placed_with now (old.bytes.items ++ xs) (still_at s.now last old.bytes.items xs) (subst (λ (p : Place). IsAt now (old.bytes.items ++ xs) p (without_pointers here.tile.tree)) (sym place) part));
        only = λ u is_u. elim (last_tiles u last s.now is_u) [
          | inl earlier ↦ still_from u (s.only u earlier)
          | inr same ↦ subst (ComesFrom tiles new) (sym same) (last_from to place is)
        ];
        starts = starts;
        before = before;
        one = one;
        ordered = ordered;
        next = next;
      }

module _ (section : List ℕ) (at end : ℕ) (old mid new : MovedSection) (m : Moved) (xs : List ℕ) (from : m.from ≡ at) (bytes : new.bytes ≡ mid.bytes) (grown : new.moved.items ≡ mid.moved.items ++ m ∷ []) (moves : MovesValue section old.moved.items at end xs) where
  taken_to : (place : Place) → m.place ≡ place → Places xs old mid place → TakesValue section at old new end
  taken_to (places.At to) is p below h tiles are =
      by_itself_now tiles section are at end old new m (h tiles are) below from (grown ∙ ap (λ ms. ms.items ++ m ∷ []) p.2) xs moves to is p.0 (ap (λ b. b.items) bytes ∙ p.1)
  taken_to (places.InLine line) is p below h tiles are =
      in_line_now tiles section are at end old new m (h tiles are) below from (grown ∙ ap (λ (s : MovedSection). s.moved.items ++ m ∷ []) p.1) xs moves line is p.0 (ap (λ b. b.items) bytes ∙ ap (λ (s : MovedSection). s.bytes.items) p.1)

  pub taken : Places xs old mid m.place → TakesValue section at old new end
  taken p = taken_to m.place refl p

-- ---- all values

pub none_moved : (section : List ℕ) (moved : MovedSection) → moved.bytes.items ≡ [] → moved.moved.items ≡ [] → IsMovedBefore section 0 moved
none_moved section moved bytes none tiles are = record {
  now = [];
  are = subst (AreTiles []) (sym bytes) (record { chain = refl; each = tt });
  placed = λ from place h t q unfolds texts. absurd (nothing from place h);
  only = λ u is. absurd is;
  starts = λ from place h. absurd (nothing from place h);
  before = λ from place h. absurd (nothing from place h);
  one = λ from p q h k. absurd (nothing from p h);
  ordered = subst AreInOrder (sym none) (IsNonDecreasingBy-short (λ (x : Moved). x.from) [] (omega arith));
  next = first tiles are.chain;
} where
  nothing : (from : ℕ) (place : Place) → HasPlace moved.moved.items from place → ⊥
  nothing from place h = let e = sym (ap (λ (ms : List Moved). slice_get ms h.0) none) ∙ h.1 in cc

  first : (ts : List Tile) → IsChain 0 ts (length section) → (is_start ts 0 ≡ true) ⊎ (0 ≡ length section)
  first [] chain = inr chain
  first (t ∷ ts) chain = inl (let e = same_start 0 t.start (sym chain.0) in rw e refl)

pub all_moved : (section : List ℕ) (at : ℕ) (moved : MovedSection) → IsMovedBefore section at moved → (tiles : List Tile) → AreTiles tiles section → IsMoved tiles moved
all_moved section at moved h tiles are =
    let s = h tiles are in
    record {
      now = s.now;
      are = s.are;
      each = λ from to moves.
          let w = tile_at tiles from (s.starts from (places.At to) moves) in
          let there = subst (λ (n : ℕ). Unfolds section n w.tile.tree w.tile.end) w.at (unfolds_here tiles section are w.tile w.is) in
          (w.tile, w.is, w.at, s.placed from (places.At to) moves w.tile.tree w.tile.end there (laid_tile (IsLaid tiles section) w.tile tiles are.each w.is).texts);
      only = s.only;
      one = s.one;
      ordered = s.ordered;
    }

-- ---- values that are in a section once

some_same : (a b : ℕ) → places.At a ≡ places.At b → a ≡ b
some_same a b h = cc

module _ (tiles : List Tile) (moved : MovedSection) (is : IsMoved tiles moved) (once : NoneTwice tiles) where
  pub moves_once : (from a b : ℕ) → MovesTo moved from a → MovesTo moved from b → a ≡ b
  moves_once from a b h k = some_same a b (is.one from (places.At a) (places.At b) h k)

  pub still_once : NoneTwice is.now
  still_once t u t_is u_is same =
      let h = is.only t t_is in
      let k = is.only u u_is in
      let from : h.0.start ≡ k.0.start = once h.0 k.0 h.1 k.1 (sym h.3 ∙ same ∙ k.3) in
      moves_once k.0.start t.start u.start (subst (λ (n : ℕ). MovesTo moved n t.start) from h.2) k.2

  pub comes_once : (f g to : ℕ) → MovesTo moved f to → MovesTo moved g to → f ≡ g
  comes_once f g to h k =
      let x = is.each f to h in
      let y = is.each g to k in
      let p = x.3 in
      let q = y.3 in
      let first : Unfolds moved.bytes.items to p.0.tree p.0.end = subst (λ (n : ℕ). Unfolds moved.bytes.items n p.0.tree p.0.end) p.2 (unfolds_here is.now moved.bytes.items is.are p.0 p.1) in
      let second : Unfolds moved.bytes.items to q.0.tree q.0.end = subst (λ (n : ℕ). Unfolds moved.bytes.items n q.0.tree q.0.end) q.2 (unfolds_here is.now moved.bytes.items is.are q.0 q.1) in
      let same : without_pointers x.0.tree ≡ without_pointers y.0.tree = sym p.3 ∙ ap without_pointers (one_tree first second).0 ∙ q.3 in
      sym x.2 ∙ once x.0 y.0 x.1 y.1 same ∙ y.2
