-- Values that are known at one offset.
use Rattle.std.proofs.Common.{◌≡◌, ℕ, List, [], ◌∷◌, ◌++◌, Some, refl, ap, sym, ◌∙◌, subst, false}
use Rattle.std.specs.List.{AllByRecursion}
use Rattle.mmdb_format.specs.Contents.{Scalar, text, bytes, boolean, signed32, number16, number32, number64, number128, double_bits, float_bits}
use Rattle.mmdb_format.specs.Unfolding.{Tree, scalar, array, table, pointer, Trees, no_trees, tree, Pairs, no_pairs, pair, without_pointers}
use Rattle.mmdb_section.specs.declared.value.Number.{Number as SpecNumber}
use Rattle.mmdb_section.specs.declared.value.Number.TheVariants as numbers
use Rattle.mmdb_section.specs.declared.value.SectionPart.{SectionPart}
use Rattle.mmdb_section.specs.declared.value.SectionPart.TheVariants.{Number, At}
use Rattle.mmdb_section.specs.Sections.{Tile, SectionView, start_of, plain, elements, entries, scalar_of, IsFor, HoldsAt}
use Rattle.mmdb_section.specs.Known.{IsDirect, IsKnown, AreKnown, PairsAreKnown, IsKnownPart, KnowsAll, IsKnownTile, HasEachOnce, NoneStandsTwice}
use Rattle.mmdb_section.proofs.WriteLemmas.{laid_tile}

-- ---- numbers by their scalars

number_of : Scalar → SpecNumber
number_of (text x) = numbers.Bool false
number_of (bytes x) = numbers.Bool false
number_of (boolean b) = numbers.Bool b
number_of (signed32 z) = numbers.I32 z
number_of (number16 n) = numbers.U16 n
number_of (number32 n) = numbers.U32 n
number_of (number64 n) = numbers.U64 n
number_of (number128 n) = numbers.U128 n
number_of (double_bits n) = numbers.Double (record { bits = n })
number_of (float_bits n) = numbers.Float (record { bits = n })

own_number : (n : SpecNumber) → number_of (scalar_of n) ≡ n
unfolding number_of
own_number (numbers.Bool b) = refl
own_number (numbers.I32 z) = refl
own_number (numbers.U16 n) = refl
own_number (numbers.U32 n) = refl
own_number (numbers.U64 n) = refl
own_number (numbers.U128 n) = refl
own_number (numbers.Double x) = refl
own_number (numbers.Float x) = refl

scalar_in : Tree → Scalar
scalar_in (scalar c) = c
scalar_in (array ts) = boolean false
scalar_in (table ps) = boolean false
scalar_in (pointer a t) = boolean false

same_number : (n m : SpecNumber) → scalar (scalar_of n) ≡ scalar (scalar_of m) → n ≡ m
unfolding scalar_in
same_number n m same = sym (own_number n) ∙ ap (λ (v : Tree). number_of (scalar_in v)) same ∙ own_number m

-- ---- one offset

some_same : (a b : ℕ) → Some a ≡ Some b → a ≡ b
some_same a b h = cc

same_part : (v : Tree) (Begins : ℕ → Type 0) → ((a b : ℕ) → Begins a → Begins b → a ≡ b) → (p q : SectionPart) → IsDirect v Begins p → IsDirect v Begins q → p ≡ q
same_part v Begins one (Number n) (Number m) h k = ap Number (same_number n m (sym h ∙ k))
same_part v Begins one (Number n) (At b) h k = absurd (k.1 (n, h))
same_part v Begins one (At a) (Number m) h k = absurd (h.1 (m, k))
same_part v Begins one (At a) (At b) h k = ap At (one a b h.0 k.0)

mutual
  pub one_offset : (s : SectionView) (v : Tree) (a b : ℕ) → IsKnown s v a → IsKnown s v b → a ≡ b
  one_offset s (scalar c) a b h k = some_same a b (sym h ∙ k)
  one_offset s (array vs) a b h k =
      some_same a b (sym h.2 ∙ ap (λ (ps : List SectionPart). start_of s (elements ps)) (one_list s vs h.0 k.0 h.1 k.1) ∙ k.2)
  one_offset s (table vs) a b h k =
      some_same a b (sym h.2 ∙ ap (λ (ps : List (SectionPart × SectionPart)). start_of s (entries ps)) (one_list_of_pairs s vs h.0 k.0 h.1 k.1) ∙ k.2)
  one_offset s (pointer at v) a b h k = absurd h

  one_list : (s : SectionView) (vs : Trees) (ps qs : List SectionPart) → AreKnown s vs ps → AreKnown s vs qs → ps ≡ qs
  one_list s no_trees [] [] h k = refl
  one_list s no_trees [] (q ∷ qs) h k = absurd k
  one_list s no_trees (p ∷ ps) qs h k = absurd h
  one_list s (tree v vs) [] qs h k = absurd h
  one_list s (tree v vs) (p ∷ ps) [] h k = absurd k
  one_list s (tree v vs) (p ∷ ps) (q ∷ qs) h k =
      ap (λ (x : SectionPart). x ∷ ps) (same_part v (λ offset. IsKnown s v offset) (one_offset s v) p q h.0 k.0)
      ∙ ap (λ (xs : List SectionPart). q ∷ xs) (one_list s vs ps qs h.1 k.1)

  one_list_of_pairs : (s : SectionView) (vs : Pairs) (ps qs : List (SectionPart × SectionPart)) → PairsAreKnown s vs ps → PairsAreKnown s vs qs → ps ≡ qs
  one_list_of_pairs s no_pairs [] [] h k = refl
  one_list_of_pairs s no_pairs [] (q ∷ qs) h k = absurd k
  one_list_of_pairs s no_pairs (p ∷ ps) qs h k = absurd h
  one_list_of_pairs s (pair key v vs) [] qs h k = absurd h
  one_list_of_pairs s (pair key v vs) (p ∷ ps) [] h k = absurd k
  one_list_of_pairs s (pair key v vs) (p ∷ ps) (q ∷ qs) h k =
      ap (λ (x : SectionPart). (x, p.1) ∷ ps) (same_part key (λ offset. IsKnown s key offset) (one_offset s key) p.0 q.0 h.0 k.0)
      ∙ ap (λ (x : SectionPart). (q.0, x) ∷ ps) (same_part v (λ offset. IsKnown s v offset) (one_offset s v) p.1 q.1 h.1 k.1)
      ∙ ap (λ (xs : List (SectionPart × SectionPart)). q ∷ xs) (one_list_of_pairs s vs ps qs h.2 k.2)

pub none_twice : NoneStandsTwice
none_twice tiles section t u once here there same =
    let a : IsKnown section (without_pointers t.tree) t.start = laid_tile (IsKnownTile section) t tiles once.each here in
    let b : IsKnown section (without_pointers u.tree) u.start = laid_tile (IsKnownTile section) u tiles once.each there in
    one_offset section (without_pointers u.tree) t.start u.start (subst (λ (v : Tree). IsKnown section v t.start) same a) b

-- ---- what stays known

direct_map : (v : Tree) (P Q : ℕ → Type 0) → ((a : ℕ) → P a → Q a) → (p : SectionPart) → IsDirect v P p → IsDirect v Q p
direct_map v P Q f (Number n) h = h
direct_map v P Q f (At a) h = (f a h.0, h.1)

module _ (old new : SectionView) (all : KnowsAll old new) where
  mutual
    pub still_known : (v : Tree) (a : ℕ) → IsKnown old v a → IsKnown new v a
    still_known (scalar c) a h = all (plain c) a h
    still_known (array vs) a h = (h.0, still_list vs h.0 h.1, all (elements h.0) a h.2)
    still_known (table vs) a h = (h.0, still_list_of_pairs vs h.0 h.1, all (entries h.0) a h.2)
    still_known (pointer at v) a h = absurd h

    pub still_list : (vs : Trees) (ps : List SectionPart) → AreKnown old vs ps → AreKnown new vs ps
    still_list no_trees [] h = tt
    still_list no_trees (p ∷ ps) h = absurd h
    still_list (tree v vs) [] h = absurd h
    still_list (tree v vs) (p ∷ ps) h = (direct_map v (λ offset. IsKnown old v offset) (λ offset. IsKnown new v offset) (still_known v) p h.0, still_list vs ps h.1)

    pub still_list_of_pairs : (vs : Pairs) (ps : List (SectionPart × SectionPart)) → PairsAreKnown old vs ps → PairsAreKnown new vs ps
    still_list_of_pairs no_pairs [] h = tt
    still_list_of_pairs no_pairs (p ∷ ps) h = absurd h
    still_list_of_pairs (pair k v vs) [] h = absurd h
    still_list_of_pairs (pair k v vs) (p ∷ ps) h = (
      direct_map k (λ offset. IsKnown old k offset) (λ offset. IsKnown new k offset) (still_known k) p.0 h.0,
      direct_map v (λ offset. IsKnown old v offset) (λ offset. IsKnown new v offset) (still_known v) p.1 h.1,
      still_list_of_pairs vs ps h.2,
    )

  pub still_part : (v : Tree) (p : SectionPart) → IsKnownPart old v p → IsKnownPart new v p
  still_part v p h = direct_map v (λ offset. IsKnown old v offset) (λ offset. IsKnown new v offset) (still_known v) p h

  still_tiles : (ts : List Tile) → AllByRecursion (IsKnownTile old) ts → AllByRecursion (IsKnownTile new) ts
  still_tiles [] all = tt
  still_tiles (t ∷ ts) all = (still_known (without_pointers t.tree) t.start all.0, still_tiles ts all.1)

  new_tiles : (v : Tree) (offset : ℕ) → IsKnown new v offset → (ts : List Tile) → AllByRecursion (IsFor v offset) ts → AllByRecursion (IsKnownTile new) ts
  new_tiles v offset known [] all = tt
  new_tiles v offset known (t ∷ ts) all = (
    subst (λ (n : ℕ). IsKnown new (without_pointers t.tree) n) (sym all.0.0) (subst (λ (w : Tree). IsKnown new w offset) (sym all.0.1) known),
    new_tiles v offset known ts all.1,
  )

  all_append : (P : Tile → Type 0) (ts us : List Tile) → AllByRecursion P ts → AllByRecursion P us → AllByRecursion P (ts ++ us)
  all_append P [] us a b = b
  all_append P (t ∷ ts) us a b = (a.0, all_append P ts us a.1 b)

  -- a value that was added, and is known
  pub once_more : (tiles : List Tile) (v : Tree) (offset : ℕ) → HasEachOnce tiles old → IsKnown new v offset → (h : HoldsAt tiles v new offset) → HasEachOnce (tiles ++ h.holds.more) new
  once_more tiles v offset once known h = record {
    has = h.holds.has;
    each = all_append (IsKnownTile new) tiles h.holds.more (still_tiles tiles once.each) (new_tiles v offset known h.holds.more h.only);
  }
