-- Values that are put into a section one after the other.
use Rattle.std.proofs.Common.{◌≡◌, inl, inr, ℕ, List, [], ◌∷◌, ◌++◌, Some, Result, Ok, Err, IfOk, Bor, refl, ap, sym, ◌∙◌, subst, append-nil, append_assoc}
use Rattle.mmdb_format.specs.Unfolding.{Tree, scalar, array, table, Trees, no_trees, tree, Pairs, no_pairs, pair}
use Rattle.mmdb_format.specs.Contents.{text, bytes}
use Rattle.mmdb_section.specs.declared.section.SectionError.{SectionError}
use Rattle.mmdb_section.specs.declared.value.Number.{Number as SpecNumber}
use Rattle.mmdb_section.specs.declared.value.Number.TheVariants as numbers
use Rattle.mmdb_section.specs.declared.value.SectionPart.{SectionPart}
use Rattle.mmdb_section.specs.declared.value.SectionPart.TheVariants.{Number, At}
use Rattle.mmdb_section.specs.declared.value.WrittenValue.{WrittenValue}
use Rattle.mmdb_section.specs.declared.value.WrittenValue.TheVariants as values
use Rattle.mmdb_section.specs.Known.{IsNumber, IsKnown, AreKnown, PairsAreKnown, IsKnownPart, KnowsAll, HasEachOnce}
use Rattle.mmdb_section.specs.Sections.{Tile, IsTile, IsSection, IsPart, AreParts, ArePairs, IsValue, SectionView, start_of, plain, elements, entries, scalar_of, HoldsAt}
use Rattle.mmdb_section.proofs.OnceLemmas.{still_list, still_list_of_pairs, still_part as still_known_part, once_more}
use Rattle.mmdb_value.specs.AnyValue.{trees_of, pairs_of}
use Rattle.mmdb_writer.specs.Making.{AllBegin}
use Rattle.mmdb_writer.specs.Working.{HoldsOnce, HoldsBeside, Puts, Keeps, PutsParts, PutsPairs}

-- ---- more values

still_tile : (t : Tile) (tiles more : List Tile) → IsTile t tiles → IsTile t (tiles ++ more)
still_tile t [] more h = absurd h
still_tile t (u ∷ us) more (inl same) = inl same
still_tile t (u ∷ us) more (inr later) = inr (still_tile t us more later)

pub still_part : (tiles more : List Tile) (part : SectionPart) (v : Tree) → IsPart tiles part v → IsPart (tiles ++ more) part v
still_part tiles more (Number n) v h = h
still_part tiles more (At offset) v h = (h.0, still_tile h.0 tiles more h.1, h.2, h.3)

still_parts : (tiles more : List Tile) (parts : List SectionPart) (vs : Trees) → AreParts tiles parts vs → AreParts (tiles ++ more) parts vs
still_parts tiles more [] no_trees h = tt
still_parts tiles more [] (tree v vs) h = absurd h
still_parts tiles more (p ∷ ps) no_trees h = absurd h
still_parts tiles more (p ∷ ps) (tree v vs) h = (still_part tiles more p v h.0, still_parts tiles more ps vs h.1)

still_pairs : (tiles more : List Tile) (parts : List (SectionPart × SectionPart)) (vs : Pairs) → ArePairs tiles parts vs → ArePairs (tiles ++ more) parts vs
still_pairs tiles more [] no_pairs h = tt
still_pairs tiles more [] (pair k v vs) h = absurd h
still_pairs tiles more (p ∷ ps) no_pairs h = absurd h
still_pairs tiles more (p ∷ ps) (pair k v vs) h = (still_part tiles more p.0 k h.0, still_part tiles more p.1 v h.1, still_pairs tiles more ps vs h.2)

pub still_all : (tiles more : List Tile) (vs : List Tree) (offsets : List ℕ) → AllBegin tiles vs offsets → AllBegin (tiles ++ more) vs offsets
still_all tiles more [] [] h = tt
still_all tiles more [] (o ∷ os) h = absurd h
still_all tiles more (v ∷ vs) [] h = absurd h
still_all tiles more (v ∷ vs) (o ∷ os) h = (still_part tiles more (At o) v h.0, still_all tiles more vs os h.1)

-- ---- one more

parts_snoc : (tiles : List Tile) (parts : List SectionPart) (part : SectionPart) (vs : List Tree) (v : Tree) → AreParts tiles parts (trees_of vs) → IsPart tiles part v → AreParts tiles (parts ++ part ∷ []) (trees_of (vs ++ v ∷ []))
parts_snoc tiles [] part [] v h k = (k, tt)
parts_snoc tiles [] part (w ∷ ws) v h k = absurd h
parts_snoc tiles (p ∷ ps) part [] v h k = absurd h
parts_snoc tiles (p ∷ ps) part (w ∷ ws) v h k = (h.0, parts_snoc tiles ps part ws v h.1 k)

pairs_snoc : (tiles : List Tile) (parts : List (SectionPart × SectionPart)) (key part : SectionPart) (vs : List (List ℕ × Tree)) (x : List ℕ) (v : Tree) → ArePairs tiles parts (pairs_of vs) → IsPart tiles key (scalar (text x)) → IsPart tiles part v → ArePairs tiles (parts ++ (key, part) ∷ []) (pairs_of (vs ++ (x, v) ∷ []))
pairs_snoc tiles [] key part [] x v h k l = (k, l, tt)
pairs_snoc tiles [] key part (w ∷ ws) x v h k l = absurd h
pairs_snoc tiles (p ∷ ps) key part [] x v h k l = absurd h
pairs_snoc tiles (p ∷ ps) key part (w ∷ ws) x v h k l = (h.0, h.1, pairs_snoc tiles ps key part ws x v h.2 k l)

pub all_snoc : (tiles : List Tile) (vs : List Tree) (offsets : List ℕ) (v : Tree) (offset : ℕ) → AllBegin tiles vs offsets → IsPart tiles (At offset) v → AllBegin tiles (vs ++ v ∷ []) (offsets ++ offset ∷ [])
all_snoc tiles [] [] v o h k = (k, tt)
all_snoc tiles [] (p ∷ ps) v o h k = absurd h
all_snoc tiles (w ∷ ws) [] v o h k = absurd h
all_snoc tiles (w ∷ ws) (p ∷ ps) v o h k = (h.0, all_snoc tiles ws ps v o h.1 k)

-- ---- known parts, and one more

known_snoc : (section : SectionView) (parts : List SectionPart) (part : SectionPart) (vs : List Tree) (v : Tree) → AreKnown section (trees_of vs) parts → IsKnownPart section v part → AreKnown section (trees_of (vs ++ v ∷ [])) (parts ++ part ∷ [])
known_snoc section [] part [] v h k = (k, tt)
known_snoc section [] part (w ∷ ws) v h k = absurd h
known_snoc section (p ∷ ps) part [] v h k = absurd h
known_snoc section (p ∷ ps) part (w ∷ ws) v h k = (h.0, known_snoc section ps part ws v h.1 k)

known_pairs_snoc : (section : SectionView) (parts : List (SectionPart × SectionPart)) (key part : SectionPart) (vs : List (List ℕ × Tree)) (x : List ℕ) (v : Tree) → PairsAreKnown section (pairs_of vs) parts → IsKnownPart section (scalar (text x)) key → IsKnownPart section v part
    → PairsAreKnown section (pairs_of (vs ++ (x, v) ∷ [])) (parts ++ (key, part) ∷ [])
known_pairs_snoc section [] key part [] x v h k l = (k, l, tt)
known_pairs_snoc section [] key part (w ∷ ws) x v h k l = absurd h
known_pairs_snoc section (p ∷ ps) key part [] x v h k l = absurd h
known_pairs_snoc section (p ∷ ps) key part (w ∷ ws) x v h k l = (h.0, h.1, known_pairs_snoc section ps key part ws x v h.2 k l)

-- ---- sections that grow

grown : (tiles more after : List Tile) (section : SectionView) → HasEachOnce ((tiles ++ more) ++ after) section → HasEachOnce (tiles ++ (more ++ after)) section
grown tiles more after section h = subst (λ (ts : List Tile). HasEachOnce ts section) (append_assoc tiles more after) h

none_more : (tiles : List Tile) (section : SectionView) → HasEachOnce tiles section → HasEachOnce (tiles ++ []) section
none_more tiles section h = subst (λ (ts : List Tile). HasEachOnce ts section) (sym (append-nil tiles)) h

-- what `Section::add` says where it adds a value
abbrev pub Adds : WrittenValue → SectionView → SectionView → ℕ → Type 0
Adds value old new offset = (tiles : List Tile) (v : Tree) → IsSection tiles old → IsValue tiles value v → HoldsAt tiles v new offset

-- a value that is known now
holds_added : (value : WrittenValue) (v : Tree) (old new : SectionView) (offset : ℕ) → Adds value old new offset → KnowsAll old new → IsKnown new v offset → (tiles : List Tile) → IsValue tiles value v → HasEachOnce tiles old → HoldsOnce tiles v new (At offset)
holds_added value v old new offset adds stay known tiles is once =
    let h = adds tiles v once.has is in
    record { more = h.holds.more; once = once_more old new stay tiles v offset once known h; is_part = h.holds.is_part }

-- what is added after more values
holds_after : (tiles more : List Tile) (v : Tree) (section : SectionView) (part : SectionPart) → HoldsOnce (tiles ++ more) v section part → HoldsOnce tiles v section part
holds_after tiles more v section part h = record {
  more = more ++ h.more;
  once = grown tiles more h.more section h.once;
  is_part = subst (λ (ts : List Tile). IsPart ts part v) (append_assoc tiles more h.more) h.is_part;
}

-- ---- single values

text_is_no_number : (x : List ℕ) → ¬ IsNumber (scalar (text x))
text_is_no_number x h = by h.0 h.1 where
  by : (n : SpecNumber) → scalar (text x) ≡ scalar (scalar_of n) → ⊥
  by (numbers.Bool b) is = cc
  by (numbers.I32 z) is = cc
  by (numbers.U16 n) is = cc
  by (numbers.U32 n) is = cc
  by (numbers.U64 n) is = cc
  by (numbers.U128 n) is = cc
  by (numbers.Double y) is = cc
  by (numbers.Float y) is = cc

bytes_are_no_number : (x : List ℕ) → ¬ IsNumber (scalar (bytes x))
bytes_are_no_number x h = by h.0 h.1 where
  by : (n : SpecNumber) → scalar (bytes x) ≡ scalar (scalar_of n) → ⊥
  by (numbers.Bool b) is = cc
  by (numbers.I32 z) is = cc
  by (numbers.U16 n) is = cc
  by (numbers.U32 n) is = cc
  by (numbers.U64 n) is = cc
  by (numbers.U128 n) is = cc
  by (numbers.Double y) is = cc
  by (numbers.Float y) is = cc

pub text_put : (x : Bor (List ℕ)) (v : Tree) (old new : SectionView) (offset : ℕ) → v ≡ scalar (text x.now) → Adds (values.Text x) old new offset → start_of new (plain (text x.now)) ≡ Some offset → KnowsAll old new → Puts v old new (At offset)
text_put x v old new offset is adds known stay = subst (λ (w : Tree). Puts w old new (At offset)) (sym is) (record {
  known = (known, text_is_no_number x.now);
  stay = stay;
  holds = λ tiles once. holds_added (values.Text x) (scalar (text x.now)) old new offset adds stay known tiles refl once;
})

pub bytes_put : (x : Bor (List ℕ)) (v : Tree) (old new : SectionView) (offset : ℕ) → v ≡ scalar (bytes x.now) → Adds (values.Bytes x) old new offset → start_of new (plain (bytes x.now)) ≡ Some offset → KnowsAll old new → Puts v old new (At offset)
bytes_put x v old new offset is adds known stay = subst (λ (w : Tree). Puts w old new (At offset)) (sym is) (record {
  known = (known, bytes_are_no_number x.now);
  stay = stay;
  holds = λ tiles once. holds_added (values.Bytes x) (scalar (bytes x.now)) old new offset adds stay known tiles refl once;
})

-- a number is in its place
pub number_stays : (n : SpecNumber) (v : Tree) (section : SectionView) → v ≡ scalar (scalar_of n) → Puts v section section (Number n)
number_stays n v section is = record { known = is; stay = λ shape offset h. h; holds = λ tiles once. record { more = []; once = none_more tiles section once; is_part = is } }

-- a number that is a whole record is put
pub number_put : (r : Result ℕ SectionError) (n : SpecNumber) (v : Tree) (old mid new : SectionView) → Puts v old mid (Number n) → IfOk r (Adds (values.Number n) mid new) → IfOk r (λ offset. start_of new (plain (scalar_of n)) ≡ Some offset)
    → KnowsAll mid new → IfOk r (λ offset. HoldsBeside v old new (At offset))
number_put (Ok offset) n v old mid new puts adds known stay = λ tiles once.
    let p = puts.holds tiles once in
    let is_known : IsKnown new v offset = subst (λ (w : Tree). IsKnown new w offset) (sym puts.known) known in
    holds_after tiles p.more v new (At offset) (holds_added (values.Number n) v mid new offset adds stay is_known (tiles ++ p.more) puts.known p.once)
number_put (Err e) n v old mid new puts adds known stay = tt

-- ---- parts of arrays and maps

pub no_parts : (section : SectionView) → PutsParts [] section section []
no_parts section = record { known = tt; stay = λ shape offset h. h; holds = λ tiles once. record { more = []; once = none_more tiles section once; are = tt } }

pub no_pairs_yet : (section : SectionView) → PutsPairs [] section section []
no_pairs_yet section = record { known = tt; stay = λ shape offset h. h; holds = λ tiles once. record { more = []; once = none_more tiles section once; are = tt } }

pub one_part_more : (vs : List Tree) (v : Tree) (first old new : SectionView) (parts : List SectionPart) (part : SectionPart) → PutsParts vs first old parts → Puts v old new part → PutsParts (vs ++ v ∷ []) first new (parts ++ part ∷ [])
one_part_more vs v first old new parts part before puts = record {
  known = known_snoc new parts part vs v (still_list old new puts.stay (trees_of vs) parts before.known) puts.known;
  stay = λ shape offset h. puts.stay shape offset (before.stay shape offset h);
  holds = λ tiles once.
      let h = before.holds tiles once in
      let now = puts.holds (tiles ++ h.more) h.once in
      record {
        more = h.more ++ now.more;
        once = grown tiles h.more now.more new now.once;
        are = subst (λ (ts : List Tile). AreParts ts (parts ++ part ∷ []) (trees_of (vs ++ v ∷ []))) (append_assoc tiles h.more now.more)
            (parts_snoc ((tiles ++ h.more) ++ now.more) parts part vs v (still_parts (tiles ++ h.more) now.more parts (trees_of vs) h.are) now.is_part);
      };
}

-- a key, and then its value
pub one_pair_more : (vs : List (List ℕ × Tree)) (x : List ℕ) (v : Tree) (start old mid new : SectionView) (parts : List (SectionPart × SectionPart)) (key part : SectionPart) → PutsPairs vs start old parts → Puts (scalar (text x)) old mid key → Puts v mid new part
    → PutsPairs (vs ++ (x, v) ∷ []) start new (parts ++ (key, part) ∷ [])
one_pair_more vs x v start old mid new parts key part before first second = record {
  known = known_pairs_snoc new parts key part vs x v (still_list_of_pairs mid new second.stay (pairs_of vs) parts (still_list_of_pairs old mid first.stay (pairs_of vs) parts before.known))
      (still_known_part mid new second.stay (scalar (text x)) key first.known) second.known;
  stay = λ shape offset h. second.stay shape offset (first.stay shape offset (before.stay shape offset h));
  holds = λ tiles once.
      let h = before.holds tiles once in
      let k = first.holds (tiles ++ h.more) h.once in
      let now = second.holds ((tiles ++ h.more) ++ k.more) k.once in
      let whole : List Tile = ((tiles ++ h.more) ++ k.more) ++ now.more in
      let same : whole ≡ tiles ++ (h.more ++ (k.more ++ now.more)) = append_assoc (tiles ++ h.more) k.more now.more ∙ append_assoc tiles h.more (k.more ++ now.more) in
      record {
        more = h.more ++ (k.more ++ now.more);
        once = subst (λ (ts : List Tile). HasEachOnce ts new) same now.once;
        are = subst (λ (ts : List Tile). ArePairs ts (parts ++ (key, part) ∷ []) (pairs_of (vs ++ (x, v) ∷ []))) same
            (pairs_snoc whole parts key part vs x v
            (still_pairs ((tiles ++ h.more) ++ k.more) now.more parts (pairs_of vs) (still_pairs (tiles ++ h.more) k.more parts (pairs_of vs) h.are))
            (still_part ((tiles ++ h.more) ++ k.more) now.more key (scalar (text x)) k.is_part) now.is_part);
      };
}

array_is_no_number : (vs : Trees) → ¬ IsNumber (array vs)
array_is_no_number vs h = let is = h.1 in cc

table_is_no_number : (vs : Pairs) → ¬ IsNumber (table vs)
table_is_no_number vs h = let is = h.1 in cc

-- the array of these parts, and the map of these pairs
pub array_put : (vs : List Tree) (v : Tree) (parts : List SectionPart) (all : Bor (List SectionPart)) (old mid new : SectionView) (offset : ℕ) → v ≡ array (trees_of vs) → all.now ≡ parts → PutsParts vs old mid parts → Adds (values.Array all) mid new offset
    → start_of new (elements all.now) ≡ Some offset → KnowsAll mid new → Puts v old new (At offset)
array_put vs v parts all old mid new offset is same before adds known stay =
    let there : IsKnown new (array (trees_of vs)) offset = (parts, still_list mid new stay (trees_of vs) parts before.known, ap (λ (ps : List SectionPart). start_of new (elements ps)) (sym same) ∙ known) in
    subst (λ (w : Tree). Puts w old new (At offset)) (sym is) (record {
      known = (there, array_is_no_number (trees_of vs));
      stay = λ shape from h. stay shape from (before.stay shape from h);
      holds = λ tiles once.
          let h = before.holds tiles once in
          let are : AreParts (tiles ++ h.more) all.now (trees_of vs) = subst (λ (ps : List SectionPart). AreParts (tiles ++ h.more) ps (trees_of vs)) (sym same) h.are in
          holds_after tiles h.more (array (trees_of vs)) new (At offset) (holds_added (values.Array all) (array (trees_of vs)) mid new offset adds stay there (tiles ++ h.more) (trees_of vs, are, refl) h.once);
    })

pub map_put : (vs : List (List ℕ × Tree)) (v : Tree) (parts : List (SectionPart × SectionPart)) (all : Bor (List (SectionPart × SectionPart))) (old mid new : SectionView) (offset : ℕ) → v ≡ table (pairs_of vs) → all.now ≡ parts → PutsPairs vs old mid parts → Adds (values.Map all) mid new offset
    → start_of new (entries all.now) ≡ Some offset → KnowsAll mid new → Puts v old new (At offset)
map_put vs v parts all old mid new offset is same before adds known stay =
    let there : IsKnown new (table (pairs_of vs)) offset = (parts, still_list_of_pairs mid new stay (pairs_of vs) parts before.known, ap (λ (ps : List (SectionPart × SectionPart)). start_of new (entries ps)) (sym same) ∙ known) in
    subst (λ (w : Tree). Puts w old new (At offset)) (sym is) (record {
      known = (there, table_is_no_number (pairs_of vs));
      stay = λ shape from h. stay shape from (before.stay shape from h);
      holds = λ tiles once.
          let h = before.holds tiles once in
          let are : ArePairs (tiles ++ h.more) all.now (pairs_of vs) = subst (λ (ps : List (SectionPart × SectionPart)). ArePairs (tiles ++ h.more) ps (pairs_of vs)) (sym same) h.are in
          holds_after tiles h.more (table (pairs_of vs)) new (At offset) (holds_added (values.Map all) (table (pairs_of vs)) mid new offset adds stay there (tiles ++ h.more) (pairs_of vs, are, refl) h.once);
    })

-- ---- sections that have what they had

pub same_kept : (old new : SectionView) → new ≡ old → Keeps old new
same_kept old new same = λ tiles once. ([], none_more tiles new (subst (HasEachOnce tiles) (sym same) once))

pub put_kept : (v : Tree) (old new : SectionView) (part : SectionPart) → HoldsBeside v old new part → Keeps old new
put_kept v old new part puts = λ tiles once. let h = puts tiles once in (h.more, h.once)

pub then_kept : (old mid new : SectionView) → Keeps old mid → Keeps mid new → Keeps old new
then_kept old mid new first second = λ tiles once.
    let h = first tiles once in
    let k = second (tiles ++ h.0) h.1 in
    (h.0 ++ k.0, grown tiles h.0 k.0 new k.1)

pub parts_kept : (vs : List Tree) (old new : SectionView) (parts : List SectionPart) → PutsParts vs old new parts → Keeps old new
parts_kept vs old new parts puts = λ tiles once. let h = puts.holds tiles once in (h.more, h.once)

pub pairs_kept : (vs : List (List ℕ × Tree)) (old new : SectionView) (parts : List (SectionPart × SectionPart)) → PutsPairs vs old new parts → Keeps old new
pairs_kept vs old new parts puts = λ tiles once. let h = puts.holds tiles once in (h.more, h.once)
