-- A data section in which values stand in line has what was added, and is not too large where the other one is not.
use Rattle.std.proofs.Common.{◌≡◌, inl, inr, ℕ, zero, suc, ◌+◌, ◌^◌, ◌<◌, ◌≤◌, eqb, Bool, true, false, cond, List, [], ◌∷◌, ◌++◌, length, get_or, map, Option, Some, None, IfSome, refl, ap, sym, ◌∙◌, subst, arith}
use Rattle.std.specs.Prelude.{◌&&◌, max, option_map}
use Rattle.std.specs.List.{AllByRecursion, AllZip, slice_get, filter}
use Rattle.std.specs.Option.{is_some}
use Rattle.std.proofs.Math.ListN.{set}
use Rattle.std.proofs.lemmas.Bool.{false≢true}
use Rattle.mmdb_format.specs.Unfolding.{Tree, Unfolds, without_pointers}
use Rattle.mmdb_format.proofs.UnfoldingLaws.{one_tree}
use Rattle.mmdb_net.specs.Bits.{bits_of}
use Rattle.mmdb_nodes.specs.declared.entry.NodeEntry.{NodeEntry}
use Rattle.mmdb_nodes.specs.declared.entry.IpVersion.{IpVersion}
use Rattle.mmdb_nodes.specs.Entries.{width, block_of, has, ComesBefore, IsOrdered, offset_after, offset_in}
use Rattle.mmdb_nodes.specs.Trees.{is_same, all_same, splits, nodes_for}
use Rattle.mmdb_blocks.specs.declared.block.Block.{Block}
use Rattle.mmdb_blocks.specs.Blocks.{IsBlock}
use Rattle.mmdb_blocks.specs.Networks.{network_bits}
use Rattle.mmdb_section.specs.declared.moved.Moved.{Moved}
use Rattle.mmdb_section.specs.declared.moved.MovedSection.{MovedSection}
use Rattle.mmdb_section.specs.declared.moved.Place.{Place}
use Rattle.mmdb_section.specs.declared.moved.Place.TheVariants as places
use Rattle.mmdb_section.specs.declared.value.SectionPart.TheVariants.{At}
use Rattle.mmdb_section.specs.Moved.{HasPlace, MovesTo, IsMoved, NoneTwice}
use Rattle.mmdb_section.specs.Sections.{Tile, AreTiles, IsPart}
use Rattle.mmdb_section.proofs.AllowanceLemmas.{unfolds_here}
use Rattle.mmdb_section.proofs.WriteLemmas.{same_start, starts_same}
use Rattle.mmdb_section.proofs.MovedLemmas.{moves_once, still_once, comes_once, same_moved}
use Rattle.mmdb_section.proofs.OnceLemmas.{none_twice}
use Rattle.mmdb_value.specs.declared.any_value.Value.{Value}
use Rattle.mmdb_value.specs.Values.{value_tree}
use Rattle.mmdb_writer.specs.declared.options.Options.{Options}
use Rattle.mmdb_writer.specs.declared.row.Row.{Row}
use Rattle.mmdb_writer.specs.declared.writer.Writer.{Writer}
use Rattle.mmdb_writer.specs.Layout.{HasMoved, IsMovedOffset, IsMovedEntry, IsLaidOut}
use Rattle.mmdb_writer.specs.Making.{AllBegin, IsOffsetOf, IsEntryOf, IsMadeOf, HasAdded, is_same_block, NeedsTooMany, DoesNotFit}
use Rattle.mmdb_writer.proofs.LastLemmas.{still_in}
use Rattle.mmdb_writer.proofs.RowLemmas.{zip_right, zip_left}

-- ---- one value at an offset

one_part : (tiles : List Tile) (bytes : List ℕ) → AreTiles tiles bytes → (o : ℕ) (v w : Tree) → IsPart tiles (At o) v → IsPart tiles (At o) w → v ≡ w
one_part tiles bytes are o v w p q =
    let first : Unfolds bytes o p.0.tree p.0.end = subst (λ (n : ℕ). Unfolds bytes n p.0.tree p.0.end) p.2 (unfolds_here tiles bytes are p.0 p.1) in
    let second : Unfolds bytes o q.0.tree q.0.end = subst (λ (n : ℕ). Unfolds bytes n q.0.tree q.0.end) q.2 (unfolds_here tiles bytes are q.0 q.1) in
    sym p.3 ∙ ap without_pointers (one_tree first second).0 ∙ q.3

all_at : (P : ℕ → Type 0) (xs : List ℕ) (i x : ℕ) → AllByRecursion P xs → slice_get xs i ≡ Some x → P x
all_at P [] i x all at = absurd (cc)
all_at P (y ∷ ys) zero x all at = let same : y ≡ x = cc in subst P same all.0
all_at P (y ∷ ys) (suc i) x all at = all_at P ys i x all.1 at

pub all_more : (P : ℕ → Type 0) (xs : List ℕ) (x : ℕ) → AllByRecursion P xs → P x → AllByRecursion P (xs ++ x ∷ [])
all_more P [] x all last = (last, tt)
all_more P (y ∷ ys) x all last = (all.0, all_more P ys x all.1 last)

-- ---- entries that are moved one after the other

-- the first ones moved, and the others are as they were
abbrev pub AreMovedTo : MovedSection → ℕ → List NodeEntry → List NodeEntry → Type 0
AreMovedTo moved zero old new = new ≡ old
AreMovedTo moved (suc i) [] new = ⊥
AreMovedTo moved (suc i) (e ∷ es) [] = ⊥
AreMovedTo moved (suc i) (e ∷ es) (f ∷ fs) = IsMovedEntry moved e f × AreMovedTo moved i es fs

pub all_moved : (moved : MovedSection) (i : ℕ) (old new : List NodeEntry) → AreMovedTo moved i old new → length new ≤ i → AllZip (IsMovedEntry moved) old new
all_moved moved zero old [] h long = subst (λ (es : List NodeEntry). AllZip (IsMovedEntry moved) es []) h tt
all_moved moved zero old (f ∷ fs) h long = absurd (omega arith)
all_moved moved (suc i) [] new h long = absurd h
all_moved moved (suc i) (e ∷ es) [] h long = absurd h
all_moved moved (suc i) (e ∷ es) (f ∷ fs) h long = (h.0, all_moved moved i es fs h.1 (omega arith))

pub as_many_entries : (moved : MovedSection) (i : ℕ) (old new : List NodeEntry) → AreMovedTo moved i old new → length new ≡ length old
as_many_entries moved zero old new h = ap length h
as_many_entries moved (suc i) [] new h = absurd h
as_many_entries moved (suc i) (e ∷ es) [] h = absurd h
as_many_entries moved (suc i) (e ∷ es) (f ∷ fs) h = ap suc (as_many_entries moved i es fs h.1)

pub one_more_moved : (moved : MovedSection) (i : ℕ) (old new : List NodeEntry) (x y : NodeEntry) (found : Option ℕ) → AreMovedTo moved i old new → i < length new → x ≡ get_or new i x → y ≡ get_or new i y → IsMovedOffset moved x.offset found
    → AreMovedTo moved (suc i) old (set new i (record { first = y.first; prefix = y.prefix; offset = found }))
one_more_moved moved zero [] new x y found h lt a b m = absurd (let e = ap length h in omega arith)
one_more_moved moved zero (e ∷ es) [] x y found h lt a b m = absurd (omega arith)
one_more_moved moved zero (e ∷ es) (f ∷ fs) x y found h lt a b m =
    let same : f ≡ e = cc in
    (record { first = ap (λ (z : NodeEntry). z.first) (b ∙ same); prefix = ap (λ (z : NodeEntry). z.prefix) (b ∙ same); offset = subst (λ (z : NodeEntry). IsMovedOffset moved z.offset found) (a ∙ same) m }, cc)
one_more_moved moved (suc i) [] new x y found h lt a b m = absurd h
one_more_moved moved (suc i) (e ∷ es) [] x y found h lt a b m = absurd h
one_more_moved moved (suc i) (e ∷ es) (f ∷ fs) x y found h lt a b m = (h.0, one_more_moved moved i es fs x y found h.1 (omega arith) a b m)

-- what an answer says
pub some_moves : (moved : MovedSection) (from : ℕ) (o : Option ℕ) → IfSome o (MovesTo moved from) → is_some o ≡ true → HasMoved moved from
some_moves moved from None h is = absurd (false≢true is)
some_moves moved from (Some to) h is = (to, h)

-- ---- values and entries that moved

-- the entry has no offset, or the one to which its value moved
abbrev IsExactOffset : MovedSection → Option ℕ → Option ℕ → Type 0
IsExactOffset moved None found = found ≡ None
IsExactOffset moved (Some from) found = (to : ℕ) × (found ≡ Some to) × MovesTo moved from to

record IsExactly (moved : MovedSection) (old new : NodeEntry) : Type 0 where
  first : new.first ≡ old.first
  prefix : new.prefix ≡ old.prefix
  offset : IsExactOffset moved old.offset new.offset

module _ (tiles : List Tile) (section : List ℕ) (laid : AreTiles tiles section) (once : NoneTwice tiles) (moved : MovedSection) (is : IsMoved tiles moved) where
  -- where these trees begin now
  record AreNow (vs : List Tree) (offsets : List ℕ) : Type 0 where
    to : List ℕ
    zip : AllZip (MovesTo moved) offsets to
    begin : AllBegin is.now vs to

  are_now : (vs : List Tree) (offsets : List ℕ) → AllBegin tiles vs offsets → AllByRecursion (HasMoved moved) offsets → AreNow vs offsets
  are_now [] [] begin all = record { to = []; zip = tt; begin = tt }
  are_now [] (o ∷ os) begin all = absurd begin
  are_now (v ∷ vs) [] begin all = absurd begin
  are_now (v ∷ vs) (o ∷ os) begin all =
      let rest = are_now vs os begin.1 all.1 in
      let x = is.each o all.0.0 all.0.1 in
      let there : IsPart tiles (At o) (without_pointers x.0.tree) = (x.0, x.1, x.2, refl) in
      let same : without_pointers x.0.tree ≡ v = one_part tiles section laid o (without_pointers x.0.tree) v there begin.0 in
      record { to = all.0.0 ∷ rest.to; zip = (all.0.1, rest.zip); begin = (subst (IsPart is.now (At all.0.0)) same x.3, rest.begin) }

  exact_offset : (offsets : List ℕ) → AllByRecursion (HasMoved moved) offsets → (value old new : Option ℕ) → IsOffsetOf offsets value old → IsMovedOffset moved old new → IsExactOffset moved old new
  exact_offset offsets all value None new h m = m
  exact_offset offsets all value (Some o) (Some n) h m = (n, refl, m)
  exact_offset offsets all None (Some o) None h m = absurd (cc)
  exact_offset offsets all (Some i) (Some o) None h m =
      let same : h.0 ≡ o = (let e = h.2 in cc) in
      absurd (m tiles is (subst (HasMoved moved) same (all_at (HasMoved moved) offsets i h.0 all h.1)))

  exact_entries : (offsets : List ℕ) → AllByRecursion (HasMoved moved) offsets → (rows : List Row) (given entries : List NodeEntry) → AllZip (IsEntryOf offsets) rows given → AllZip (IsMovedEntry moved) given entries → AllZip (IsExactly moved) given entries
  exact_entries offsets all [] [] entries h k = k_none entries k where
    k_none : (es : List NodeEntry) → AllZip (IsMovedEntry moved) [] es → AllZip (IsExactly moved) [] es
    k_none [] x = tt
    k_none (e ∷ es) x = absurd x
  exact_entries offsets all [] (e ∷ es) entries h k = absurd h
  exact_entries offsets all (r ∷ rs) [] entries h k = absurd h
  exact_entries offsets all (r ∷ rs) (e ∷ es) [] h k = absurd k
  exact_entries offsets all (r ∷ rs) (e ∷ es) (f ∷ fs) h k = (
    record { first = k.0.first; prefix = k.0.prefix; offset = exact_offset offsets all r.value e.offset f.offset h.0.offset k.0.offset },
    exact_entries offsets all rs es fs h.1 k.1,
  )

  now_offset : (offsets to : List ℕ) → AllZip (MovesTo moved) offsets to → (value old new : Option ℕ) → IsOffsetOf offsets value old → IsExactOffset moved old new → IsOffsetOf to value new
  now_offset offsets to zip None old new h m = subst (λ (o : Option ℕ). IsExactOffset moved o new) h m
  now_offset offsets to zip (Some i) old new h m =
      let k = zip_right (MovesTo moved) offsets to zip i h.0 h.1 in
      let e = subst (λ (o : Option ℕ). IsExactOffset moved o new) h.2 m in
      let same : e.0 ≡ k.0 = moves_once tiles moved is once h.0 e.0 k.0 e.2 k.2 in
      (k.0, k.1, e.1 ∙ ap Some same)

  now_entries : (offsets to : List ℕ) → AllZip (MovesTo moved) offsets to → (rows : List Row) (given entries : List NodeEntry) → AllZip (IsEntryOf offsets) rows given → AllZip (IsExactly moved) given entries → AllZip (IsEntryOf to) rows entries
  now_entries offsets to zip [] [] [] h k = tt
  now_entries offsets to zip [] [] (f ∷ fs) h k = absurd k
  now_entries offsets to zip [] (e ∷ es) entries h k = absurd h
  now_entries offsets to zip (r ∷ rs) [] entries h k = absurd h
  now_entries offsets to zip (r ∷ rs) (e ∷ es) [] h k = absurd k
  now_entries offsets to zip (r ∷ rs) (e ∷ es) (f ∷ fs) h k =
      let block : block_of e ≡ block_of f = ap (λ (n : ℕ). record { first = n; prefix = e.prefix }) (sym k.0.first) ∙ ap (λ (n : ℕ). record { first = f.first; prefix = n }) (sym k.0.prefix) in (
        record {
          block = subst IsBlock block h.0.block;
          bits = subst (λ (b : Block). Rattle.std.specs.Prelude.take b.prefix (bits_of 128 b.first) ≡ network_bits r.network) block h.0.bits;
          offset = now_offset offsets to zip r.value e.offset f.offset h.0.offset k.0.offset;
        },
        now_entries offsets to zip rs es fs h.1 k.1,
      )

-- ---- the numbers of a tree stay as many

-- where the value that is at an offset now began
from_of : Place → ℕ → ℕ → ℕ → ℕ
from_of (places.At k) from to rest = cond (eqb k to) from rest
from_of (places.InLine line) from to rest = rest

origin : List Moved → ℕ → ℕ
origin [] to = 0
origin (m ∷ ms) to = from_of m.place m.from to (origin ms to)

-- it is one of those that moved there
origin_there : (ms : List Moved) (from to : ℕ) → HasPlace ms from (places.At to) → HasPlace ms (origin ms to) (places.At to)
unfolding origin from_of
origin_there [] from to h = let e = h.1 in absurd (cc)
origin_there (m ∷ ms) from to h = by m.place refl h.0 h.1 (λ i got. origin_there ms from to (i, got)) where
  behind : HasPlace ms (origin ms to) (places.At to) → HasPlace (m ∷ ms) (origin ms to) (places.At to)
  behind k = (suc k.0, k.1)

  at : (k : ℕ) → m.place ≡ places.At k → (b : Bool) → eqb k to ≡ b → (i : ℕ) → slice_get (m ∷ ms) i ≡ Some (record { from = from; place = places.At to })
      → ((j : ℕ) → slice_get ms j ≡ Some (record { from = from; place = places.At to }) → HasPlace ms (origin ms to) (places.At to)) → HasPlace (m ∷ ms) (cond b m.from (origin ms to)) (places.At to)
  at k place true same i got rest = (zero, ap Some (same_moved m m.from (places.At to) refl (place ∙ ap places.At (starts_same k to same))))
  at k place false other zero got rest =
      let whole : m ≡ record { from = from; place = places.At to } = cc in
      let e : places.At k ≡ places.At to = sym place ∙ ap (λ (x : Moved). x.place) whole in
      let n : k ≡ to = cc in
      absurd (false≢true (sym other ∙ same_start k to n))
  at k place false other (suc i) got rest = behind (rest i got)

  by : (p : Place) → m.place ≡ p → (i : ℕ) → slice_get (m ∷ ms) i ≡ Some (record { from = from; place = places.At to })
      → ((j : ℕ) → slice_get ms j ≡ Some (record { from = from; place = places.At to }) → HasPlace ms (origin ms to) (places.At to)) → HasPlace (m ∷ ms) (from_of p m.from to (origin ms to)) (places.At to)
  by (places.At k) place i got rest = at k place (eqb k to) refl i got rest
  by (places.InLine line) place zero got rest =
      let whole : m ≡ record { from = from; place = places.At to } = cc in
      let e : places.InLine line ≡ places.At to = sym place ∙ ap (λ (x : Moved). x.place) whole in
      absurd (cc)
  by (places.InLine line) place (suc i) got rest = behind (rest i got)

-- an entry with another offset
with_offset : (ℕ → ℕ) → NodeEntry → NodeEntry
with_offset f e = record { first = e.first; prefix = e.prefix; offset = option_map f e.offset }

module _ (f : ℕ → ℕ) where
  ordered_with : (es : List NodeEntry) → IsOrdered es → IsOrdered (map (with_offset f) es)
  unfolding with_offset
  ordered_with [] o = tt
  ordered_with (e ∷ es) o = (behind es o.0, ordered_with es o.1) where
    behind : (xs : List NodeEntry) → AllByRecursion (ComesBefore e) xs → AllByRecursion (ComesBefore (with_offset f e)) (map (with_offset f) xs)
    behind [] all = tt
    behind (x ∷ xs) all = (all.0, behind xs all.1)

  filter_with : (e : NodeEntry) (es : List NodeEntry) → filter (is_same_block e) (map (with_offset f) es) ≡ map (with_offset f) (filter (is_same_block e) es)
  unfolding with_offset
  filter_with e [] = refl
  filter_with e (x ∷ xs) = by (is_same_block e x) (filter_with e xs) where
    by : (b : Bool) → filter (is_same_block e) (map (with_offset f) xs) ≡ map (with_offset f) (filter (is_same_block e) xs)
        → cond b (with_offset f x ∷ filter (is_same_block e) (map (with_offset f) xs)) (filter (is_same_block e) (map (with_offset f) xs)) ≡ map (with_offset f) (cond b (x ∷ filter (is_same_block e) xs) (filter (is_same_block e) xs))
    by true rest = ap (λ (ys : List NodeEntry). with_offset f x ∷ ys) rest
    by false rest = rest

  offset_with : (found : Option ℕ) (es : List NodeEntry) (a : ℕ) → offset_after (option_map f found) (map (with_offset f) es) a ≡ option_map f (offset_after found es a)
  unfolding with_offset
  offset_with found [] a = refl
  offset_with found (e ∷ es) a = ap (λ (o : Option ℕ). offset_after o (map (with_offset f) es) a) (by (has e a)) ∙ offset_with (cond (has e a) e.offset found) es a where
    by : (b : Bool) → cond b (option_map f e.offset) (option_map f found) ≡ option_map f (cond b e.offset found)
    by true = refl
    by false = refl

-- what all entries and what was found before have, the offset of each address has
offset_has : (P : ℕ → Type 0) (found : Option ℕ) (es : List NodeEntry) (a : ℕ) → IfSome found P → ((j : ℕ) (e : NodeEntry) → slice_get es j ≡ Some e → IfSome e.offset P) → IfSome (offset_after found es a) P
offset_has P found [] a h all = h
offset_has P found (e ∷ es) a h all = offset_has P (cond (has e a) e.offset found) es a (by (has e a)) (λ j x at. all (suc j) x at) where
  by : (b : Bool) → IfSome (cond b e.offset found) P
  by true = all zero e refl
  by false = h

module _ (one other : ℕ → Option ℕ) (alike : (x y : ℕ) → is_same (one x) (one y) ≡ is_same (other x) (other y)) where
  same_all : (first n : ℕ) → all_same one first n ≡ all_same other first n
  unfolding all_same
  same_all first zero = refl
  same_all first (suc n) = ap (λ (b : Bool). b && all_same one first n) (alike (first + n) first) ∙ ap (λ (b : Bool). is_same (other (first + n)) (other first) && b) (same_all first n)

  same_splits : (first free : ℕ) → splits one first free ≡ splits other first free
  unfolding splits
  same_splits first zero = refl
  same_splits first (suc half) =
      let a : cond (all_same one first (2 ^ suc half)) 0 1 ≡ cond (all_same other first (2 ^ suc half)) 0 1 = ap (λ (b : Bool). cond b 0 1) (same_all first (2 ^ suc half)) in
      let b = same_splits first half in
      let c = same_splits (first + 2 ^ half) half in
      ap (λ (n : ℕ). n + (splits one first half + splits one (first + 2 ^ half) half)) a
      ∙ ap (λ (n : ℕ). cond (all_same other first (2 ^ suc half)) 0 1 + (n + splits one (first + 2 ^ half) half)) b
      ∙ ap (λ (n : ℕ). cond (all_same other first (2 ^ suc half)) 0 1 + (splits other first half + n)) c

both_tests : (x y k n : ℕ) → (x ≡ y → k ≡ n) → (k ≡ n → x ≡ y) → (b c : Bool) → eqb x y ≡ b → eqb k n ≡ c → b ≡ c
both_tests x y k n to from true true e f = refl
both_tests x y k n to from false false e f = refl
both_tests x y k n to from true false e f = absurd (false≢true (sym f ∙ same_start k n (to (starts_same x y e))))
both_tests x y k n to from false true e f = absurd (false≢true (sym e ∙ same_start x y (from (starts_same k n f))))

module _ (tiles : List Tile) (moved : MovedSection) (is : IsMoved tiles moved) (once : NoneTwice tiles) where
  abbrev began : ℕ → ℕ
  began to = origin moved.moved.items to

  -- a value moved there
  abbrev IsThere : ℕ → Type 0
  IsThere to = (from : ℕ) × MovesTo moved from to

  began_is : (from to : ℕ) → MovesTo moved from to → began to ≡ from
  began_is from to h = comes_once tiles moved is once (origin moved.moved.items to) from to (origin_there moved.moved.items from to h) h

  alike_offsets : (x y : Option ℕ) → IfSome x IsThere → IfSome y IsThere → is_same (option_map began x) (option_map began y) ≡ is_same x y
  alike_offsets None None h k = refl
  alike_offsets None (Some y) h k = refl
  alike_offsets (Some x) None h k = refl
  alike_offsets (Some x) (Some y) h k =
      let a : began x ≡ h.0 = began_is h.0 x h.1 in
      let b : began y ≡ k.0 = began_is k.0 y k.1 in
      both_tests (began x) (began y) x y
      (λ same. moves_once tiles moved is once k.0 x y (subst (λ (n : ℕ). MovesTo moved n x) (sym a ∙ same ∙ b) h.1) k.1)
      (λ same. ap began same) (eqb (began x) (began y)) (eqb x y) refl refl

  -- the entries as they were
  were_given : (given entries : List NodeEntry) → AllZip (IsExactly moved) given entries → map (with_offset began) entries ≡ given
  unfolding with_offset
  were_given [] [] zip = refl
  were_given [] (f ∷ fs) zip = absurd zip
  were_given (e ∷ es) [] zip = absurd zip
  were_given (e ∷ es) (f ∷ fs) zip =
      ap (λ (x : NodeEntry). x ∷ map (with_offset began) fs)
      (ap (λ (n : ℕ). record { first = n; prefix = f.prefix; offset = option_map began f.offset }) zip.0.first
      ∙ ap (λ (n : ℕ). record { first = e.first; prefix = n; offset = option_map began f.offset }) zip.0.prefix
      ∙ ap (λ (o : Option ℕ). record { first = e.first; prefix = e.prefix; offset = o }) (by e.offset f.offset zip.0.offset))
      ∙ ap (λ (xs : List NodeEntry). e ∷ xs) (were_given es fs zip.1)
    where
      by : (old new : Option ℕ) → IsExactOffset moved old new → option_map began new ≡ old
      by None new h = ap (option_map began) h
      by (Some o) new h = ap (option_map began) h.1 ∙ ap Some (began_is o h.0 h.2)

  are_there : (given entries : List NodeEntry) → AllZip (IsExactly moved) given entries → (j : ℕ) (f : NodeEntry) → slice_get entries j ≡ Some f → IfSome f.offset IsThere
  are_there given entries zip j f at = let e = zip_left (IsExactly moved) given entries zip j f at in by e.0.offset f.offset e.2.offset where
    by : (old new : Option ℕ) → IsExactOffset moved old new → IfSome new IsThere
    by None new h = subst (λ (o : Option ℕ). IfSome o IsThere) (sym h) tt
    by (Some o) new h = subst (λ (x : Option ℕ). IfSome x IsThere) (sym h.1) (o, h.2)

  own_block : (e : NodeEntry) → is_same_block e e ≡ true
  own_block e = let a = same_start e.first e.first refl in let b = same_start e.prefix e.prefix refl in rw (a, b) refl

  needs_as_many : (options : Options) (section bytes : List ℕ) (given entries : List NodeEntry) → AllZip (IsExactly moved) given entries → length bytes ≤ length section → NeedsTooMany options bytes entries → NeedsTooMany options section given
  needs_as_many options section bytes given entries zip shorter n =
      let es = n.entries in
      let was : List NodeEntry = map (with_offset began) es in
      let there : (j : ℕ) (f : NodeEntry) → slice_get es j ≡ Some f → IfSome f.offset IsThere =
      λ j f at. let k = still_in (is_same_block f) es entries j f (n.order.stable f) at (own_block f) in are_there given entries zip k.0 f k.1 in
      let version : IpVersion = options.ip_version in
      let alike : (x y : ℕ) → is_same (offset_in was x) (offset_in was y) ≡ is_same (offset_in es x) (offset_in es y) =
      λ x y. ap (λ (o : Option ℕ). is_same o (offset_in was y)) (offset_with began None es x) ∙ ap (is_same (option_map began (offset_in es x))) (offset_with began None es y)
      ∙ alike_offsets (offset_in es x) (offset_in es y) (offset_has IsThere None es x tt there) (offset_has IsThere None es y tt there) in
      let as_many : nodes_for version was ≡ nodes_for version es = ap (max 1) (same_splits (offset_in was) (offset_in es) alike 0 (width version)) in
      let many = n.many in
      record {
        entries = was;
        order = record {
          ordered = ordered_with began es n.order.ordered;
          stable = λ e. filter_with began e es ∙ ap (map (with_offset began)) (n.order.stable e) ∙ sym (filter_with began e entries) ∙ ap (filter (is_same_block e)) (were_given given entries zip);
        };
        many = omega arith;
      }

module _ (values : List Value) (rows : List Row) (options : Options) (writer : Writer) (made : IsMadeOf values rows options writer) (bytes : List ℕ) (entries : List NodeEntry) where
  abbrev section : List ℕ
  section = writer.section.bytes

  once : NoneTwice made.tiles
  once t u t_is u_is same = none_twice made.tiles writer.section t u made.once t_is u_is same

  pub has_added : IsLaidOut writer.section.bytes writer.offsets.items writer.entries.items bytes entries → HasAdded values rows bytes entries
  has_added (inr same) = record {
    tiles = made.tiles;
    laid = subst (AreTiles made.tiles) (sym same.0) made.once.has.are;
    once = once;
    offsets = writer.offsets.items;
    begin = made.begin;
    entries_are = subst (AllZip (IsEntryOf writer.offsets.items) rows) (sym same.1) made.entries_are;
  }
  has_added (inl s) =
      let laid : AreTiles made.tiles section = made.once.has.are in
      let is = s.is made.tiles laid in
      let now = are_now made.tiles section laid once s.moved is (map value_tree values) writer.offsets.items made.begin s.all in
      let exact = exact_entries made.tiles section laid once s.moved is writer.offsets.items s.all rows writer.entries.items entries made.entries_are s.entries_are in
      record {
        tiles = is.now;
        laid = subst (AreTiles is.now) (sym s.are) is.are;
        once = still_once made.tiles s.moved is once;
        offsets = now.to;
        begin = now.begin;
        entries_are = now_entries made.tiles section laid once s.moved is writer.offsets.items now.to now.zip rows writer.entries.items entries made.entries_are exact;
      }

  pub still_large : IsLaidOut writer.section.bytes writer.offsets.items writer.entries.items bytes entries → DoesNotFit options bytes entries → DoesNotFit options writer.section.bytes writer.entries.items
  still_large (inr same) large = subst (λ (b : List ℕ). DoesNotFit options b writer.entries.items) same.0 (subst (DoesNotFit options bytes) same.1 large)
  still_large (inl s) (inr metadata) = inr metadata
  still_large (inl s) (inl many) =
      let laid : AreTiles made.tiles section = made.once.has.are in
      let is = s.is made.tiles laid in
      let exact = exact_entries made.tiles section laid once s.moved is writer.offsets.items s.all rows writer.entries.items entries made.entries_are s.entries_are in
      let shorter = s.shorter in
      inl (needs_as_many made.tiles s.moved is once options section bytes writer.entries.items entries exact (omega arith) many)
