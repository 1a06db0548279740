-- Sections with one value more, and values that are in them already.
use Rattle.std.proofs.Common.{◌≡◌, inl, inr, ℕ, ◌+◌, eqb, Bool, true, false, cond, List, [], ◌∷◌, ◌++◌, length, Some, arith, refl, ap, sym, ◌∙◌, subst, append-nil, append_assoc, length-append}
use Rattle.std.specs.Prelude.{◌||◌}
use Rattle.std.specs.List.{AllByRecursion}
use Rattle.std.specs.Str.{bytes_eq}
use Rattle.std.proofs.lemmas.Bool.{false≢true}
use Rattle.mmdb_format.specs.Unfolding.{Tree, Unfolds, levels, without_pointers}
use Rattle.mmdb_format.proofs.UnfoldingLaws.{one_tree}
use Rattle.mmdb_section.specs.declared.value.SectionPart.TheVariants.{At}
use Rattle.mmdb_section.specs.Bytes.{shape_bytes}
use Rattle.mmdb_section.specs.Sections.{Tile, IsChain, IsTile, is_start, IsLaid, AreTiles, Shape, SectionView, start_of, IsSection, IsPart, HoldsAt}
use Rattle.mmdb_section.specs.Working.{Grows, IsWrittenDirect, StandAt}
use Rattle.mmdb_section.proofs.WriteLemmas.{laid_tile, or_cases, starts_same, start_of_tile}

-- ---- lists of values with one more

chain_snoc : (from to : ℕ) (ts : List Tile) (t : Tile) → IsChain from ts to → t.start ≡ to → IsChain from (ts ++ t ∷ []) t.end
chain_snoc from to [] t h e = (e ∙ sym h, refl)
chain_snoc from to (u ∷ us) t h e = (h.0, chain_snoc u.end to us t h.1 e)

last_tile : (t : Tile) (ts : List Tile) → IsTile t (ts ++ t ∷ [])
last_tile t [] = inl refl
last_tile t (u ∷ us) = inr (last_tile t us)

or_weaker : (a b c : Bool) → (b ≡ true → c ≡ true) → (a || b) ≡ true → (a || c) ≡ true
or_weaker true b c h k = refl
or_weaker false b c h k = h k

pub earlier_start : (q : ℕ) (ts : List Tile) (t : Tile) → is_start ts q ≡ true → is_start (ts ++ t ∷ []) q ≡ true
earlier_start q [] t h = absurd (false≢true h)
earlier_start q (u ∷ us) t h = or_weaker (eqb q u.start) (is_start us q) (is_start (us ++ t ∷ []) q) (earlier_start q us t) h

all_snoc : (P : Tile → Type 0) (ts : List Tile) (t : Tile) → AllByRecursion P ts → P t → AllByRecursion P (ts ++ t ∷ [])
all_snoc P [] t all last = (last, tt)
all_snoc P (u ∷ us) t all last = (all.0, all_snoc P us t all.1 last)

all_weaker : (P Q : Tile → Type 0) → ((t : Tile) → P t → Q t) → (ts : List Tile) → AllByRecursion P ts → AllByRecursion Q ts
all_weaker P Q f [] all = tt
all_weaker P Q f (t ∷ ts) all = (f t all.0, all_weaker P Q f ts all.1)

-- ---- a section with one value more

still_laid : (tiles : List Tile) (u : Tile) (old more : List ℕ) (t : Tile) → IsLaid tiles old t → IsLaid (tiles ++ u ∷ []) (old ++ more) t
still_laid tiles u old more t laid = record {
  unfolds = λ behind. subst (λ (xs : List ℕ). Unfolds xs t.start t.tree t.end) (sym (append_assoc old more behind)) (laid.unfolds (more ++ behind));
  direct = laid.direct;
  texts = laid.texts;
  closed = λ q h. earlier_start q tiles u (laid.closed q h);
  levels = laid.levels;
}

module _ (tiles : List Tile) (v : Tree) (old xs : List ℕ) (are : AreTiles tiles old) (w : IsWrittenDirect tiles old v xs) where
  -- the value behind the others
  unfoldable pub added : Tile
  added = record { start = length old; tree = w.written.t; end = length old + length xs }

  added_laid : IsLaid (tiles ++ added ∷ []) (old ++ xs) added
  unfolding added
  added_laid = record {
    unfolds = λ behind.
        subst (λ (s : List ℕ). Unfolds s (length old) w.written.t (length old + length xs)) (sym (append_assoc old xs behind)) (w.written.unfolds old behind (xs ++ behind, refl));
    direct = w.direct;
    texts = w.written.texts;
    closed = λ q h. earlier_start q tiles added (w.written.closed q h);
    levels = let e = ap levels w.written.value in let f = w.levels in omega arith;
  }

  pub more_tiles : AreTiles (tiles ++ added ∷ []) (old ++ xs)
  unfolding added
  more_tiles = record {
    chain = subst (λ (n : ℕ). IsChain 0 (tiles ++ added ∷ []) n) (sym (length-append old xs)) (chain_snoc 0 (length old) tiles added are.chain refl);
    each = all_snoc (IsLaid (tiles ++ added ∷ []) (old ++ xs)) tiles added
        (all_weaker (IsLaid tiles old) (IsLaid (tiles ++ added ∷ []) (old ++ xs)) (still_laid tiles added old xs) tiles are.each) added_laid;
  }

  pub added_part : IsPart (tiles ++ added ∷ []) (At (length old)) v
  unfolding added
  added_part = (added, last_tile added tiles, refl, w.written.value)

module _ (tiles : List Tile) (v : Tree) (old new : SectionView) (start : ℕ) (xs : List ℕ) (section : IsSection tiles old) (w : IsWrittenDirect tiles old.bytes v xs)
    (bytes : new.bytes ≡ old.bytes ++ xs) (known : (shape : Shape) → start_of new shape ≡ cond (bytes_eq xs (shape_bytes shape)) (Some start) (start_of old shape)) (at : start ≡ length old.bytes) where
  abbrev tile : Tile
  tile = added tiles v old.bytes xs section.are w

  known_start : (shape : Shape) (offset : ℕ) → start_of new shape ≡ Some offset → is_start (tiles ++ tile ∷ []) offset ≡ true
  unfolding added
  known_start shape offset is = by (bytes_eq xs (shape_bytes shape)) (sym (known shape) ∙ is) where
    by : (b : Bool) → cond b (Some start) (start_of old shape) ≡ Some offset → is_start (tiles ++ tile ∷ []) offset ≡ true
    by true h =
        let same : start ≡ offset = cc in
        subst (λ (n : ℕ). is_start (tiles ++ tile ∷ []) n ≡ true) (sym at ∙ same) (start_of_tile tile (tiles ++ tile ∷ []) (last_tile tile tiles))
    by false h = earlier_start offset tiles tile (section.known shape offset h)

  pub value_added : HoldsAt tiles v new start
  unfolding added
  value_added = record {
    holds = record {
      more = tile ∷ [];
      has = record { are = subst (AreTiles (tiles ++ tile ∷ [])) (sym bytes) (more_tiles tiles v old.bytes xs section.are w); known = known_start };
      is_part = (tile, last_tile tile tiles, sym at, w.written.value);
    };
    only = ((sym at, w.written.value), tt);
  }

-- ---- a value that is in the section already

record IsAmong (tiles : List Tile) (start : ℕ) : Type 0 where
  tile : Tile
  is : IsTile tile tiles
  at : tile.start ≡ start

tile_at : (tiles : List Tile) (start : ℕ) → is_start tiles start ≡ true → IsAmong tiles start
tile_at [] start h = absurd (false≢true h)
tile_at (t ∷ ts) start h = elim (or_cases (eqb start t.start) (is_start ts start) h) [
  | inl here ↦ record { tile = t; is = inl refl; at = sym (starts_same start t.start here) }
  | inr later ↦ let w = tile_at ts start later in record { tile = w.tile; is = inr w.is; at = w.at }
]

pub value_found : (tiles : List Tile) (v : Tree) (section : SectionView) (shape : Shape) (start : ℕ) (xs : List ℕ) → IsSection tiles section → IsWrittenDirect tiles section.bytes v xs
    → StandAt section.bytes start xs → start_of section shape ≡ Some start → HoldsAt tiles v section start
value_found tiles v section shape start xs has w there known =
    let among = tile_at tiles start (has.known shape start known) in
    let laid = laid_tile (IsLaid tiles section.bytes) among.tile tiles has.are.each among.is in
    let whole : Unfolds section.bytes among.tile.start among.tile.tree among.tile.end = subst (λ (s : List ℕ). Unfolds s among.tile.start among.tile.tree among.tile.end) (append-nil section.bytes) (laid.unfolds []) in
    let grown : Grows section.bytes (there.before ++ (xs ++ there.behind)) = ([], sym there.whole ∙ sym (append-nil section.bytes)) in
    let written = w.written.unfolds there.before there.behind grown in
    let moved : Unfolds section.bytes (length there.before) w.written.t (length there.before + length xs) = subst (λ (s : List ℕ). Unfolds s (length there.before) w.written.t (length there.before + length xs)) (sym there.whole) written in
    let from : length there.before ≡ among.tile.start = there.start_is ∙ sym among.at in
    let same : among.tile.tree ≡ w.written.t = (one_tree whole (subst (λ (n : ℕ). Unfolds section.bytes n w.written.t (length there.before + length xs)) from moved)).0 in
    record {
      holds = record {
        more = [];
        has = subst (λ (ts : List Tile). IsSection ts section) (sym (append-nil tiles)) has;
        is_part = subst (λ (ts : List Tile). IsPart ts (At start) v) (sym (append-nil tiles)) (among.tile, among.is, among.at, ap without_pointers same ∙ w.written.value);
      };
      only = tt;
    }
