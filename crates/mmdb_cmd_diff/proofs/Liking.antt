-- When records are alike.
use Rattle.std.proofs.Common.{◌≡◌, ◌∙◌, ◌⊎◌, inl, inr, ℕ, Bool, true, false, List, [], Option, Result, Ok, Err, IfOk, IfErr, Some, None, refl, sym, ap, subst, option_map}
use Rattle.std.specs.Borrow.{Bor}
use Rattle.std.specs.Option.{ForSome}
use Rattle.std.specs.declared.convert.AsSlice.{Ghosts}
use Rattle.mmdb_cache.specs.declared.table.Memo.{Memo}
use Rattle.mmdb_cache.specs.Table.{HasKey}
use Rattle.mmdb_format.specs.Error.{MemoryApart}
use Rattle.mmdb_format.specs.Unfolding.{Tree}
use Rattle.mmdb_format.specs.declared.error.MaxMindDbError.{MaxMindDbError}
use Rattle.mmdb_format.specs.declared.error.MaxMindDbError.TheVariants.{Memory, InvalidDatabase, Io, Decoding, ResourceLimit, InvalidNetwork, InvalidInput}
use Rattle.mmdb_decode.specs.Errors.{answer}
use Rattle.mmdb_reader.specs.Decoding.{FailsToDecode}
use Rattle.mmdb_reader.specs.Selecting.{SelectsTo, answer_along}
use Rattle.mmdb_value.specs.AnyValue.{value_at}
use Rattle.mmdb_value.proofs.StandingLaws.{answer_is_whole_value}
use Rattle.mmdb_reader.specs.Found.{section_asked, offset_found}
use Rattle.mmdb_reader.specs.declared.lookup_result.LookupResult.{LookupResult}
use Rattle.mmdb_compare.specs.declared.pairs.KnownPairs.{KnownPairs}
use Rattle.mmdb_compare.specs.declared.pairs.Offsets.{Offsets}
use Rattle.mmdb_compare.specs.Kept.{AreKeptAs, ArePairsOr, AreOrThis, AreOfNone}
use Rattle.mmdb_compare.specs.Same.{Sections, HaveSameValue}
use Rattle.mmdb_json.specs.Texts.{IsCompact}
use Rattle.mmdb_cmd_diff.specs.Alike.{AreAlikeIn, AreAlike, IsOfAlike, AreOfAlike, AreKeptAlike, IsUnreadable, IsFoundIn, AreFoundIn, IsRead, HaveSameText, IsTextIf}
use Rattle.mmdb_cmd_diff.specs.Seen.{HaveOneValue}
use Rattle.mmdb_cmd_diff.specs.Shown.{IsShown, null_text}
use Rattle.mmdb_cmd_diff.specs.Showing.{Showing, offset_at}
use Rattle.mmdb_cmd_diff.proofs.Showing.{shown_value, one_kept}

-- ---- what is read

some-none : {A : Type 0} (x : Option A) → option_map Some x ≡ Some None → ⊥
some-none None h = cc
some-none (Some y) h = cc

some-some : {A : Type 0} (x : Option A) (y : A) → option_map Some x ≡ Some (Some y) → x ≡ Some y
some-some None y h = absurd (cc)
some-some (Some z) y h = cc

none-none : {A : Type 0} (x : Option A) → option_map Some x ≡ None → x ≡ None
none-none None h = refl
none-none (Some y) h = absurd (cc)

-- what a reading along no path gives
pub read-whole : {T : Type 0} (datum : T → Tree) (s : List ℕ) (at : Option ℕ) (value : Option T) → SelectsTo datum (answer_along [] true (value_at true) s) at value
    → IsRead s at (option_map datum value)
read-whole datum s None value h = ap (option_map datum) h
read-whole datum s (Some offset) None h = absurd (some-none (answer true (value_at true) s offset) h)
read-whole datum s (Some offset) (Some v) h = some-some (answer true (value_at true) s offset) (datum v) h

fails-whole : (s : List ℕ) (at : Option ℕ) (e : MaxMindDbError) → FailsToDecode false e (answer_along [] true (value_at true) s) at → MemoryApart e (IsUnreadable s at)
fails-whole s None e h = absurd h
fails-whole s (Some offset) Memory h = tt
fails-whole s (Some offset) (InvalidDatabase message place) h = none-none (answer true (value_at true) s offset) h
fails-whole s (Some offset) (Io e) h = none-none (answer true (value_at true) s offset) h
fails-whole s (Some offset) (Decoding message place path) h = none-none (answer true (value_at true) s offset) h
fails-whole s (Some offset) (ResourceLimit message place path) h = none-none (answer true (value_at true) s offset) h
fails-whole s (Some offset) (InvalidNetwork e) h = none-none (answer true (value_at true) s offset) h
fails-whole s (Some offset) (InvalidInput message) h = none-none (answer true (value_at true) s offset) h

pub apart-weaker : (e : MaxMindDbError) (P Q : Type 0) → (P → Q) → MemoryApart e P → MemoryApart e Q
apart-weaker Memory P Q f h = tt
apart-weaker (InvalidDatabase message place) P Q f h = f h
apart-weaker (Io e) P Q f h = f h
apart-weaker (Decoding message place path) P Q f h = f h
apart-weaker (ResourceLimit message place path) P Q f h = f h
apart-weaker (InvalidNetwork e) P Q f h = f h
apart-weaker (InvalidInput message) P Q f h = f h

-- ---- two records that were read

pub alike-read : (s : Sections) (old new : Option ℕ) (v w : Option Tree) → IsRead s.in_old old v → IsRead s.in_new new w → v ≡ w → AreAlikeIn s old new
alike-read s None None v w p q same = inr (null_text, refl, refl)
alike-read s None (Some n) v None p q same = absurd q
alike-read s None (Some n) None (Some w) p q same = absurd (cc)
alike-read s None (Some n) (Some v) (Some w) p q same = absurd (cc)
alike-read s (Some o) new None w p q same = absurd p
alike-read s (Some o) None (Some v) None p q same = absurd (cc)
alike-read s (Some o) None (Some v) (Some w) p q same = absurd (cc)
alike-read s (Some o) (Some n) (Some v) None p q same = absurd q
alike-read s (Some o) (Some n) (Some v) (Some w) p q same =
    inl (v, (answer_is_whole_value true s.in_old o v).0 p, (answer_is_whole_value true s.in_new n v).0 (q ∙ sym same))

pub alike-text : (s : Sections) (old new : Option ℕ) (v w : Option Tree) → IsRead s.in_old old v → IsRead s.in_new new w → HaveSameText v w → AreAlikeIn s old new
alike-text s None None v w p q same = inr (null_text, refl, refl)
alike-text s None (Some n) v None p q same = absurd q
alike-text s None (Some n) None (Some w) p q same = absurd same
alike-text s None (Some n) (Some v) (Some w) p q same = absurd (cc)
alike-text s (Some o) new None w p q same = absurd p
alike-text s (Some o) None (Some v) None p q same = absurd same
alike-text s (Some o) None (Some v) (Some w) p q same = absurd (cc)
alike-text s (Some o) (Some n) (Some v) None p q same = absurd q
alike-text s (Some o) (Some n) (Some v) (Some w) p q (text, a, b) = inr (text, shown_value s.in_old o v text p a, shown_value s.in_new n w text q b)

pub same-text : (v w : Option Tree) (a b : Option (List ℕ)) → IsTextIf v a → IsTextIf w b → a ≡ b → HaveSameText v w
same-text None None a b p q same = tt
same-text None (Some w) a None p q same = absurd q
same-text None (Some w) None (Some t) p q same = absurd (cc)
same-text None (Some w) (Some r) (Some t) p q same = absurd (cc)
same-text (Some v) w None b p q same = absurd p
same-text (Some v) None (Some r) None p q same = absurd (cc)
same-text (Some v) None (Some r) (Some t) p q same = absurd (cc)
same-text (Some v) (Some w) (Some r) None p q same = absurd q
same-text (Some v) (Some w) (Some r) (Some t) p q same = (r, p, subst (λ (x : List ℕ). IsCompact w x) (one-text t r (sym same)) q) where
  one-text : (x y : List ℕ) → Some x ≡ Some y → x ≡ y
  one-text x y h = cc

pub shown-read : (s : List ℕ) (at : Option ℕ) (v : Tree) (text : List ℕ) → IsRead s at (Some v) → IsCompact v text → IsShown s at text
shown-read s None v text p compact = absurd (cc)
shown-read s (Some offset) v text p compact = shown_value s offset v text p compact

pub shown-none : (s : List ℕ) (at : Option ℕ) → IsRead s at None → IsShown s at null_text
shown-none s None p = refl
shown-none s (Some offset) p = absurd p

-- ---- pairs that are kept

-- what is so of two records is so of all that are kept so
pub alike-for : (showing : Showing) (old new : Option ℕ) (offsets : Offsets) → AreKeptAs old new offsets → AreAlike showing old new → IsOfAlike showing offsets
alike-for showing old new offsets (a, b) h other newer (c, d) =
    let first : old ≡ other = one_kept old other offsets.old a c in
    let second : new ≡ newer = one_kept new newer offsets.new b d in
    subst (λ o. AreAlike showing o newer) first (subst (λ n. AreAlike showing old n) second h)

pub alike-seen : (showing : Showing) (s : Sections) (offsets : Offsets) → s ≡ showing.sections → HaveOneValue s offsets → IsOfAlike showing offsets
alike-seen showing s offsets same (old, new, kept, value) =
    alike-for showing (Some old) (Some new) offsets kept (λ whole. inl (subst (λ (z : Sections). HaveSameValue z old new) same value))

pub alike-none : {V : Type 0} (showing : Showing) (kept : List (Memo Offsets V)) → AreOfNone kept → AreOfAlike showing kept
alike-none showing kept none offsets there =
    alike-for showing None None offsets (none offsets there) (λ whole. inr (null_text, refl, refl))

either-alike : (showing : Showing) (put offsets : Offsets) (B : Type 0) → (B → IsOfAlike showing offsets) → IsOfAlike showing put → B ⊎ (offsets ≡ put) → IsOfAlike showing offsets
either-alike showing put offsets B all one (inl there) = all there
either-alike showing put offsets B all one (inr is) = subst (IsOfAlike showing) (sym is) one

pub alike-more : {V : Type 0} (showing : Showing) (put : Offsets) (before after : List (Memo Offsets V)) → AreOfAlike showing before → ArePairsOr put before after → IsOfAlike showing put
    → AreOfAlike showing after
alike-more showing put before after all kept one offsets there =
    either-alike showing put offsets (HasKey offsets before) (all offsets) one (kept offsets there)

-- one more that is kept so, or that came last
pub alike-keep : (showing : Showing) (put : Offsets) (is_same : Bool) (before mid after : KnownPairs) → mid ≡ before → (is_same ≡ true → ArePairsOr put mid.same after.same)
    → (is_same ≡ false → after.same ≡ mid.same) → after.last ≡ mid.last → (is_same ≡ true → IsOfAlike showing put) → AreKeptAlike showing before → AreKeptAlike showing after
alike-keep showing put true before mid after is same other last one all = record {
  same = alike-more showing put before.same after.same all.same (subst (λ (k : KnownPairs). ArePairsOr put k.same after.same) is (same refl)) (one refl);
  last = subst (λ k. AreOfAlike showing k) (sym (last ∙ ap (λ (k : KnownPairs). k.last) is)) all.last;
}
alike-keep showing put false before mid after is same other last one all = record {
  same = subst (λ k. AreOfAlike showing k) (sym (other refl ∙ ap (λ (k : KnownPairs). k.same) is)) all.same;
  last = subst (λ k. AreOfAlike showing k) (sym (last ∙ ap (λ (k : KnownPairs). k.last) is)) all.last;
}

either-last : (showing : Showing) (put : Option Offsets) (offsets : Offsets) (B : Type 0) → (B → IsOfAlike showing offsets) → ForSome put (IsOfAlike showing) → B ⊎ (put ≡ Some offsets) → IsOfAlike showing offsets
either-last showing put offsets B all one (inl there) = all there
either-last showing put offsets B all one (inr is) = one offsets is

pub alike-last : (showing : Showing) (put : Option Offsets) (before after : KnownPairs) → after.same ≡ before.same → AreOrThis put before.last after.last → AreKeptAlike showing before
    → ForSome put (IsOfAlike showing) → AreKeptAlike showing after
alike-last showing put before after same last all one = record {
  same = subst (λ k. AreOfAlike showing k) (sym same) all.same;
  last = λ offsets there. either-last showing put offsets (HasKey offsets before.last) (all.last offsets) one (last offsets there);
}

-- ---- what is said of whole records alone

pub ok-later : {E : Type 0} (r : Result Bool E) (W Q : Type 0) → (W → IfOk r (λ b. b ≡ true → Q)) → IfOk r (λ b. b ≡ true → W → Q)
ok-later (Ok b) W Q f = λ is w. f w is
ok-later (Err e) W Q f = tt

pub apart-later : (e : MaxMindDbError) (W Q : Type 0) → (W → MemoryApart e Q) → MemoryApart e (W → Q)
apart-later Memory W Q f = tt
apart-later (InvalidDatabase message place) W Q f = f
apart-later (Io e) W Q f = f
apart-later (Decoding message place path) W Q f = f
apart-later (ResourceLimit message place path) W Q f = f
apart-later (InvalidNetwork e) W Q f = f
apart-later (InvalidInput message) W Q f = f

pub err-later : {T E : Type 0} (r : Result T E) (error : E → MaxMindDbError) (W : Type 0) (Q : E → Type 0) → (W → IfErr r (λ u. MemoryApart (error u) (Q u))) → IfErr r (λ u. MemoryApart (error u) (W → Q u))
err-later (Ok b) error W Q f = tt
err-later (Err u) error W Q f = apart-later (error u) W (Q u) f

-- both were found
pub both-found : {S : Type 0} {G : Ghosts S ℕ} (s : Sections) (a b : Option (Bor (LookupResult S G))) (old new : Bor (LookupResult S G)) (P : Option ℕ → Option ℕ → Type 0) → a ≡ Some old → b ≡ Some new
    → (section_asked old.now ≡ s.in_old → section_asked new.now ≡ s.in_new → P (offset_found old.now) (offset_found new.now)) → AreFoundIn s a b → P (offset_at a) (offset_at b)
both-found s a b old new P p q f found =
    let g = subst (λ x. IsFoundIn s.in_old x) p found.0 in
    let h = subst (λ x. IsFoundIn s.in_new x) q found.1 in
    subst (λ x. P (offset_at x) (offset_at b)) (sym p) (subst (λ x. P (offset_found old.now) (offset_at x)) (sym q) (f g h))
