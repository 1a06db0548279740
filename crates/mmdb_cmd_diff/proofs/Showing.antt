-- What is shown of records, and kept of it.
use Rattle.std.proofs.Common.{◌≡◌, ◌<◌, ◌+◌, ◌*◌, ◌^◌, ◌⊎◌, inl, inr, ℕ, true, List, [], Option, Some, None, refl, sym, ◌∙◌, ap, subst, arith}
use Rattle.std.specs.List.{Contains}
use Rattle.std.proofs.lemmas.List.Elements.{All-contains}
use Rattle.json.specs.Json.{Json, Items, Members}
use Rattle.mmdb_cache.specs.declared.cache.CacheEntry.{CacheEntry}
use Rattle.mmdb_cache.specs.Cache.{IsOfBeforeOr, AreOfBeforeOr}
use Rattle.mmdb_format.specs.Unfolding.{Tree, scalar, array, table, pointer, Trees, no_trees, tree, Pairs, no_pairs, pair, without_pointers, trees_without, pairs_without}
use Rattle.mmdb_decode.specs.Errors.{answer}
use Rattle.mmdb_value.specs.AnyValue.{value_at}
use Rattle.mmdb_value.proofs.StandingLaws.{answer_is_whole_value}
use Rattle.mmdb_json.specs.Shown.{Shows, AllShow, PairsShow, key_bytes}
use Rattle.mmdb_json.specs.Texts.{IsCompact}
use Rattle.mmdb_cmd_diff.specs.declared.shown.ShownPair.{ShownPair}
use Rattle.mmdb_compare.specs.Kept.{IsKeptAs}
use Rattle.mmdb_cmd_diff.specs.Shown.{IsShown}
use Rattle.mmdb_cmd_diff.specs.Showing.{Showing, IsShownPair, IsNumberOf, IsShownFor, AreKeptFor}

-- ---- the text of a value that was read

-- what shows a tree without its pointers shows the tree
key_without : (k : Tree) → key_bytes (without_pointers k) ≡ key_bytes k
key_without (scalar c) = refl
key_without (array ts) = refl
key_without (table ps) = refl
key_without (pointer a t) = key_without t

mutual
  shows_without : (u : Tree) (j : Json) → Shows (without_pointers u) j → Shows u j
  shows_without (scalar c) j h = h
  shows_without (array ts) j h = (h.0, h.1, all_without ts h.0 h.2)
  shows_without (table ps) j h = (h.0, h.1, pairs_show ps h.0 h.2)
  shows_without (pointer a t) j h = shows_without t j h

  all_without : (ts : Trees) (js : Items) → AllShow (trees_without ts) js → AllShow ts js
  all_without no_trees js h = h
  all_without (tree t ts) js h = (h.0, h.1, h.2, shows_without t h.0 h.3, all_without ts h.1 h.4)

  pairs_show : (ps : Pairs) (ms : Members) → PairsShow (pairs_without ps) ms → PairsShow ps ms
  pairs_show no_pairs ms h = h
  pairs_show (pair k v ps) ms h = (h.0, h.1, subst (λ b. ms ≡ Rattle.json.specs.Json.member b h.0 h.1) (key_without k) h.2, shows_without v h.0 h.3, pairs_show ps h.1 h.4)

compact_without : (u v : Tree) (t : List ℕ) → v ≡ without_pointers u → IsCompact v t → IsCompact u t
compact_without u v t same h = record {
  shown = h.shown;
  shows = shows_without u h.shown (subst (λ w. Shows w h.shown) same h.shows);
  text_is = h.text_is;
  tokens_are = h.tokens_are;
  reads_back = h.reads_back;
  utf8 = h.utf8;
}

pub shown_value : (s : List ℕ) (offset : ℕ) (v : Tree) (text : List ℕ) → answer true (value_at true) s offset ≡ Some v → IsCompact v text → IsShown s (Some offset) text
shown_value s offset v text read compact =
    let (u, end, stands, same, few_values, few_bytes) = (answer_is_whole_value true s offset v).0 read in
    record {
      tree = u;
      end = end;
      text = text;
      stands = stands;
      few_values = few_values;
      few_bytes = few_bytes;
      compact = compact_without u v text same compact;
      grown = refl;
    }

pub shown_at : (s other : List ℕ) (at : Option ℕ) (offset place : ℕ) (v : Tree) (text : List ℕ) → other ≡ s → place ≡ offset → at ≡ Some offset
    → answer true (value_at true) other place ≡ Some v → IsCompact v text → IsShown s at text
shown_at s other at offset place v text same here is read compact =
    let there : answer true (value_at true) s offset ≡ Some v =
    subst (λ (z : List ℕ). answer true (value_at true) z offset ≡ Some v) same (subst (λ (p : ℕ). answer true (value_at true) other p ≡ Some v) here read) in
    subst (λ (o : Option ℕ). IsShown s o text) (sym is) (shown_value s offset v text there compact)

-- ---- numbers of pairs

pub one_kept : (a b : Option ℕ) (n : ℕ) → IsKeptAs a n → IsKeptAs b n → a ≡ b
one_kept None None n p q = refl
one_kept None (Some y) n p q = absurd (omega (arith, p, q.0, q.1))
one_kept (Some x) None n p q = absurd (omega (arith, p.0, p.1, q))
one_kept (Some x) (Some y) n p q = ap Some (sym p.0 ∙ q.0)

kept_small : (a : Option ℕ) (n : ℕ) → IsKeptAs a n → n < 2 ^ 32
kept_small None n p = omega (arith, p)
kept_small (Some x) n p = omega (arith, p.1)

upper_same : (a b c d : ℕ) → a < 2 ^ 32 → c < 2 ^ 32 → a + b * 2 ^ 32 ≡ c + d * 2 ^ 32 → b ≡ d
upper_same a b c d p q e = omega (arith, p, q, e)

lower_same : (a b c d : ℕ) → a < 2 ^ 32 → c < 2 ^ 32 → a + b * 2 ^ 32 ≡ c + d * 2 ^ 32 → a ≡ c
lower_same a b c d p q e = omega (arith, p, q, e)

-- what is shown of a pair is shown of the pair that has its number
pub shown_for : (showing : Showing) (old new : Option ℕ) (number : ℕ) (shown : ShownPair) → IsNumberOf old new number → IsShownPair showing old new shown → IsShownFor showing number shown
shown_for showing old new number shown (a, b, ka, kb, is) h other newer (c, d, kc, kd, also) =
    let e = sym is ∙ also in
    let first : old ≡ other = one_kept old other a ka (subst (λ n. IsKeptAs other n) (sym (lower_same a b c d (kept_small old a ka) (kept_small other c kc) e)) kc) in
    let second : new ≡ newer = one_kept new newer b kb (subst (λ n. IsKeptAs newer n) (sym (upper_same a b c d (kept_small old a ka) (kept_small other c kc) e)) kd) in
    subst (λ o. IsShownPair showing o newer shown) first (subst (λ n. IsShownPair showing old n shown) second h)

-- the same texts are shown so too
pub shown_same : (showing : Showing) (number : ℕ) (a b : ShownPair) → b.old.items ≡ a.old.items → b.new.items ≡ a.new.items → IsShownFor showing number a → IsShownFor showing number b
shown_same showing number a b old new h x y is whole =
    let g = h x y is whole in
    (subst (λ t. IsShown showing.sections.in_old x t) (sym old) g.0, subst (λ t. IsShown showing.sections.in_new y t) (sym new) g.1)

-- ---- what is kept

in_nothing : {A : Type 0} (x : A) → Contains [] x → ⊥
in_nothing x (k, within, is) = absurd (omega (arith, within))

pub nothing_kept : (showing : Showing) (kept : List (Option (CacheEntry ShownPair))) (last : Option (ℕ × ShownPair)) → kept ≡ [] → last ≡ None → AreKeptFor showing kept last
nothing_kept showing kept last none gone = record {
  each = λ entry there. absurd (in_nothing (Some entry) (subst (λ l. Contains l (Some entry)) none there));
  newest = λ pair is. absurd (cc);
}

either_kept : (showing : Showing) (before : List (Option (CacheEntry ShownPair))) (put entry : CacheEntry ShownPair)
    → ((e : CacheEntry ShownPair) → Contains before (Some e) → IsShownFor showing e.key e.value) → IsShownFor showing put.key put.value
    → Contains before (Some entry) ⊎ (entry ≡ put) → IsShownFor showing entry.key entry.value
either_kept showing before put entry each one (inl there) = each entry there
either_kept showing before put entry each one (inr is) = subst (λ (e : CacheEntry ShownPair). IsShownFor showing e.key e.value) (sym is) one

-- one more is kept
pub more_kept : (showing : Showing) (before after : List (Option (CacheEntry ShownPair))) (last : Option (ℕ × ShownPair)) (put : CacheEntry ShownPair)
    → AreKeptFor showing before last → AreOfBeforeOr put before after → IsShownFor showing put.key put.value → AreKeptFor showing after last
more_kept showing before after last put kept all one = record {
  each = λ entry there. either_kept showing before put entry kept.each one (All-contains (IsOfBeforeOr put before) after (Some entry) all there);
  newest = kept.newest;
}

one_some : {A : Type 0} (x y : A) → Some x ≡ Some y → x ≡ y
one_some x y h = cc

-- another pair was compared last
pub other_last : (showing : Showing) (kept : List (Option (CacheEntry ShownPair))) (last : Option (ℕ × ShownPair)) (number : ℕ) (shown : ShownPair)
    → AreKeptFor showing kept last → IsShownFor showing number shown → AreKeptFor showing kept (Some (number, shown))
other_last showing kept last number shown all h = record {
  each = all.each;
  newest = λ pair is. subst (λ (p : ℕ × ShownPair). IsShownFor showing p.0 p.1) (one_some (number, shown) pair is) h;
}
