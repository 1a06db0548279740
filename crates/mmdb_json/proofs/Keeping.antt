-- What is kept stays right.
use Rattle.std.proofs.Common.{◌≡◌, ◌≤◌, ◌+◌, ◌-◌, ◌⊎◌, inl, inr, ℕ, List, [], drop, Option, Some, None, length, sym, ◌∙◌, subst, arith}
use Rattle.std.specs.Prelude.{IfSome}
use Rattle.std.specs.List.{Contains}
use Rattle.std.proofs.lemmas.List.Elements.{All-contains}
use Rattle.mmdb_cache.specs.declared.cache.CacheEntry.{CacheEntry}
use Rattle.mmdb_cache.specs.Cache.{IsOfBeforeOr, AreOfBeforeOr}
use Rattle.mmdb_format.specs.Unfolding.{Tree, scalar, array, table, pointer, value_count}
use Rattle.mmdb_json.specs.declared.budget.Budget.{Budget}
use Rattle.mmdb_json.specs.declared.kept.KeptText.{KeptText}
use Rattle.mmdb_json.specs.Drafts.{Drafted, Grows}
use Rattle.mmdb_json.specs.Kept.{IsKeptText, IsKeptName, AreRight}
use Rattle.mmdb_json.specs.Appended.{IsTextAt, AppendsText, AppendsOwnName}
use Rattle.mmdb_json.proofs.Drafting.{end_of_text}

in_nothing : {A : Type 0} (x : A) → Contains [] x → ⊥
in_nothing x (k, within, is) = absurd (omega (arith, within))

-- where nothing is kept all of it is right
pub nothing_right : (s : List ℕ) (values names : List (Option (CacheEntry KeptText))) → values ≡ [] → names ≡ [] → AreRight s values names
nothing_right s values names e f = record {
  values_are = λ entry there. absurd (in_nothing (Some entry) (subst (λ l. Contains l (Some entry)) e there));
  names_are = λ entry there. absurd (in_nothing (Some entry) (subst (λ l. Contains l (Some entry)) f there));
}

old_or_put : (put entry : CacheEntry KeptText) (before after : List (Option (CacheEntry KeptText))) → AreOfBeforeOr put before after → Contains after (Some entry) → Contains before (Some entry) ⊎ (entry ≡ put)
old_or_put put entry before after all there = All-contains (IsOfBeforeOr put before) after (Some entry) all there

text_of_either : (s : List ℕ) (before : List (Option (CacheEntry KeptText))) (put entry : CacheEntry KeptText) → ((e : CacheEntry KeptText) → Contains before (Some e) → IsKeptText s e.key e.value) → IsKeptText s put.key put.value → Contains before (Some entry) ⊎ (entry ≡ put) → IsKeptText s entry.key entry.value
text_of_either s before put entry right one (inl there) = right entry there
text_of_either s before put entry right one (inr is) = subst (λ (e : CacheEntry KeptText). IsKeptText s e.key e.value) (sym is) one

name_of_either : (s : List ℕ) (before : List (Option (CacheEntry KeptText))) (put entry : CacheEntry KeptText) → ((e : CacheEntry KeptText) → Contains before (Some e) → IsKeptName s e.key e.value) → IsKeptName s put.key put.value → Contains before (Some entry) ⊎ (entry ≡ put) → IsKeptName s entry.key entry.value
name_of_either s before put entry right one (inl there) = right entry there
name_of_either s before put entry right one (inr is) = subst (λ (e : CacheEntry KeptText). IsKeptName s e.key e.value) (sym is) one

-- one more text, or name
pub keeps_text : (s : List ℕ) (values names after : List (Option (CacheEntry KeptText))) (put : CacheEntry KeptText) → AreRight s values names → AreOfBeforeOr put values after → IsKeptText s put.key put.value → AreRight s after names
keeps_text s values names after put right all one = record {
  values_are = λ entry there. text_of_either s values put entry right.values_are one (old_or_put put entry values after all there);
  names_are = right.names_are;
}

pub keeps_name : (s : List ℕ) (values names after : List (Option (CacheEntry KeptText))) (put : CacheEntry KeptText) → AreRight s values names → AreOfBeforeOr put names after → IsKeptName s put.key put.value → AreRight s values after
keeps_name s values names after put right all one = record {
  values_are = right.values_are;
  names_are = λ entry there. name_of_either s names put entry right.names_are one (old_or_put put entry names after all there);
}

-- what is kept is appended
pub kept_appended : (s : List ℕ) (offset levels : ℕ) (kept : KeptText) (before after : Budget) (old new : Drafted) → IsKeptText s offset kept
    → kept.levels + after.levels ≤ levels → after.levels ≤ before.levels → after.values + kept.values ≡ before.values → after.bytes + kept.bytes ≡ before.bytes
    → Grows old new kept.text.items → (end : ℕ) × AppendsText s offset end levels before after old new
kept_appended s offset levels kept before after old new k deep fewer values bytes grown =
    let kl = k.levels in
    let kv = k.values in
    let kb = k.bytes in (
      k.end,
      record {
        bytes = kept.text.items;
        at = k.at;
        costs = record {
          values = omega (arith, kv, values);
          bytes = omega (arith, kb, bytes);
          deep = omega (arith, kl, deep);
          fewer = fewer;
        };
        grown = grown;
      },
    )

pub kept_name_appended : (s : List ℕ) (offset : ℕ) (kept : KeptText) (before after : Budget) (old new : Drafted) → IsKeptName s offset kept
    → after.bytes + kept.bytes ≡ before.bytes → after.values ≡ before.values → after.levels ≡ before.levels
    → Grows old new kept.text.items → (end : ℕ) × AppendsOwnName s offset end before after old new
kept_name_appended s offset kept before after old new k bytes values levels grown =
    let kb = k.bytes in (
      k.end,
      record {
        bytes = kept.text.items;
        at = k.at;
        charges = record { bytes_left = omega (arith, kb, bytes); values_left = values; levels_left = levels };
        grown = grown;
      },
    )

-- a tree is a value at least
one_value : (t : Tree) → 1 ≤ value_count t
one_value (scalar c) = omega arith
one_value (array ts) = omega arith
one_value (table ps) = omega arith
one_value (pointer a t) = one_value t

-- what was laid out after other bytes can be kept
pub text_to_keep : (s : List ℕ) (offset end levels : ℕ) (before after : Budget) (old new : Drafted) (kept : KeptText) → AppendsText s offset end levels before after old new
    → kept.text.items ≡ drop (length old.text) new.text → length new.holes ≡ length old.holes → kept.levels ≡ levels - after.levels → kept.values ≡ before.values - after.values → kept.bytes ≡ before.bytes - after.bytes
    → IsKeptText s offset kept
text_to_keep s offset end levels before after old new kept a is same kl kv kb =
    let text : kept.text.items ≡ a.bytes = end_of_text old new a.bytes kept.text.items a.grown same is in
    let cv = a.costs.values in
    let cb = a.costs.bytes in
    let cd = a.costs.deep in
    let some = one_value a.at.tree in
    let at : IsTextAt s offset end kept.text.items = record {
      tree = a.at.tree;
      json = a.at.json;
      unfolds = a.at.unfolds;
      keyed = a.at.keyed;
      texts = a.at.texts;
      shows = a.at.shows;
      text = record { is = text ∙ a.at.text.is; numbers = a.at.text.numbers; utf8 = subst Rattle.std.specs.Str.IsUtf8 (sym text) a.at.text.utf8 };
    } in
    record {
      end = end;
      at = at;
      levels = omega (arith, cd, kl);
      values = omega (arith, cv, kv, some);
      bytes = omega (arith, cb, kb);
    }

pub name_to_keep : (s : List ℕ) (offset end : ℕ) (before after : Budget) (old new : Drafted) (kept : KeptText) → AppendsOwnName s offset end before after old new
    → kept.text.items ≡ drop (length old.text) new.text → length new.holes ≡ length old.holes → kept.levels ≡ 0 → kept.values ≡ 0 → kept.bytes ≡ before.bytes - after.bytes
    → IsKeptName s offset kept
name_to_keep s offset end before after old new kept a is same kl kv kb =
    let text : kept.text.items ≡ a.bytes = end_of_text old new a.bytes kept.text.items a.grown same is in
    let cb = a.charges.bytes_left in
    record {
      end = end;
      at = record { key = a.at.key; unfolds = a.at.unfolds; utf8 = a.at.utf8; is = text ∙ a.at.is };
      levels = kl;
      values = kv;
      bytes = omega (arith, cb, kb);
    }

-- the fewest levels of what was before are noted, too
pub noted : (s : List ℕ) (offset end levels : ℕ) (before inner after final : Budget) (old new : Drafted) → AppendsText s offset end levels inner after old new
    → inner.values ≡ before.values → inner.bytes ≡ before.bytes → final.values ≡ after.values → final.bytes ≡ after.bytes → final.levels ≤ before.levels → final.levels ≤ after.levels
    → AppendsText s offset end levels before final old new
noted s offset end levels before inner after final old new a iv ib fv fb fewer few =
    let cv = a.costs.values in
    let cb = a.costs.bytes in
    let cd = a.costs.deep in
    record {
      bytes = a.bytes;
      at = a.at;
      costs = record {
        values = omega (arith, cv, iv, fv);
        bytes = omega (arith, cb, ib, fb);
        deep = omega (arith, cd, few);
        fewer = fewer;
      };
      grown = a.grown;
    }

-- of what may be there
pub some_goes : (r : Option ℕ) {P Q : ℕ → Type 0} → ((x : ℕ) → P x → Q x) → IfSome r P → IfSome r Q
some_goes None f h = tt
some_goes (Some x) f h = f x h
