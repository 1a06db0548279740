-- What is kept by numbers of records.
use Rattle.std.proofs.Common.{◌≡◌, ◌<◌, ℕ, List, [], Option, Some, None, IfSome, Bool, inl, inr, sym, subst, arith}
use Rattle.std.specs.List.{All, Contains}
use Rattle.std.specs.Global.{Vec}
use Rattle.std.proofs.lemmas.List.Elements.{All-contains}
use Rattle.mmdb_cache.specs.declared.cache.CacheEntry.{CacheEntry}
use Rattle.mmdb_cache.specs.declared.table.Memo.{Memo}
use Rattle.mmdb_cache.specs.Cache.{IsOfBeforeOr, AreOfBeforeOr}
use Rattle.mmdb_cache.specs.Table.{IsKnownOr, AreKnownOr}
use Rattle.mmdb_query.specs.Keys.{IsKey}
use Rattle.mmdb_query.specs.declared.choice.Choice.{Choice}
use Rattle.mmdb_query.specs.declared.choice.RecordKey.{RecordKey}
use Rattle.mmdb_query.specs.declared.rows.RowMaker.{RowMaker}
use Rattle.mmdb_query.specs.Kept.{MayTail, MaySay, no_number, IsOfNone, IsSaid, AreSaid, IsTailKept, AreTailsKept, IsLastKept, RowsFit, ChoiceFits, IsFresh}
use Rattle.mmdb_query.proofs.KeyLaws.{one_key}

-- ---- what conditions say

module _ (says : MaySay) (s : List (List ℕ)) where
  -- nothing is said of no records
  none_said : (kept : List (Memo RecordKey Bool)) → All IsOfNone kept → AreSaid says s kept
  none_said kept none k d within = λ below. let is = none k d within in absurd (omega (arith, is, below))

  pub said_of : (offsets : List (Option ℕ)) (kept : List (Memo RecordKey Bool)) (key : RecordKey) (b : Bool)
      → IsKey s offsets key.number → key.number < no_number → AreSaid says s kept → Contains kept (record { key = key; value = b }) → says s offsets b
  said_of offsets kept key b is below all there = All-contains (IsSaid says s) kept (record { key = key; value = b }) all there below offsets is

  one_said : (before : List (Memo RecordKey Bool)) (put memo : Memo RecordKey Bool) → AreSaid says s before → IsSaid says s put → IsKnownOr put before memo → IsSaid says s memo
  one_said before put memo all one (inl there) = All-contains (IsSaid says s) before memo all there
  one_said before put memo all one (inr is) = subst (IsSaid says s) (sym is) one

  -- with one more answer
  pub more_said : (offsets : List (Option ℕ)) (before after : List (Memo RecordKey Bool)) (key : RecordKey) (b : Bool)
      → IsKey s offsets key.number → says s offsets b → AreKnownOr (record { key = key; value = b }) before after → AreSaid says s before → AreSaid says s after
  more_said offsets before after key b is said known all k d within =
      one_said before (record { key = key; value = b }) _ all (λ below others are. subst (λ o. says s o b) (one_key s offsets others key.number is are) said) (known k d within)

pub fresh_choice : {C : Type 0} (says : C → MaySay) (s : List (List ℕ)) (choice : Choice C) → IsFresh says choice → ChoiceFits says s choice
fresh_choice says s choice fresh = record { said = none_said (says choice.conditions.now) s choice.kept fresh.none; any = fresh.any }

-- ---- what rows have after their network

module _ (is_tail : MayTail) (s : List (List ℕ)) where
  none_kept : (kept : List (Option (CacheEntry (Vec ℕ)))) → kept ≡ [] → AreTailsKept is_tail s kept
  none_kept kept none = subst (AreTailsKept is_tail s) (sym none) (λ k d within. absurd (omega arith))

  pub tail_of : (offsets : List (Option ℕ)) (kept : List (Option (CacheEntry (Vec ℕ)))) (key bytes : ℕ) (tail : Vec ℕ)
      → IsKey s offsets key → AreTailsKept is_tail s kept → Contains kept (Some (record { key = key; value = tail; bytes = bytes })) → is_tail s offsets tail.items
  tail_of offsets kept key bytes tail is all there =
      All-contains (IsTailKept is_tail s) kept (Some (record { key = key; value = tail; bytes = bytes })) all there offsets is

  one_tail : (before : List (Option (CacheEntry (Vec ℕ)))) (put : CacheEntry (Vec ℕ)) (kept : Option (CacheEntry (Vec ℕ)))
      → AreTailsKept is_tail s before → IsTailKept is_tail s (Some put) → IsOfBeforeOr put before kept → IsTailKept is_tail s kept
  one_tail before put None all one is = tt
  one_tail before put (Some entry) all one (inl there) = All-contains (IsTailKept is_tail s) before (Some entry) all there
  one_tail before put (Some entry) all one (inr is) = subst (λ e. IsTailKept is_tail s (Some e)) (sym is) one

  pub more_tails : (offsets : List (Option ℕ)) (before after : List (Option (CacheEntry (Vec ℕ)))) (key bytes : ℕ) (tail : Vec ℕ)
      → IsKey s offsets key → is_tail s offsets tail.items → AreOfBeforeOr (record { key = key; value = tail; bytes = bytes }) before after → AreTailsKept is_tail s before → AreTailsKept is_tail s after
  more_tails offsets before after key bytes tail is tails known all k d within =
      one_tail before (record { key = key; value = tail; bytes = bytes }) _ all (λ others are. subst (λ o. is_tail s o tail.items) (one_key s offsets others key is are) tails) (known k d within)

  -- what was made last, of some records
  pub last_kept : (offsets : List (Option ℕ)) (key : Option ℕ) (tail : List ℕ) → IfSome key (IsKey s offsets) → is_tail s offsets tail → IsLastKept is_tail s key tail
  last_kept offsets None tail is tails = tt
  last_kept offsets (Some key) tail is tails = λ others are. subst (λ o. is_tail s o tail) (one_key s offsets others key is are) tails

pub fresh_rows : {T K : Type 0} (is_tail : T → MayTail) (fits : T → List (List ℕ) → K → Type 0) (s : List (List ℕ)) (maker : RowMaker T K)
    → maker.kept ≡ [] → maker.last_key ≡ None → fits maker.template.now s maker.scratch → RowsFit is_tail fits s maker
fresh_rows is_tail fits s maker none unmade scratch = record {
  tails = none_kept (is_tail maker.template.now) s maker.kept none;
  last = subst (λ k. IsLastKept (is_tail maker.template.now) s k maker.last.items) (sym unmade) tt;
  scratch = scratch;
}
