-- What stays kept, and what it takes.
use Rattle.std.proofs.Common.{◌≡◌, inl, inr, ℕ, ◌*◌, ◌≤◌, List, [], ◌∷◌, ◌++◌, Option, Some, None, refl, sym, ap, length, subst, slice_index_or, arith}
use Rattle.std.specs.List.{All, Contains, sum_by}
use Rattle.std.proofs.Math.ListN.{set}
use Rattle.std.proofs.lemmas.List.Elements.{All-contains, All-contains_itself, All-set, All-append}
use Rattle.std.proofs.lemmas.List.Sums.{sum_by-le}
use Rattle.mmdb_cache.specs.declared.cache.CacheEntry.{CacheEntry}
use Rattle.mmdb_cache.specs.declared.table.Memo.{Memo}
use Rattle.mmdb_cache.specs.Table.{IsKnownOr, AreKnownOr}
use Rattle.mmdb_cache.specs.Cache.{IsNone, IsOfBefore, AreOfBefore, IsOfBeforeOr, AreOfBeforeOr, bytes_at, IsBounded}

one_of_before : {V : Type 0} (before : List (Option (CacheEntry V))) (kept : Option (CacheEntry V)) → Contains before kept → IsOfBefore before kept
one_of_before before None there = tt
one_of_before before (Some entry) there = there

pub before_itself : {V : Type 0} (places : List (Option (CacheEntry V))) → AreOfBefore places places
before_itself places k d within = one_of_before places (slice_index_or places k d) (All-contains_itself places k d within)

one_goes : {V : Type 0} (first second : List (Option (CacheEntry V))) (kept : Option (CacheEntry V)) → AreOfBefore first second → IsOfBefore second kept → IsOfBefore first kept
one_goes first second None all one = tt
one_goes first second (Some entry) all one = All-contains (IsOfBefore first) second (Some entry) all one

pub before_goes : {V : Type 0} (first second third : List (Option (CacheEntry V))) → AreOfBefore first second → AreOfBefore second third → AreOfBefore first third
before_goes first second third all more k d within = one_goes first second (slice_index_or third k d) all (more k d within)

one_goes_or : {V : Type 0} (put : CacheEntry V) (first second : List (Option (CacheEntry V))) (kept : Option (CacheEntry V)) → AreOfBefore first second → IsOfBeforeOr put second kept → IsOfBeforeOr put first kept
one_goes_or put first second None all one = tt
one_goes_or put first second (Some entry) all (inl old) = inl (All-contains (IsOfBefore first) second (Some entry) all old)
one_goes_or put first second (Some entry) all (inr new) = inr new

pub before_goes_or : {V : Type 0} (put : CacheEntry V) (first second third : List (Option (CacheEntry V))) → AreOfBefore first second → AreOfBeforeOr put second third → AreOfBeforeOr put first third
before_goes_or put first second third all more k d within = one_goes_or put first second (slice_index_or third k d) all (more k d within)

one_or : {V : Type 0} (put : CacheEntry V) (before : List (Option (CacheEntry V))) (kept : Option (CacheEntry V)) → IsOfBefore before kept → IsOfBeforeOr put before kept
one_or put before None one = tt
one_or put before (Some entry) one = inl one

pub before_or : {V : Type 0} (put : CacheEntry V) (before after : List (Option (CacheEntry V))) → AreOfBefore before after → AreOfBeforeOr put before after
before_or put before after all k d within = one_or put before (slice_index_or after k d) (all k d within)

one_none : {V : Type 0} (before : List (Option (CacheEntry V))) (kept : Option (CacheEntry V)) → kept ≡ None → IsOfBefore before kept
one_none before kept none = subst (IsOfBefore before) (sym none) tt

pub none_before : {V : Type 0} (before after : List (Option (CacheEntry V))) → All IsNone after → AreOfBefore before after
none_before before after all k d within = one_none before (slice_index_or after k d) (all k d within)

pub nothing_before : {V : Type 0} (before : List (Option (CacheEntry V))) → AreOfBefore before []
nothing_before before k d within = absurd (omega arith)

-- a place at which nothing is kept any more
pub set_none : {V : Type 0} (places : List (Option (CacheEntry V))) (at : ℕ) → AreOfBefore places (set places at None)
set_none places at = All-set (IsOfBefore places) places at None tt (before_itself places)

-- a place at which an entry is kept
pub set_some : {V : Type 0} (put : CacheEntry V) (places : List (Option (CacheEntry V))) (at : ℕ) → AreOfBeforeOr put places (set places at (Some put))
set_some put places at = All-set (IsOfBeforeOr put places) places at (Some put) (inr refl) (before_or put places places (before_itself places))

-- places at which nothing is kept, with one more
pub more_none : {V : Type 0} (places more : List (Option (CacheEntry V))) → more ≡ places ++ (None ∷ []) → All IsNone places → All IsNone more
more_none places more put none = subst (All IsNone) (sym put) (All-append IsNone places (None ∷ []) none (λ k d l. let first : k ≡ 0 = omega arith in subst (λ i. IsNone (slice_index_or (None ∷ []) i d)) (sym first) refl))

sum_none : {V : Type 0} (places : List (Option (CacheEntry V))) → All IsNone places → sum_by bytes_at places ≡ 0
sum_none places none =
    let few = sum_by-le bytes_at 0 places (λ k d within. let is = none k d within in subst (λ kept. bytes_at kept ≤ 0) (sym is) (omega arith)) in
    let nothing : length places * 0 ≡ 0 = omega arith in
    omega (arith, few, nothing)

pub bounded_none : {V : Type 0} (places : List (Option (CacheEntry V))) (most : ℕ) → All IsNone places → IsBounded places most most
bounded_none places most none = let none_taken = sum_none places none in record { sum = omega (arith, none_taken) }

-- places at which nothing is kept, in the stead of none
pub bounded_anew : {V : Type 0} (before places : List (Option (CacheEntry V))) (left most : ℕ) → IsBounded before left most → before ≡ [] → All IsNone places → IsBounded places left most
bounded_anew before places left most bounded empty none =
    let nothing : sum_by bytes_at before ≡ 0 = ap (sum_by bytes_at) empty in
    let none_taken = sum_none places none in
    let all = bounded.sum in
    record { sum = omega (arith, nothing, none_taken, all) }

-- what a table keeps
pub known_itself : {K V : Type 0} (put : Memo K V) (kept : List (Memo K V)) → AreKnownOr put kept kept
known_itself put kept k d within = inl (All-contains_itself kept k d within)

pub known_set : {K V : Type 0} (put known : Memo K V) (before now : List (Memo K V)) (at : ℕ) → IsKnownOr put before known → AreKnownOr put before now → AreKnownOr put before (set now at known)
known_set put known before now at one all = All-set (IsKnownOr put before) now at known one all
