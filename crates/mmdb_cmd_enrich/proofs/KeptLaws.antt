-- What stays kept, and what it takes.
use Rattle.std.proofs.Common.{◌≡◌, ◌⊎◌, inl, inr, ℕ, ◌+◌, ◌<◌, List, [], ◌∷◌, ◌++◌, refl, sym, ap, ◌∙◌, length, subst, slice_set, slice_index_or, arith}
use Rattle.std.proofs.lemmas.List.Elements.{All-set, All-append}
use Rattle.std.proofs.lemmas.List.{length-set}
use Rattle.std.proofs.lemmas.List.Sums.{sum_by-set, sum_by-append}
use Rattle.std.specs.List.{All, sum_by}
use Rattle.mmdb_cmd_enrich.specs.declared.cache.Slot.{Slot}
use Rattle.mmdb_cmd_enrich.specs.declared.cache.Bucket.{Bucket}
use Rattle.mmdb_cmd_enrich.specs.declared.cache.KeptBy.{KeptBy}
use Rattle.mmdb_cmd_enrich.specs.declared.cache.KeptBy.TheVariants.{Nothing}
use Rattle.mmdb_filter.specs.declared.counts.Outcome.{Outcome}
use Rattle.mmdb_cmd_enrich.specs.Kept.{IsKept, IsKeptAt, AreFew, AreFewAt, heap_at, IsBounded}
use Rattle.mmdb_cmd_enrich.specs.KeptCells.{bytes_of, heap_of}
use Rattle.mmdb_cmd_enrich.specs.Wanted.{Wanted, AddsOf}

-- a bucket of no record
pub record IsEmptyPlace (bucket : Bucket) : Type 0 where
  pub newer : bucket.newer.by ≡ Nothing
  pub older : bucket.older.by ≡ Nothing
  pub newer_bytes : bytes_of bucket.newer.cells ≡ []
  pub older_bytes : bytes_of bucket.older.cells ≡ []
  pub heap : heap_at bucket ≡ 0

-- a slot of no record
empty_kept : (wanted : Wanted) (slot : Slot) → slot.by ≡ Nothing → IsKept wanted slot
empty_kept wanted slot none = subst (λ by. AddsOf wanted by (bytes_of slot.cells) slot.outcome) (sym none) (λ shown offsets is. absurd is)

pub nothing_kept : (wanted : Wanted) (buckets : List Bucket) → All IsEmptyPlace buckets → All (IsKeptAt wanted) buckets
nothing_kept wanted buckets none k d l = (empty_kept wanted (slice_index_or buckets k d).newer (none k d l).newer, empty_kept wanted (slice_index_or buckets k d).older (none k d l).older)

-- the slot of a record
pub one_kept : (wanted : Wanted) (by : KeptBy) (slot : Slot) (cells : List ℕ) (outcome : Outcome)
    → slot.by ≡ by → bytes_of slot.cells ≡ cells → slot.outcome ≡ outcome → AddsOf wanted by cells outcome → IsKept wanted slot
one_kept wanted by slot cells outcome b c f add =
    subst (λ k. AddsOf wanted k (bytes_of slot.cells) slot.outcome) (sym b) (subst (λ x. AddsOf wanted by (bytes_of slot.cells) x) (sym f) (subst (λ x. AddsOf wanted by x outcome) (sym c) add))

-- a bucket with other slots
pub place_set : (P : Bucket → Type 0) (buckets : List Bucket) (at : ℕ) (old new : Bucket) → at < length buckets → slice_index_or buckets at old ≡ old
    → (P old → P new) → All P buckets → All P (slice_set buckets at new)
place_set P buckets at old new within there goes kept = All-set P buckets at new (goes (subst P there (kept at old within))) kept

-- one of the slots of a bucket
pub either_kept : (wanted : Wanted) (bucket : Bucket) (slot : Slot) → (slot ≡ bucket.newer) ⊎ (slot ≡ bucket.older) → IsKeptAt wanted bucket → IsKept wanted slot
either_kept wanted bucket slot (inl e) kept = subst (IsKept wanted) (sym e) kept.0
either_kept wanted bucket slot (inr e) kept = subst (IsKept wanted) (sym e) kept.1

-- buckets of no record, with one more
pub more_empty : (buckets more : List Bucket) (bucket : Bucket) → more ≡ buckets ++ (bucket ∷ []) → IsEmptyPlace bucket → All IsEmptyPlace buckets → All IsEmptyPlace more
more_empty buckets more bucket put one none = subst (All IsEmptyPlace) (sym put) (All-append IsEmptyPlace buckets (bucket ∷ []) none (λ k d l. let first : k ≡ 0 = omega arith in subst (λ i. IsEmptyPlace (slice_index_or (bucket ∷ []) i d)) (sym first) one))

pub more_heap : (buckets more : List Bucket) (bucket : Bucket) → more ≡ buckets ++ (bucket ∷ []) → IsEmptyPlace bucket → sum_by heap_at buckets ≡ 0 → sum_by heap_at more ≡ 0
more_heap buckets more bucket put one none =
    let all = ap (sum_by heap_at) put ∙ sum_by-append heap_at buckets (bucket ∷ []) in
    let last : sum_by heap_at (bucket ∷ []) ≡ 0 + heap_at bucket = refl in
    omega (arith, all, last, none, one.heap)

few_empty : (bucket : Bucket) → IsEmptyPlace bucket → AreFewAt bucket
few_empty bucket none =
    let newer : length (bytes_of bucket.newer.cells) ≡ 0 = ap length none.newer_bytes in
    let older : length (bytes_of bucket.older.cells) ≡ 0 = ap length none.older_bytes in
    (omega (arith, newer), omega (arith, older))

pub bounded_empty : (buckets : List Bucket) → length buckets ≡ 65536 → All IsEmptyPlace buckets → sum_by heap_at buckets ≡ 0 → IsBounded buckets 8388608
bounded_empty buckets size none heap = record {
  count = size;
  few = λ k d l. few_empty (slice_index_or buckets k d) (none k d l);
  heap = omega (arith, heap);
}

-- a newer record in the stead of the older one
pub bounded_put : (buckets : List Bucket) (heap_left left at : ℕ) (old new : Bucket) (slot : Slot) → IsBounded buckets heap_left → at < length buckets → slice_index_or buckets at old ≡ old
    → new.newer ≡ slot → new.older ≡ old.newer → AreFew slot.cells → left + heap_of slot.cells ≡ heap_left + heap_of old.older.cells → IsBounded (slice_set buckets at new) left
bounded_put buckets heap_left left at old new slot b within there newer older few sum =
    let set = sum_by-set heap_at buckets at new old within in
    let was : heap_at (slice_index_or buckets at old) ≡ heap_of old.newer.cells + heap_of old.older.cells = ap heap_at there in
    let first : heap_of new.newer.cells ≡ heap_of slot.cells = ap (λ (s : Slot). heap_of s.cells) newer in
    let second : heap_of new.older.cells ≡ heap_of old.newer.cells = ap (λ (s : Slot). heap_of s.cells) older in
    let all = b.heap in
    record {
      count = length-set buckets at new ∙ b.count;
      few = place_set AreFewAt buckets at old new within there (λ o. (subst (λ (s : Slot). AreFew s.cells) (sym newer) few, subst (λ (s : Slot). AreFew s.cells) (sym older) o.0)) b.few;
      heap = omega (arith, set, was, first, second, all, sum);
    }
