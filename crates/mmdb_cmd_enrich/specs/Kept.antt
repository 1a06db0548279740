-- What a cache keeps: of each record that it has, what is added for it.
use Rattle.std.specs.Prelude.{◌≡◌, ◌≤◌, ℕ, ◌+◌, List, [], length}
use Rattle.std.specs.List.{All, sum_by}
use Rattle.mmdb_cmd_enrich.specs.declared.cache.Bucket.{Bucket}
use Rattle.mmdb_cmd_enrich.specs.declared.cache.Slot.{Slot}
use Rattle.mmdb_cmd_enrich.specs.declared.cache.KeptBy.TheVariants.{Nothing}
use Rattle.mmdb_cmd_enrich.specs.declared.kept_cells.KeptCells.{KeptCells}
use Rattle.mmdb_cmd_enrich.specs.KeptCells.{bytes_of, heap_of}
use Rattle.mmdb_cmd_enrich.specs.Wanted.{Wanted, AddsOf}

-- nothing is kept
abbrev pub IsEmptySlot : Slot → Type 0
IsEmptySlot slot = (slot.by ≡ Nothing) × (bytes_of slot.cells ≡ []) × (heap_of slot.cells ≡ 0)

abbrev pub IsKept : Wanted → Slot → Type 0
IsKept wanted slot = AddsOf wanted slot.by (bytes_of slot.cells) slot.outcome

abbrev pub IsKeptAt : Wanted → Bucket → Type 0
IsKeptAt wanted bucket = IsKept wanted bucket.newer × IsKept wanted bucket.older

abbrev pub AreKept : Wanted → List Bucket → Type 0
AreKept wanted buckets = All (IsKeptAt wanted) buckets

-- how many bytes of the heap the cells of a bucket take
abbrev pub heap_at : Bucket → ℕ
heap_at bucket = heap_of bucket.newer.cells + heap_of bucket.older.cells

-- cells of at most 512 bytes
abbrev pub AreFew : KeptCells → Type 0
AreFew cells = length (bytes_of cells) ≤ 512

abbrev pub AreFewAt : Bucket → Type 0
AreFewAt bucket = AreFew bucket.newer.cells × AreFew bucket.older.cells

-- There are 65,536 buckets, the cells of each record that is kept have at most 512 bytes, and those that are not in their
-- bucket take what is not left of 8 MiB of the heap.
pub record IsBounded (buckets : List Bucket) (heap_left : ℕ) : Type 0 where
  pub count : length buckets ≡ 65536
  pub few : All AreFewAt buckets
  pub heap : heap_left + sum_by heap_at buckets ≡ 8388608
