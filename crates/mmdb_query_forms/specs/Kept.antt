-- What is kept of what columns show of records.
use Rattle.std.specs.Prelude.{◌≡◌, ◌<◌, ℕ, List, [], length, get_or, Option, Some, None, Bool, false}
use Rattle.std.specs.List.{All}
use Rattle.std.specs.Global.{Vec}
use Rattle.std.specs.Option.{is_some}
use Rattle.mmdb_cache.specs.declared.cache.CacheEntry.{CacheEntry}
use Rattle.mmdb_format.specs.Unfolding.{Tree}
use Rattle.mmdb_reader.specs.declared.path.PathElement.{PathElement}
use Rattle.mmdb_query.specs.Reading.{reads_in, value_found}
use Rattle.mmdb_query_forms.specs.Columns.{ShowsValue}
use Rattle.mmdb_query_forms.specs.declared.column.ColumnSource.{ColumnSource}
use Rattle.mmdb_query_forms.specs.declared.column.ColumnSource.TheVariants.{Path, Record}
use Rattle.mmdb_query_forms.specs.declared.columns.RowForm.{RowForm}

-- what is kept of some records, by their offsets: the text of a value, or that there is none
abbrev pub Kept : Type 0
Kept = List (Option (CacheEntry (Option (Vec ℕ))))

-- a text shows the value that is read, or there is none
abbrev pub ShowsRead : RowForm → Option (Option Tree) → Option (Vec ℕ) → Type 0
ShowsRead form read None = read ≡ Some None
ShowsRead form read (Some text) = (v : Tree) × (read ≡ Some (Some v)) × ShowsValue form (Some v) text.items

-- what is kept of a record of a data section shows what is read along a path there
abbrev pub IsKept : RowForm → List PathElement → List ℕ → Option (CacheEntry (Option (Vec ℕ))) → Type 0
IsKept form path s None = Unit {0}
IsKept form path s (Some entry) = ShowsRead form (reads_in value_found s (Some entry.key) path) entry.value

abbrev pub AreKept : RowForm → List PathElement → List ℕ → Kept → Type 0
AreKept form path s kept = All (IsKept form path s) kept

-- the same of the data section of each database, or nothing is kept
pub record AreAllKept (form : RowForm) (path : List PathElement) (sections : List (List ℕ)) (caches : List Kept) : Type 0 where
  pub kept : (place : ℕ) → AreKept form path (get_or sections place []) (get_or caches place [])
  pub many : 0 < length caches → length caches ≡ length sections

-- the path of what a column shows, which is the empty one for a whole record
abbrev pub path_of : ColumnSource → List PathElement
path_of (Path path) = path.items
path_of (Record place) = []

-- all that is kept is what a column shows
abbrev pub SourceFits : RowForm → ColumnSource → List (List ℕ) → List Kept → Type 0
SourceFits form source sections caches = AreAllKept form (path_of source) sections caches

-- so many caches, in which nothing is kept
pub record KeepNone (count : ℕ) (caches : List Kept) : Type 0 where
  pub many : length caches ≡ count
  pub none : All (λ kept. kept ≡ []) caches

-- the same of each of so many columns
pub record AreFresh (columns count : ℕ) (kept : List (List Kept)) : Type 0 where
  pub many : length kept ≡ columns
  pub none : All (KeepNone count) kept

-- what is left of each column is what the column shows, if all was
pub record AreLeft (before after : List (List Kept)) : Type 0 where
  pub many : length after ≡ length before
  pub kept : (form : RowForm) (path : List PathElement) (sections : List (List ℕ)) (place : ℕ) → AreAllKept form path sections (get_or before place [])
      → AreAllKept form path sections (get_or after place [])

-- there is a value, where one could be read
abbrev pub has_value : Option (Option Tree) → Bool
has_value None = false
has_value (Some value) = is_some value
