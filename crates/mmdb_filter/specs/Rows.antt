-- Where rows end: a line at its line feed, a row of CSV at the first one that is not between quotes.
use Rattle.std.specs.Prelude.{◌≡◌, ℕ, Option, Some, None, List, [], ◌∷◌, ◌++◌, Bool, true, false, ◌&&◌, ◌==◌, if◌then◌else◌}
use Rattle.mmdb_filter.specs.declared.rows.Rows.{Rows}
use Rattle.mmdb_filter.specs.declared.rows.Rows.TheVariants.{Lines, Csv}
use Rattle.mmdb_filter.specs.declared.rows.RowPosition.{RowPosition}
use Rattle.mmdb_filter.specs.declared.rows.RowPosition.TheVariants.{Cell, Plain, Quoted, Closing, Ended}

abbrev pub is_ended : RowPosition → Bool
is_ended Ended = true
is_ended _ = false

-- a quote is at the head of a cell, or follows another one
abbrev pub opens_quotes : RowPosition → Bool
opens_quotes Cell = true
opens_quotes Closing = true
opens_quotes _ = false

-- the position one byte on
unfoldable pub position_after : Rows → RowPosition → ℕ → RowPosition
position_after (Lines delimiter) position x = if x == 10 then Ended else position
position_after (Csv delimiter) Quoted x = if x == 34 then Closing else Quoted
position_after (Csv delimiter) position x =
    if x == 10 then Ended else (if x == delimiter then Cell else (if x == 34 && opens_quotes position then Quoted else Plain))

-- the bytes of a row from a position in it, with its line feed, or all of them
unfoldable pub row_from : Rows → RowPosition → List ℕ → List ℕ
row_from rows position [] = []
row_from rows position (x ∷ xs) = if is_ended position then [] else x ∷ row_from rows (position_after rows position x) xs

-- the bytes after those
unfoldable pub rows_after : Rows → RowPosition → List ℕ → List ℕ
rows_after rows position [] = []
rows_after rows position (x ∷ xs) = if is_ended position then x ∷ xs else rows_after rows (position_after rows position x) xs

-- Some bytes lead on in a row, from a position to another.
abbrev pub Goes : Rows → RowPosition → List ℕ → List ℕ → RowPosition → List ℕ → Type 0
Goes rows position xs bytes next ys = (row_from rows position xs ≡ bytes ++ row_from rows next ys) × (rows_after rows position xs ≡ rows_after rows next ys)

-- The same of bytes that an input has left, where they are known.
abbrev pub Leads : Rows → RowPosition → Option (List ℕ) → List ℕ → RowPosition → Option (List ℕ) → Type 0
Leads rows position None bytes next new = Unit {0}
Leads rows position (Some xs) bytes next None = ⊥
Leads rows position (Some xs) bytes next (Some ys) = Goes rows position xs bytes next ys

-- A chunk grows by bytes that an input had left, which lead on in a row.
abbrev pub GrowsAlong : Rows → RowPosition → RowPosition → List ℕ → List ℕ → Option (List ℕ) →
    Option (List ℕ) → Type 0
GrowsAlong rows position next chunk grown old new =
    (bytes : List ℕ) × (grown ≡ chunk ++ bytes) × Leads rows position old bytes next new
