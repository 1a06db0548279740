-- The first row, which may name the columns.
use Rattle.std.specs.Prelude.{◌≡◌, ◌≢◌, ℕ, List, [], ◌∷◌, ◌++◌, map, Option, Some, None, IfSome, Bool, true, false, ⊤}
use Rattle.std.specs.Io.KnownBytes.{Appends}
use Rattle.mmdb_filter.specs.Cells.{csv_cell}
use Rattle.mmdb_filter.specs.Lines.{row_with, text_of}
use Rattle.mmdb_filter.specs.Rows.{row_from, rows_after}
use Rattle.mmdb_filter.specs.declared.rows.Rows.{Rows}
use Rattle.mmdb_filter.specs.declared.rows.Rows.TheVariants.{Lines, Csv}
use Rattle.mmdb_filter.specs.declared.rows.RowPosition.TheVariants.{Cell}
use Rattle.mmdb_cmd_enrich.specs.Columns.{HasBreaks, delimiter_of}
use Rattle.mmdb_cmd_enrich.specs.declared.header.Columns.{Columns}
use Rattle.mmdb_cmd_enrich.specs.declared.task.Column.{Column}
use Rattle.mmdb_cmd_enrich.specs.declared.task.Column.TheVariants.{Number, Name}
use Rattle.mmdb_cmd_enrich.specs.declared.task.RowsTask.{RowsTask}

-- a name as a cell
abbrev pub name_cell : Rows → List ℕ → List ℕ
name_cell (Lines delimiter) name = name
name_cell (Csv delimiter) name = csv_cell delimiter name

-- a delimiter and a cell for each name
abbrev pub name_cells : Rows → List (List ℕ) → List ℕ
name_cells rows [] = []
name_cells rows (name ∷ names) = (delimiter_of rows ∷ name_cell rows name) ++ name_cells rows names

-- a first row with these names before its end; where there is no row, none are added
abbrev pub header_with : Rows → List (List ℕ) → List ℕ → List ℕ
header_with rows names [] = []
header_with rows names (x ∷ xs) = row_with (x ∷ xs) (name_cells rows names) 0

-- what is written in place of the first row, and what comes after it: it is a row as others where it does not name the columns
abbrev pub header_text : Bool → Rows → List (List ℕ) → List ℕ → List ℕ
header_text true rows names xs = header_with rows names (row_from rows Cell xs)
header_text false rows names xs = []

abbrev pub behind_header : Bool → Rows → List ℕ → List ℕ
behind_header true rows xs = rows_after rows Cell xs
behind_header false rows xs = xs

-- where the column of the address is that was asked for by its number
abbrev pub IsAddressIn : Column → ℕ → Type 0
IsAddressIn (Number number) address = address ≡ number
IsAddressIn (Name name) address = ⊤

-- the columns that this first row names
abbrev pub AreNamedBy : Rows → Column → List ℕ → Columns → Type 0
AreNamedBy rows column row columns = IsAddressIn column columns.address × (n : ℕ) × (columns.breaks ≡ Some n) × HasBreaks rows (text_of row) n

-- The columns of the rows of some bytes. Of bytes without a first row that would name them nothing is known.
abbrev pub AreColumnsOf : Bool → Rows → Column → List ℕ → Columns → Type 0
AreColumnsOf true rows column xs columns = row_from rows Cell xs ≢ [] → AreNamedBy rows column (row_from rows Cell xs) columns
AreColumnsOf false rows column xs columns = IsAddressIn column columns.address × (columns.breaks ≡ None)

-- what the columns are called that a task asks for
abbrev pub names_in : RowsTask → List (List ℕ)
names_in task = map (λ name. name.now) task.names.items

-- Where the bytes of the input are known, it lost the first row where that names the columns, and known output grew by it with these
-- names.
abbrev pub IsHeaderPassed : Bool → RowsTask → Option (List ℕ) → Option (List ℕ) → Option (List ℕ) → Option (List ℕ) → Type 0
IsHeaderPassed is_header task input left old new =
    IfSome input (λ xs. (left ≡ Some (behind_header is_header task.rows xs)) × Appends old new (header_text is_header task.rows (names_in task) xs))
