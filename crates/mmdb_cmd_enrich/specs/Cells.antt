-- The cells of a record: for each path the text of the value to which it leads.
use Rattle.std.specs.Prelude.{◌≡◌, ℕ, ◌/◌, ◌%◌, List, [], ◌∷◌, ◌++◌, Option, Some, None, Bool, true, false, not, ◌&&◌, ◌==◌, nat_lt, cond, is_some, if◌then◌else◌}
use Rattle.std.specs.Bool.{MatchBool}
use Rattle.std.specs.Char.{digit_char}
use Rattle.mmdb_format.specs.Contents.{text}
use Rattle.mmdb_format.specs.Unfolding.{Tree, scalar}
use Rattle.mmdb_reader.specs.declared.path.PathElement.{PathElement}
use Rattle.mmdb_json.specs.Texts.{IsCompact}
use Rattle.mmdb_filter.specs.Cells.{csv_cell}
use Rattle.mmdb_filter.specs.declared.rows.Rows.{Rows}
use Rattle.mmdb_filter.specs.declared.rows.Rows.TheVariants.{Lines, Csv}
use Rattle.mmdb_cmd_enrich.specs.Columns.{delimiter_of}

-- no byte is a control character or the delimiter
abbrev pub is_plain : ℕ → List ℕ → Bool
is_plain delimiter [] = true
is_plain delimiter (x ∷ xs) = nat_lt 31 x && not (x == delimiter) && is_plain delimiter xs

abbrev pub is_plain_text : ℕ → Tree → Bool
is_plain_text delimiter (scalar (text x)) = is_plain delimiter x
is_plain_text delimiter _ = false

abbrev pub text_bytes : Tree → List ℕ
text_bytes (scalar (text x)) = x
text_bytes _ = []

abbrev pub is_any_text : Tree → Bool
is_any_text (scalar (text x)) = true
is_any_text _ = false

-- the letter of a control character in an escape of JSON, or 0 where it has none
abbrev pub escape_letter : ℕ → ℕ
escape_letter x = cond (x == 8) 98 (cond (x == 9) 116 (cond (x == 10) 110 (cond (x == 12) 102 (cond (x == 13) 114 0))))

-- a byte in an escape of JSON: by its letter where it has one, or else by its number
abbrev pub escape_of : ℕ → List ℕ
escape_of x = if nat_lt 0 (escape_letter x) then 92 ∷ (escape_letter x ∷ []) else 92 ∷ (117 ∷ (48 ∷ (48 ∷ (digit_char (x / 16) ∷ (digit_char (x % 16) ∷ [])))))

-- bytes of which control characters and the delimiter are in escapes
unfoldable pub escaped : ℕ → List ℕ → List ℕ
escaped delimiter [] = []
escaped delimiter (x ∷ xs) = (if nat_lt 31 x && not (x == delimiter) then x ∷ [] else escape_of x) ++ escaped delimiter xs

-- the text of a value: a text itself, or JSON that shows it
abbrev pub ShowsText : Tree → List ℕ → Type 0
ShowsText v bytes = MatchBool (is_any_text v) (bytes ≡ text_bytes v) (IsCompact v bytes)

-- Where tabs separate the cells of a line, a text without control characters is its own cell, and any other value the JSON that
-- shows it. Where another delimiter does, a cell is any text, or the JSON, with escapes in the place of control characters and
-- delimiters; so it is in CSV, but there quotes are around delimiters.
abbrev pub ShowsCell : Rows → Tree → List ℕ → Type 0
ShowsCell (Lines delimiter) v cell =
    MatchBool (delimiter == 9) (MatchBool (is_plain_text delimiter v) (cell ≡ text_bytes v) (IsCompact v cell))
    ((value : List ℕ) × ShowsText v value × (cell ≡ escaped delimiter value))
ShowsCell (Csv delimiter) v cell = (value : List ℕ) × ShowsText v value × (cell ≡ csv_cell delimiter (escaped 0 value))

-- the cell of what was read: empty where nothing is there, or the way or the value failed
abbrev pub IsCell : Rows → Option (Option Tree) → List ℕ → Type 0
IsCell rows None cell = cell ≡ []
IsCell rows (Some None) cell = cell ≡ []
IsCell rows (Some (Some v)) cell = ShowsCell rows v cell

-- a delimiter and a cell for each path, along which this is read
abbrev pub AreCells : Rows → (List PathElement → Option (Option Tree)) → List (List PathElement) → List ℕ → Type 0
AreCells rows reads [] cells = cells ≡ []
AreCells rows reads (path ∷ paths) cells = (cell rest : List ℕ) × (cells ≡ delimiter_of rows ∷ (cell ++ rest)) × IsCell rows (reads path) cell × AreCells rows reads paths rest

-- a delimiter for each path
abbrev pub blanks : Rows → List (List PathElement) → List ℕ
blanks rows [] = []
blanks rows (path ∷ paths) = delimiter_of rows ∷ blanks rows paths

-- no path and no value failed
abbrev pub are_read : (List PathElement → Option (Option Tree)) → List (List PathElement) → Bool
are_read reads [] = true
are_read reads (path ∷ paths) = is_some (reads path) && are_read reads paths
