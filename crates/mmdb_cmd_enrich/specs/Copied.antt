-- What is written of a whole input.
use Rattle.std.specs.Prelude.{◌≡◌, ℕ, List, [], ◌++◌, length, drop, Option, IfSome}
use Rattle.std.specs.Io.KnownBytes.{Appends}
use Rattle.mmdb_filter.specs.Lines.{counted, written}
use Rattle.mmdb_filter.specs.declared.counts.Counts.{Counts}
use Rattle.mmdb_filter.specs.declared.rows.Rows.{Rows}
use Rattle.mmdb_reader.specs.File.{Database}
use Rattle.mmdb_cmd_enrich.specs.Header.{AreColumnsOf, behind_header, header_text, names_in}
use Rattle.mmdb_cmd_enrich.specs.Mark.{mark, mark_of}
use Rattle.mmdb_cmd_enrich.specs.Stretches.{Stretch, AreStretches, lines_of}
use Rattle.mmdb_cmd_enrich.specs.Template.{Template}
use Rattle.mmdb_cmd_enrich.specs.declared.header.Columns.{Columns}
use Rattle.mmdb_cmd_enrich.specs.declared.task.RowsTask.{RowsTask}

-- what comes after the mark
abbrev pub behind_mark : List ℕ → List ℕ
behind_mark xs = drop (length (mark_of mark xs)) xs

-- Where the bytes of the input are known, known output grew by all of it: by the mark, and all rows, each with what the databases then
-- open add. The counts are those before with theirs.
abbrev pub AreAllCopied : Rows → (Template → List Database → Type 0) → Option (List ℕ) → Option (List ℕ) → Option (List ℕ) → Counts → Counts → Type 0
AreAllCopied rows Are input old new before counts =
    IfSome input (λ xs. (stretches : List Stretch) × AreStretches rows Are stretches (behind_mark xs) []
    × Appends old new (mark_of mark xs ++ written (lines_of stretches)) × (counts ≡ counted before (lines_of stretches)))

-- the same with the first row, which may name the columns: then the names of what is added come before its end
abbrev pub AreRowsCopied : Rows → RowsTask → (Columns → Template → List Database → Type 0) → Option (List ℕ) → Option (List ℕ) → Option (List ℕ) → Counts → Counts → Type 0
AreRowsCopied rows task Are input old new before counts =
    IfSome input (λ xs. (columns : Columns) × (stretches : List Stretch) × AreColumnsOf task.header task.rows task.column (behind_mark xs) columns
    × AreStretches rows (Are columns) stretches (behind_header task.header task.rows (behind_mark xs)) []
    × Appends old new (mark_of mark xs ++ (header_text task.header task.rows (names_in task) (behind_mark xs) ++ written (lines_of stretches)))
    × (counts ≡ counted before (lines_of stretches)))
