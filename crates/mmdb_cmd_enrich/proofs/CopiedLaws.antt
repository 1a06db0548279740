-- What comes one after the other of an input is all of it.
use Rattle.std.proofs.Common.{◌≡◌, ℕ, List, [], ◌++◌, Option, Some, None, IfSome, OnSome, subst}
use Rattle.std.specs.Prelude.{Result, Ok, Err, OnOk}
use Rattle.std.specs.Io.KnownBytes.{Appends, IsAtEnd}
use Rattle.std.proofs.KnownBytes.{Appends-trans}
use Rattle.mmdb_filter.specs.Lines.{counted, written}
use Rattle.mmdb_filter.specs.declared.counts.Counts.{Counts}
use Rattle.mmdb_filter.specs.declared.rows.Rows.{Rows}
use Rattle.mmdb_reader.specs.File.{Database}
use Rattle.mmdb_cmd_enrich.specs.Copied.{AreAllCopied, AreRowsCopied, behind_mark}
use Rattle.mmdb_cmd_enrich.specs.Header.{AreColumnsOf, IsHeaderPassed, behind_header, header_text, names_in}
use Rattle.mmdb_cmd_enrich.specs.Mark.{IsMarkCopied, mark, mark_of}
use Rattle.mmdb_cmd_enrich.specs.Stretches.{Stretch, AreStretches, IsEnriched, lines_of}
use Rattle.mmdb_cmd_enrich.specs.Template.{Template}
use Rattle.mmdb_cmd_enrich.specs.declared.header.Columns.{Columns}
use Rattle.mmdb_cmd_enrich.specs.declared.task.RowsTask.{RowsTask}

-- all rows of known bytes passed
all_passed : (rows : Rows) (Are : Template → List Database → Type 0) (xs : List ℕ) (left old new : Option (List ℕ)) (before after : Counts)
    → IsEnriched rows Are (Some xs) left old new before after → IsAtEnd left → (stretches : List Stretch) × AreStretches rows Are stretches xs [] × Appends old new (written (lines_of stretches)) × (after ≡ counted before (lines_of stretches))
all_passed rows Are xs left old new before after (ys, stretches, kept, are, put, count) end =
    let none : ys ≡ [] = subst IsAtEnd kept end in
    (stretches, subst (AreStretches rows Are stretches xs) none are, put, count)

pub all_copied : (rows : Rows) (Are : Template → List Database → Type 0) (input mid left old now new : Option (List ℕ)) (before after : Counts)
    → IsMarkCopied input mid old now → IsEnriched rows Are mid left now new before after → OnSome mid (IsAtEnd left) → AreAllCopied rows Are input old new before after
all_copied rows Are None mid left old now new before after marked is end = tt
all_copied rows Are (Some xs) mid left old now new before after (kept, put) is end =
    let (stretches, are, more, count) = all_passed rows Are (behind_mark xs) left now new before after (subst (λ m. IsEnriched rows Are m left now new before after) kept is) (subst (λ m. OnSome m (IsAtEnd left)) kept end) in
    (stretches, are, Appends-trans old now new (mark_of mark xs) (written (lines_of stretches)) put more, count)

pub rows_copied : (rows : Rows) (task : RowsTask) (Are : Columns → Template → List Database → Type 0) (columns : Columns) (input mid next left old now then new : Option (List ℕ)) (before after : Counts)
    → IsMarkCopied input mid old now → IsHeaderPassed task.header task mid next now then
    → IfSome mid (λ xs. AreColumnsOf task.header task.rows task.column xs columns) → IsEnriched rows (Are columns) next left then new before after → OnSome next (IsAtEnd left)
    → AreRowsCopied rows task Are input old new before after
rows_copied rows task Are columns None mid next left old now then new before after marked passed named is end = tt
rows_copied rows task Are columns (Some xs) mid next left old now then new before after (kept, put) passed named is end =
    let names = names_in task in
    let rest = behind_mark xs in
    let header = header_text task.header task.rows names rest in
    let (behind, put_header) = subst (λ m. IsHeaderPassed task.header task m next now then) kept passed in
    let (stretches, are, more, count) =
    all_passed rows (Are columns) (behind_header task.header task.rows rest) left then new before after (subst (λ m. IsEnriched rows (Are columns) m left then new before after) behind is)
    (subst (λ m. OnSome m (IsAtEnd left)) behind end) in
    let text = written (lines_of stretches) in
    (columns, stretches, subst (λ m. IfSome m (λ ys. AreColumnsOf task.header task.rows task.column ys columns)) kept named, are, Appends-trans old now new (mark_of mark xs) (header ++ text) put (Appends-trans now then new header text put_header more), count)

-- what follows of two facts of a value
pub on_both : {T E A B C : Type 0} (r : Result T E) → (A → B → C) → OnOk r A → OnOk r B → OnOk r C
on_both (Ok x) f a b = f a b
on_both (Err e) f a b = tt
