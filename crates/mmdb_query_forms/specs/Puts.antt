-- What is added to bytes.
use Rattle.std.specs.Prelude.{◌≡◌, ℕ, List, ◌++◌, Option, Some, None, Bool, true, false}
use Rattle.mmdb_format.specs.Unfolding.{Tree}
use Rattle.mmdb_reader.specs.declared.path.PathElement.{PathElement}
use Rattle.mmdb_query.specs.Reading.{reads_in, value_found}
use Rattle.mmdb_query_forms.specs.Kept.{Kept, AreKept}
use Rattle.mmdb_query_forms.specs.Columns.{Readings, read_by, ShowsValue, label_of, AreColumns}
use Rattle.mmdb_query_forms.specs.declared.column.Column.{Column}
use Rattle.mmdb_query_forms.specs.declared.columns.RowForm.{RowForm}

-- what shows a value, or that there is none
abbrev pub PutsValue : RowForm → Option Tree → List ℕ → List ℕ → Type 0
PutsValue form value old new = (shown : List ℕ) × ShowsValue form value shown × (new ≡ old ++ shown)

-- what shows what was read
abbrev pub PutsRead : RowForm → Option (Option Tree) → List ℕ → List ℕ → Type 0
PutsRead form read old new = (value : Option Tree) × (read ≡ Some value) × PutsValue form value old new

-- what shows the value that was read, or nothing where there is none
abbrev pub PutsFound : RowForm → Option (Option Tree) → Bool → List ℕ → List ℕ → Type 0
PutsFound form read true old new = (v : Tree) × (read ≡ Some (Some v)) × PutsValue form (Some v) old new
PutsFound form read false old new = (read ≡ Some None) × (new ≡ old)

-- the same by what is kept of the record at an offset, if that is kept
abbrev pub PutsKept : RowForm → Kept → ℕ → Option Bool → List ℕ → List ℕ → Type 0
PutsKept form kept offset None old new = new ≡ old
PutsKept form kept offset (Some found) old new =
    (path : List PathElement) (s : List ℕ) → AreKept form path s kept → PutsFound form (reads_in value_found s (Some offset) path) found old new

-- a column's value, with what comes before it
abbrev pub PutsColumn : RowForm → Readings → Column → List ℕ → List ℕ → Type 0
PutsColumn form readings column old new =
    (value : Option Tree) × (shown : List ℕ) × (read_by column.source readings ≡ Some value) × ShowsValue form value shown
    × (new ≡ old ++ (label_of form column ++ shown))

-- that of each column
abbrev pub PutsColumns : RowForm → Readings → List Column → List ℕ → List ℕ → Type 0
PutsColumns form readings columns old new = (shown : List ℕ) × AreColumns form readings columns shown × (new ≡ old ++ shown)
