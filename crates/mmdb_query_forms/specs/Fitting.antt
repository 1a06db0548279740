-- What is kept to make rows faster is of the data sections of the databases.
use Rattle.std.specs.Prelude.{◌≡◌, ◌<◌, ◌≤◌, ℕ, List, [], length, get_or}
use Rattle.mmdb_query_forms.specs.Kept.{SourceFits}
use Rattle.mmdb_query_forms.specs.declared.column.Column.{Column}
use Rattle.mmdb_query_forms.specs.declared.columns.Columns.{Columns}
use Rattle.mmdb_query_forms.specs.declared.scratch.ColumnScratch.{ColumnScratch}

-- the texts at each place are of the records of the data section there
abbrev pub TextsFit : List (List ℕ) → List (List ℕ) → Type 0
TextsFit texts sections = (place : ℕ) → place < length texts → get_or texts place [] ≡ get_or sections place []

-- all that is kept is of the records of the data sections, and of each column what it shows of them
pub record ScratchFits (columns : Columns) (sections : List (List ℕ)) (scratch : ColumnScratch) : Type 0 where
  pub texts : TextsFit scratch.texts.items sections
  pub many : length columns.columns.items ≤ length scratch.kept.items
  pub shown : (place : ℕ) (column : Column) → place < length columns.columns.items → get_or columns.columns.items place column ≡ column
      → SourceFits columns.form column.source sections (get_or scratch.kept.items place [])
