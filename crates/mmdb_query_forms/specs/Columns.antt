-- Rows of columns: what a row has before its network, and after it.
use Rattle.std.specs.Prelude.{◌≡◌, ◌⊎◌, ℕ, List, [], ◌∷◌, ◌++◌, Option, Some, None, Bool, true, false, codes}
use Rattle.std.specs.Bool.{MatchBool}
use Rattle.mmdb_format.specs.Contents.{text}
use Rattle.mmdb_format.specs.Unfolding.{Tree, scalar}
use Rattle.mmdb_reader.specs.declared.path.PathElement.{PathElement}
use Rattle.mmdb_json.specs.Texts.{IsCompact}
use Rattle.mmdb_filter.specs.Cells.{csv_cell}
use Rattle.mmdb_query.specs.Reading.{values_of, value_of}
use Rattle.mmdb_query_forms.specs.Labels.{member_label}
use Rattle.mmdb_query_forms.specs.declared.column.Column.{Column}
use Rattle.mmdb_query_forms.specs.declared.column.ColumnSource.{ColumnSource}
use Rattle.mmdb_query_forms.specs.declared.column.ColumnSource.TheVariants.{Path, Record}
use Rattle.mmdb_query_forms.specs.declared.columns.RowForm.{RowForm}
use Rattle.mmdb_query_forms.specs.declared.columns.RowForm.TheVariants.{Csv, Json}

-- What databases have: along a path the first value, and at a place the whole record. There is no answer where that can't be
-- read.
pub record Readings : Type 0 where
  pub values : List PathElement → Option (Option Tree)
  pub records : ℕ → Option (Option Tree)

-- the same by the data sections of the databases, and where each has its record
abbrev pub readings_of : List (List ℕ) → List (Option ℕ) → Readings
readings_of sections offsets = record { values = values_of sections offsets; records = λ place. value_of sections offsets place [] }

-- what a column shows, or that it shows nothing
abbrev pub read_by : ColumnSource → Readings → Option (Option Tree)
read_by (Path path) readings = readings.values path.items
read_by (Record place) readings = readings.records place

-- ---- values

abbrev pub is_any_text : Tree → Bool
is_any_text (scalar (text x)) = true
is_any_text _ = false

abbrev pub text_bytes : Tree → List ℕ
text_bytes (scalar (text x)) = x
text_bytes _ = []

-- A cell of CSV is a text, or the JSON of any other value, and empty where there is no value. In an object a value is JSON, and
-- null where there is none.
abbrev pub ShowsValue : RowForm → Option Tree → List ℕ → Type 0
ShowsValue Csv None shown = shown ≡ []
ShowsValue Csv (Some v) shown =
    (cell : List ℕ) × MatchBool (is_any_text v) (cell ≡ text_bytes v) (IsCompact v cell) × (shown ≡ csv_cell 44 cell)
ShowsValue Json None shown = shown ≡ codes "null"
ShowsValue Json (Some v) shown = IsCompact v shown

-- ---- columns

-- what comes before a column's value: a comma, and in an object the name too
abbrev pub label_of : RowForm → Column → List ℕ
label_of Csv column = 44 ∷ []
label_of Json column = member_label column.name.now

-- the value of each column, with what comes before it
abbrev pub AreColumns : RowForm → Readings → List Column → List ℕ → Type 0
AreColumns form readings [] shown = shown ≡ []
AreColumns form readings (column ∷ columns) shown =
    (value : Option Tree) × (first rest : List ℕ) × (read_by column.source readings ≡ Some value) × ShowsValue form value first
    × AreColumns form readings columns rest × (shown ≡ (label_of form column ++ first) ++ rest)

-- what one of the columns shows can't be read
abbrev pub AnyUnread : Readings → List Column → Type 0
AnyUnread readings [] = ⊥
AnyUnread readings (column ∷ columns) = (read_by column.source readings ≡ None) ⊎ AnyUnread readings columns

-- ---- rows

-- what a row has before its network, right behind it, and at its end
abbrev pub front_of : RowForm → List ℕ
front_of Csv = []
front_of Json = 123 ∷ (34 ∷ (codes "network" ++ 34 ∷ (58 ∷ (34 ∷ []))))

abbrev pub behind_network : RowForm → List ℕ
behind_network Csv = []
behind_network Json = 34 ∷ []

abbrev pub end_of : RowForm → List ℕ
end_of Csv = 10 ∷ []
end_of Json = 125 ∷ (10 ∷ [])

-- what a row has after its network
pub record IsTail (form : RowForm) (readings : Readings) (columns : List Column) (tail : List ℕ) : Type 0 where
  pub shown : List ℕ
  pub are_columns : AreColumns form readings columns shown
  pub whole : tail ≡ (behind_network form ++ shown) ++ end_of form
