-- What rows are written.
use Rattle.std.specs.Prelude.{ℕ, List, Option}
use Rattle.mmdb_layout.specs.Conditions.{SaysAllMetBy, HasUnreadBy}
use Rattle.mmdb_layout.specs.declared.condition.Condition.{Condition}
use Rattle.mmdb_query.specs.Ends.{leaves_none, EndsBy}
use Rattle.mmdb_query.specs.Reading.{outlines_of}
use Rattle.mmdb_query.specs.Rows.{IsRow, nothing}
use Rattle.mmdb_query.specs.Taking.{Asked, Takes}
use Rattle.mmdb_query.specs.Walks.{Item}
use Rattle.mmdb_query.specs.declared.error.QueryError.{QueryError}
use Rattle.mmdb_query_forms.specs.Columns.{readings_of, front_of, IsTail, AnyUnread}
use Rattle.mmdb_query_forms.specs.declared.columns.Columns.{Columns}

-- What is asked of the records at offsets of these data sections: whether they meet all conditions, and a row of columns.
abbrev pub asked_of : List Condition → Columns → List (List ℕ) → Asked (Unit {0})
asked_of conditions columns s = record {
  says = λ offsets b. SaysAllMetBy conditions (outlines_of s offsets) b;
  unsaid = λ offsets. HasUnreadBy conditions (outlines_of s offsets);
  puts = λ had old text new. IsRow (front_of columns.form) (λ offsets tail. IsTail columns.form (readings_of s offsets) columns.columns.items tail) had text;
  unput = λ offsets. AnyUnread (readings_of s offsets) columns.columns.items;
  leaves = leaves_none columns s;
}

-- Of what comes the rows of the networks were written that meet all conditions, in order and nothing else, and so many can't be
-- read.
abbrev pub AreWritten : (List Item → Type 0) → List (List ℕ) → List Condition → Columns → Option (List ℕ) → Option (List ℕ) → ℕ → Type 0
AreWritten comes s conditions columns before after unread = Takes comes (asked_of conditions columns s) nothing nothing before after unread

-- why that ended: where memory is out, the rows of some first networks were written
abbrev pub EndRows : {W : Type 0} → (W → List Item → Type 0) → W → List (List ℕ) → List Condition → Columns → Option (List ℕ) → Option (List ℕ) → QueryError → Type 0
EndRows comes walk s conditions columns before after e = EndsBy comes (asked_of conditions columns s) walk nothing before after e
