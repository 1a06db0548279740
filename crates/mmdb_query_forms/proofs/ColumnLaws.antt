-- Columns, one after another.
use Rattle.std.proofs.Common.{◌≡◌, inl, inr, ℕ, List, [], ◌∷◌, ◌++◌, None, refl, sym, ap, ◌∙◌, append_assoc, append-nil}
use Rattle.mmdb_query_forms.specs.Columns.{Readings, read_by, label_of, AreColumns, AnyUnread}
use Rattle.mmdb_query_forms.specs.Puts.{PutsRead, PutsColumn, PutsColumns}
use Rattle.mmdb_query_forms.specs.declared.column.Column.{Column}
use Rattle.mmdb_query_forms.specs.declared.columns.RowForm.{RowForm}

module _ (form : RowForm) (readings : Readings) where
  -- Whatever shows the columns left completes what shows all, and what can't be read of them can't be read of all.
  pub record ColumnsWay (all left : List Column) (old now : List ℕ) : Type 0 where
    pub shown : (rest : List ℕ) → AreColumns form readings left rest → (whole : List ℕ) × AreColumns form readings all whole × (now ++ rest ≡ old ++ whole)
    pub unread : AnyUnread readings left → AnyUnread readings all

  pub columns_begun : (all : List Column) (old : List ℕ) → ColumnsWay all all old old
  columns_begun all old = record { shown = λ rest are. (rest, are, refl); unread = λ u. u }

  -- what shows what was read, with what comes before it
  pub labelled : (column : Column) (old now new : List ℕ) → now ≡ old ++ label_of form column → PutsRead form (read_by column.source readings) now new → PutsColumn form readings column old new
  labelled column old now new put (value, read, puts) =
      let (shown, shows, grown) = puts in
      (value, shown, read, shows, grown ∙ ap (λ t. t ++ shown) put ∙ append_assoc old (label_of form column) shown)

  pub column_put : (all left : List Column) (column : Column) (old now new : List ℕ) → ColumnsWay all (column ∷ left) old now → PutsColumn form readings column now new → ColumnsWay all left old new
  column_put all left column old now new way (value, shown, read, shows, put) = record {
    shown = λ rest are.
        let first = label_of form column ++ shown in
        let (whole, wholes, same) = way.shown (first ++ rest) (value, shown, rest, read, shows, are, refl) in
        (whole, wholes, ap (λ t. t ++ rest) put ∙ append_assoc now first rest ∙ same);
    unread = λ u. way.unread (inr u);
  }

  pub columns_put : (all : List Column) (old now : List ℕ) → ColumnsWay all [] old now → PutsColumns form readings all old now
  columns_put all old now way =
      let (whole, wholes, same) = way.shown [] refl in
      (whole, wholes, sym (append-nil now) ∙ same)

  pub column_unread : (all left : List Column) (column : Column) (old now : List ℕ) → ColumnsWay all (column ∷ left) old now → read_by column.source readings ≡ None → AnyUnread readings all
  column_unread all left column old now way none = way.unread (inl none)
