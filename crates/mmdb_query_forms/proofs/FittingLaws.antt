-- What is kept of columns, where it is let go.
use Rattle.std.proofs.Common.{◌≡◌, ◌≢◌, ◌<◌, ◌≤◌, ◌⊎◌, inl, inr, ℕ, List, [], length, set, get_or, sym, ap, ◌∙◌, subst}
use Rattle.std.proofs.lemmas.List.{get_or_default, get_or-set_same, get_or-set_other, length-set}
use Rattle.mmdb_reader.specs.declared.path.PathElement.{PathElement}
use Rattle.mmdb_query_forms.specs.Kept.{Kept, AreAllKept, AreLeft, path_of}
use Rattle.mmdb_query_forms.specs.Fitting.{TextsFit, ScratchFits}
use Rattle.mmdb_query_forms.specs.declared.columns.Columns.{Columns}
use Rattle.mmdb_query_forms.specs.declared.columns.RowForm.{RowForm}
use Rattle.mmdb_query_forms.specs.declared.scratch.ColumnScratch.{ColumnScratch}
use Rattle.mmdb_query_forms.proofs.KeptLaws.{same_or_not}

module _ (form : RowForm) (path : List PathElement) (sections : List (List ℕ)) where
  left_at : (kept : List (List Kept)) (i place : ℕ) (before new : List Kept) → i < length kept → before ≡ get_or kept i before
      → (AreAllKept form path sections before → AreAllKept form path sections new) → (place ≡ i) ⊎ (place ≢ i)
      → AreAllKept form path sections (get_or kept place []) → AreAllKept form path sections (get_or (set kept i new) place [])
  left_at kept i place before new within is left (inl same) fits =
      let was : get_or kept place [] ≡ before = ap (λ n. get_or kept n []) same ∙ get_or_default kept i [] before within ∙ sym is in
      let now : get_or (set kept i new) place [] ≡ new = ap (λ n. get_or (set kept i new) n []) same ∙ get_or-set_same kept i new [] within in
      subst (AreAllKept form path sections) (sym now) (left (subst (AreAllKept form path sections) was fits))
  left_at kept i place before new within is left (inr other) fits =
      subst (AreAllKept form path sections) (sym (get_or-set_other kept i place new [] other)) fits

-- one more column is let go
pub one_left : (old kept : List (List Kept)) (i : ℕ) (before new : List Kept) → AreLeft old kept → i < length kept → before ≡ get_or kept i before
    → ((form : RowForm) (path : List PathElement) (sections : List (List ℕ)) → AreAllKept form path sections before → AreAllKept form path sections new) → AreLeft old (set kept i new)
one_left old kept i before new all within is left = record {
  many = length-set kept i new ∙ all.many;
  kept = λ form path sections place fits. left_at form path sections kept i place before new within is (left form path sections) (same_or_not place i) (all.kept form path sections place fits);
}

-- what is left fits
pub left_fits : (columns : Columns) (s : List (List ℕ)) (old new : ColumnScratch) → new.texts.items ≡ old.texts.items → AreLeft old.kept.items new.kept.items → ScratchFits columns s old → ScratchFits columns s new
left_fits columns s old new texts left fits = record {
  texts = subst (λ t. TextsFit t s) (sym texts) fits.texts;
  many = subst (λ n. length columns.columns.items ≤ n) (sym left.many) fits.many;
  shown = λ place column within is. left.kept columns.form (path_of column.source) s place (fits.shown place column within is);
}
