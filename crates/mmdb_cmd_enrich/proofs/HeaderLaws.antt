-- The first row is what is read up to its end, or to the input's.
use Rattle.std.proofs.Common.{◌≡◌, ◌≢◌, ℕ, List, [], ◌∷◌, ◌++◌, Option, Some, None, IfSome, OnSome, refl, sym, ap, ◌∙◌, append-nil}
use Rattle.std.specs.Io.KnownBytes.{IsAtEnd}
use Rattle.mmdb_filter.specs.Rows.{row_from, rows_after, Leads}
use Rattle.mmdb_filter.specs.declared.rows.Rows.{Rows}
use Rattle.mmdb_filter.specs.declared.rows.RowPosition.{RowPosition}
use Rattle.mmdb_filter.specs.declared.rows.RowPosition.TheVariants.{Cell, Plain, Quoted, Closing, Ended}

ended : (rows : Rows) (ys : List ℕ) → (row_from rows Ended ys ≡ []) × (rows_after rows Ended ys ≡ ys)
unfolding row_from rows_after
ended rows [] = (refl, refl)
ended rows (y ∷ ys) = (refl, refl)

none_left : (rows : Rows) (position : RowPosition) → (row_from rows position [] ≡ []) × (rows_after rows position [] ≡ [])
unfolding row_from rows_after
none_left rows position = (refl, refl)

at_end : (rows : Rows) (position : RowPosition) (ys : List ℕ) → ys ≡ [] → (row_from rows position ys ≡ []) × (rows_after rows position ys ≡ ys)
at_end rows position ys none =
    let (row, after) = none_left rows position in
    (ap (row_from rows position) none ∙ row, ap (rows_after rows position) none ∙ after ∙ sym none)

nothing_left : (rows : Rows) (position : RowPosition) (ys : List ℕ) → (position ≢ Ended → ys ≡ []) → (row_from rows position ys ≡ []) × (rows_after rows position ys ≡ ys)
nothing_left rows Ended ys none = ended rows ys
nothing_left rows Cell ys none = at_end rows Cell ys (none (λ e. absurd (cc)))
nothing_left rows Plain ys none = at_end rows Plain ys (none (λ e. absurd (cc)))
nothing_left rows Quoted ys none = at_end rows Quoted ys (none (λ e. absurd (cc)))
nothing_left rows Closing ys none = at_end rows Closing ys (none (λ e. absurd (cc)))

pub first_read : (rows : Rows) (position : RowPosition) (bytes : List ℕ) (old new : Option (List ℕ)) → Leads rows Cell old bytes position new → (position ≢ Ended → OnSome old (IsAtEnd new))
    → IfSome old (λ xs. (bytes ≡ row_from rows Cell xs) × (new ≡ Some (rows_after rows Cell xs)))
first_read rows position bytes None new leads end = tt
first_read rows position bytes (Some xs) None leads end = absurd leads
first_read rows position bytes (Some xs) (Some ys) leads end =
    let (row, after) = nothing_left rows position ys end in
    (sym (leads.0 ∙ ap (λ t. bytes ++ t) row ∙ append-nil bytes), ap Some (sym (leads.1 ∙ after)))
