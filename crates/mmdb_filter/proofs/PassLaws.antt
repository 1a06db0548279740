-- How a row passes in chunks.
use Rattle.std.proofs.Common.{◌≡◌, ◌≢◌, ℕ, ◌≤◌, List, [], ◌++◌, length, Option, Some, None, OnSome, refl, sym, ap, ◌∙◌, subst, append_assoc, append-nil, arith, length-append, ◌⊎◌, inl, inr}
use Rattle.std.specs.Io.KnownBytes.{Appends, IsAtEnd}
use Rattle.std.proofs.KnownBytes.{Appends-nil, Appends-trans}
use Rattle.mmdb_filter.specs.Rows.{row_from, rows_after, Leads}
use Rattle.mmdb_filter.specs.Lines.{row_with, AppendsFront}
use Rattle.mmdb_filter.specs.Working.{Passes, PassesFront}
use Rattle.mmdb_filter.specs.declared.rows.Rows.{Rows}
use Rattle.mmdb_filter.specs.declared.rows.RowPosition.{RowPosition}
use Rattle.mmdb_filter.specs.declared.rows.RowPosition.TheVariants.{Cell, Plain, Quoted, Closing, Ended}
use Rattle.mmdb_filter.proofs.FrontLaws.{front_whole, front_more, front_then}
use Rattle.mmdb_filter.proofs.RowLaws.{row_from_ended, rows_after_ended, row_from_nothing, rows_after_nothing}
use Rattle.mmdb_filter.proofs.TextLaws.{row_behind}

-- what was written of the row, and that this, the chunk and what is left make the row
abbrev pub Passing : Rows → RowPosition → List ℕ → ℕ → Option (List ℕ) → Option (List ℕ) → RowPosition → List ℕ → Option (List ℕ) → Option (List ℕ) → Type 0
Passing rows first begun behind None left position chunk left_now now = Unit {0}
Passing rows first begun behind (Some xs) old position chunk None new = ⊥
Passing rows first begun behind (Some xs) old position chunk (Some ys) new =
    (done : List ℕ) × Appends old new done × (begun ++ row_from rows first xs ≡ done ++ (chunk ++ row_from rows position ys)) × (rows_after rows first xs ≡ rows_after rows position ys)
    × ((done ≡ []) ⊎ ((2 ≤ length chunk) × (behind ≡ 0)))

pub passing_starts : (rows : Rows) (first : RowPosition) (begun : List ℕ) (behind : ℕ) (input old : Option (List ℕ)) → Passing rows first begun behind input old first begun input old
passing_starts rows first begun behind None old = tt
passing_starts rows first begun behind (Some xs) old = ([], Appends-nil old, refl, refl, inl refl)

regroup : (done front kept bytes rest : List ℕ) → done ++ ((front ++ kept) ++ (bytes ++ rest)) ≡ (done ++ front) ++ ((kept ++ bytes) ++ rest)
regroup done front kept bytes rest = simp append_assoc

pub passes_chunk : (rows : Rows) (first position next : RowPosition) (begun chunk front kept bytes new_chunk : List ℕ) (behind : ℕ) (input old left now after new : Option (List ℕ))
    → chunk ≡ front ++ kept → 2 ≤ length kept → behind ≡ 0 → Appends now new front → new_chunk ≡ kept ++ bytes → Leads rows position left bytes next after
    → Passing rows first begun behind input old position chunk left now → Passing rows first begun behind input old next new_chunk after new
passes_chunk rows first position next begun chunk front kept bytes new_chunk behind None old left now after new split two none put is leads way = tt
passes_chunk rows first position next begun chunk front kept bytes new_chunk behind (Some xs) old None now after new split two none put is leads way = absurd way
passes_chunk rows first position next begun chunk front kept bytes new_chunk behind (Some xs) old (Some ys) now None new split two none put is leads way = absurd leads
passes_chunk rows first position next begun chunk front kept bytes new_chunk behind (Some xs) old (Some ys) now (Some zs) new split two none put is leads way =
    let (done, appended, same, after_same, seam) = way in
    let long : 2 ≤ length new_chunk = omega (arith, ap length is, length-append kept bytes) in (
      done ++ front,
      Appends-trans old now new done front appended put,
      same ∙ ap (λ p. done ++ (p ++ row_from rows position ys)) split ∙ ap (λ r. done ++ ((front ++ kept) ++ r)) leads.0 ∙ regroup done front kept bytes (row_from rows next zs)
          ∙ ap (λ p. (done ++ front) ++ (p ++ row_from rows next zs)) (sym is),
      after_same ∙ leads.1,
      inr (long, none),
    )

-- the last chunk
at_end : (rows : Rows) (position : RowPosition) (ys : List ℕ) → ys ≡ [] → (row_from rows position ys ≡ []) × (rows_after rows position ys ≡ ys)
at_end rows position ys e = (ap (row_from rows position) e ∙ row_from_nothing rows position, ap (rows_after rows position) e ∙ rows_after_nothing rows position ∙ sym e)

pub nothing_left : (rows : Rows) (position : RowPosition) (ys : List ℕ) → (position ≢ Ended → ys ≡ []) → (row_from rows position ys ≡ []) × (rows_after rows position ys ≡ ys)
nothing_left rows Ended ys h = (row_from_ended rows ys, rows_after_ended rows ys)
nothing_left rows Cell ys h = at_end rows Cell ys (h (λ e. absurd (cc)))
nothing_left rows Plain ys h = at_end rows Plain ys (h (λ e. absurd (cc)))
nothing_left rows Quoted ys h = at_end rows Quoted ys (h (λ e. absurd (cc)))
nothing_left rows Closing ys h = at_end rows Closing ys (h (λ e. absurd (cc)))

whole_row : (done chunk rest extra all : List ℕ) (behind : ℕ) → all ≡ done ++ (chunk ++ rest) → rest ≡ [] → (done ≡ []) ⊎ ((2 ≤ length chunk) × (behind ≡ 0)) → row_with all extra behind ≡ done ++ row_with chunk extra behind
whole_row done chunk rest extra all behind e none seam = ap (λ a. row_with a extra behind) (e ∙ ap (λ r. done ++ (chunk ++ r)) none ∙ ap (λ p. done ++ p) (append-nil chunk)) ∙ row_behind done chunk extra behind seam

pub passed : (rows : Rows) (first position : RowPosition) (begun chunk extra : List ℕ) (behind : ℕ) (input old left now : Option (List ℕ))
    → (position ≢ Ended → OnSome input (IsAtEnd left)) → (last : List ℕ) → last ≡ row_with chunk extra behind → Passing rows first begun behind input old position chunk left now → Passes rows first begun extra behind input left old now last
passed rows first position begun chunk extra behind None old left now ready last is way = tt
passed rows first position begun chunk extra behind (Some xs) old None now ready last is way = absurd way
passed rows first position begun chunk extra behind (Some xs) old (Some ys) now ready last is way =
    let (done, appended, same, after_same, seam) = way in
    let none = nothing_left rows position ys ready in (
      ap Some (sym (after_same ∙ none.1)),
      (done, whole_row done chunk (row_from rows position ys) extra _ behind same none.0 seam ∙ ap (λ t. done ++ t) (sym is), appended),
    )

-- given up with a front of the chunk, after which there are at least two bytes
seam_behind : (done front kept rest extra all : List ℕ) (behind : ℕ) → all ≡ done ++ ((front ++ kept) ++ rest) → 2 ≤ length kept → behind ≡ 0 → row_with all extra behind ≡ (done ++ front) ++ row_with (kept ++ rest) extra behind
seam_behind done front kept rest extra all behind e two none =
    let long : 2 ≤ length (kept ++ rest) = omega (arith, length-append kept rest) in
    ap (λ a. row_with a extra behind) (e ∙ ap (λ t. done ++ t) (append_assoc front kept rest) ∙ sym (append_assoc done front (kept ++ rest))) ∙ row_behind (done ++ front) (kept ++ rest) extra behind (inr (long, none))

pub stopped_in : (rows : Rows) (first position : RowPosition) (begun chunk extra front kept : List ℕ) (behind : ℕ) (input old left now new : Option (List ℕ))
    → chunk ≡ front ++ kept → 2 ≤ length kept → behind ≡ 0 → AppendsFront now new front → Passing rows first begun behind input old position chunk left now → PassesFront rows first begun extra behind input old new
stopped_in rows first position begun chunk extra front kept behind None old left now new split two zero put way = tt
stopped_in rows first position begun chunk extra front kept behind (Some xs) old None now new split two zero put way = absurd way
stopped_in rows first position begun chunk extra front kept behind (Some xs) old (Some ys) now new split two zero put way =
    let (done, appended, same, after_same, seam) = way in
    let rest = row_from rows position ys in
    subst (λ t. AppendsFront old new t) (sym (seam_behind done front kept rest extra _ behind (same ∙ ap (λ p. done ++ (p ++ rest)) split) two zero))
    (front_more old new (done ++ front) (row_with (kept ++ rest) extra behind) (front_then old now new done front appended put))

-- given up between two chunks
pub stopped : (rows : Rows) (first position : RowPosition) (begun chunk extra : List ℕ) (behind : ℕ) (input old left now : Option (List ℕ))
    → Passing rows first begun behind input old position chunk left now → PassesFront rows first begun extra behind input old now
stopped rows first position begun chunk extra behind None old left now way = tt
stopped rows first position begun chunk extra behind (Some xs) old None now way = absurd way
stopped rows first position begun chunk extra behind (Some xs) old (Some ys) now way =
    let (done, appended, same, after_same, seam) = way in
    let rest = row_from rows position ys in
    subst (λ t. AppendsFront old now t) (sym (ap (λ a. row_with a extra behind) same ∙ row_behind done (chunk ++ rest) extra behind (more seam))) (front_whole old now done (row_with (chunk ++ rest) extra behind) appended)
  where
    more : {done : List ℕ} → (done ≡ []) ⊎ ((2 ≤ length chunk) × (behind ≡ 0)) → (done ≡ []) ⊎ ((2 ≤ length (chunk ++ row_from rows position ys)) × (behind ≡ 0))
    more (inl e) = inl e
    more (inr (h, none)) = inr (omega (arith, length-append chunk (row_from rows position ys)), none)

-- what holds where bytes are left of a known row
pub at_end_too : (rows : Rows) (first position : RowPosition) (begun chunk : List ℕ) (behind : ℕ) (input old left now : Option (List ℕ)) (P : Type 0) → Passing rows first begun behind input old position chunk left now → OnSome left P → OnSome input P
at_end_too rows first position begun chunk behind None old left now P way p = tt
at_end_too rows first position begun chunk behind (Some xs) old None now P way p = absurd way
at_end_too rows first position begun chunk behind (Some xs) old (Some ys) now P way p = p
