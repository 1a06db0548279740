-- What contracts of private functions and proofs name.
use Rattle.std.specs.Prelude.{ℕ, ◌-◌, ◌≡◌, ◌≢◌, ◌<◌, List, ◌++◌, length, drop, get_or, Option, Some, None, IfSome, ◌==◌, nat_le, if◌then◌else◌}
use Rattle.std.specs.Io.KnownBytes.{Appends, IsAtEnd}
use Rattle.mmdb_filter.specs.Rows.{row_from, rows_after}
use Rattle.mmdb_filter.specs.Lines.{MayAdd, Line, AreLines, row_with, written, counted, AppendsFront}
use Rattle.mmdb_filter.specs.declared.counts.Counts.{Counts}
use Rattle.mmdb_filter.specs.declared.rows.Rows.{Rows}
use Rattle.mmdb_filter.specs.declared.rows.RowPosition.{RowPosition}
use Rattle.mmdb_filter.specs.declared.rows.RowPosition.TheVariants.{Cell, Plain, Quoted, Ended}

-- A row that has not ended in a chunk of less than so many bytes ends with the input.
abbrev pub EndsWithInput : ℕ → RowPosition → List ℕ → Option (List ℕ) → Type 0
EndsWithInput held position chunk left = position ≢ Ended → length chunk < held → IsAtEnd left

-- all of the row was read, and what was written of it and what is ready make it, with what is added
abbrev pub Passes : Rows → RowPosition → List ℕ → List ℕ → ℕ → Option (List ℕ) → Option (List ℕ) → Option (List ℕ) → Option (List ℕ) → List ℕ → Type 0
Passes rows position chunk extra behind None next old new ready = Unit {0}
Passes rows position chunk extra behind (Some xs) next old new ready =
    (next ≡ Some (rows_after rows position xs))
    × ((done : List ℕ) × (row_with (chunk ++ row_from rows position xs) extra behind ≡ done ++ ready) × Appends old new done)

-- a beginning of it was written
abbrev pub PassesFront : Rows → RowPosition → List ℕ → List ℕ → ℕ → Option (List ℕ) → Option (List ℕ) → Option (List ℕ) → Type 0
PassesFront rows position chunk extra behind None old new = Unit {0}
PassesFront rows position chunk extra behind (Some xs) old new = AppendsFront old new (row_with (chunk ++ row_from rows position xs) extra behind)

-- the position after a byte that is neither a quote nor a line feed
abbrev pub position_past : ℕ → RowPosition → ℕ → RowPosition
position_past delimiter Quoted x = Quoted
position_past delimiter position x = if x == delimiter then Cell else Plain

-- the position after such bytes
abbrev pub position_behind : ℕ → RowPosition → List ℕ → ℕ → ℕ → RowPosition
position_behind delimiter position xs from to =
    if nat_le to from then position else position_past delimiter position (get_or xs (to - 1) 0)

-- What was written and what is ready are the first rows with what is added, and whatever rows are left complete those of the
-- whole.
abbrev pub UnderWay : Rows → MayAdd → Option (List ℕ) → Option (List ℕ) → Option (List ℕ) → Option (List ℕ) → List ℕ → Counts → Counts → Type 0
UnderWay rows Adds None left old now ready before c = Unit {0}
UnderWay rows Adds (Some all) None old now ready before c = ⊥
UnderWay rows Adds (Some all) (Some left) old now ready before c =
    (done : List ℕ) × Appends old now done
    × ((rest : List ℕ) (lines : List Line) → AreLines rows Adds lines left rest → (whole : List Line) × AreLines rows Adds whole all rest × (written whole ≡ done ++ (ready ++ written lines)) × (counted before whole ≡ counted c lines))

-- The first `n` of some bytes are rows that became ready, whatever follows them, and whatever rows are left complete those of
-- the whole.
abbrev pub GoOn : Rows → MayAdd → List ℕ → ℕ → List ℕ → List ℕ → Counts → Counts → Type 0
GoOn rows Adds xs n old new before after =
    (ys rest : List ℕ) (lines : List Line) → AreLines rows Adds lines (drop n xs ++ ys) rest
    → (whole : List Line) × AreLines rows Adds whole (xs ++ ys) rest × (old ++ written whole ≡ new ++ written lines) × (counted before whole ≡ counted after lines)

-- A beginning of what is ready was written, and this is ready then.
abbrev pub IsPutFrom : List ℕ → List ℕ → Option (List ℕ) → Option (List ℕ) → Type 0
IsPutFrom ready rest old new = (done : List ℕ) × (ready ≡ done ++ rest) × Appends old new done

-- What was written, and then what is ready, is a beginning of the first rows with what is added.
abbrev pub IsBegunWith : Rows → MayAdd → Option (List ℕ) → Option (List ℕ) → Option (List ℕ) → List ℕ → Type 0
IsBegunWith rows Adds input old new ready =
    IfSome input (λ xs. (left : List ℕ) × (lines : List Line) × (done rest : List ℕ) × AreLines rows Adds lines xs left × (written lines ≡ done ++ (ready ++ rest)) × Appends old new done)
