-- Cells, one after another.
use Rattle.std.proofs.Common.{◌≡◌, ℕ, List, [], ◌∷◌, ◌++◌, Bool, true, false, ◌&&◌, is_some, Option, Some, None, option_map, Result, Ok, Err, IfOk, IfErr, refl, sym, ap, ◌∙◌, append_assoc, append-nil}
use Rattle.mmdb_format.specs.declared.error.MaxMindDbError.{MaxMindDbError}
use Rattle.mmdb_found.specs.Found.{value_found}
use Rattle.mmdb_value.specs.Values.{value_tree}
use Rattle.mmdb_value.specs.declared.any_value.Value.{Value}
use Rattle.mmdb_reader.specs.Decoding.{FailsToDecode}
use Rattle.mmdb_reader.specs.Selecting.{SelectsTo}
use Rattle.mmdb_reader.specs.declared.path.PathElement.{PathElement}
use Rattle.mmdb_filter.specs.declared.rows.Rows.{Rows}
use Rattle.mmdb_cmd_enrich.specs.Columns.{delimiter_of}
use Rattle.mmdb_format.specs.Unfolding.{Tree}
use Rattle.mmdb_cmd_enrich.specs.Cells.{IsCell, AreCells, are_read}
use Rattle.mmdb_layout.specs.Reading.{reads_in, IsReadAs}

-- what decoding along a path gave
pub read_as : (path : List PathElement) (s : List ℕ) (found : Option ℕ) (r : Result (Option Value) MaxMindDbError)
    → IfOk r (λ value. SelectsTo value_tree (value_found path s) found value)
    → IfErr r (λ e. FailsToDecode false e (value_found path s) found)
    → IsReadAs (reads_in s found path) r
read_as path s None (Ok value) ok err = ap (λ v. Some (option_map value_tree v)) (sym ok)
read_as path s (Some offset) (Ok value) ok err = ok
read_as path s None (Err e) ok err = absurd err
read_as path s (Some offset) (Err e) ok err = err

-- a cell after what was added before it
pub behind_both : (old here cell pushed new : List ℕ) → pushed ≡ old ++ here → new ≡ pushed ++ cell → new ≡ old ++ (here ++ cell)
behind_both old here cell pushed new first second = second ∙ (ap (λ t. t ++ cell) first ∙ append_assoc old here cell)

and_assoc : (a b c : Bool) → a && (b && c) ≡ (a && b) && c
and_assoc true b c = refl
and_assoc false b c = refl

-- whatever cells the paths left have complete those of all
abbrev pub CellsWay : Rows → (List PathElement → Option (Option Tree)) → List (List PathElement) → List (List PathElement) → List ℕ → List ℕ → Bool → Type 0
CellsWay rows reads all left old now read =
    ((cells : List ℕ) → AreCells rows reads left cells → (whole : List ℕ) × AreCells rows reads all whole × (now ++ cells ≡ old ++ whole))
    × (are_read reads all ≡ read && are_read reads left)

pub cells_started : (rows : Rows) (reads : List PathElement → Option (Option Tree)) (all : List (List PathElement)) (old : List ℕ) → CellsWay rows reads all all old old true
cells_started rows reads all old = (λ cells are. (cells, are, refl), refl)

pub one_cell : (rows : Rows) (reads : List PathElement → Option (Option Tree)) (all left : List (List PathElement)) (path : List PathElement) (old now new cell : List ℕ) (read one : Bool)
    → CellsWay rows reads all (path ∷ left) old now read → IsCell rows (reads path) cell → new ≡ now ++ (delimiter_of rows ∷ cell) → one ≡ is_some (reads path)
    → CellsWay rows reads all left old new (read && one)
one_cell rows reads all left path old now new cell read one way is put e = (
  λ cells are.
      let (whole, wholes, same) = way.0 (delimiter_of rows ∷ (cell ++ cells)) (cell, cells, refl, is, are) in
      (whole, wholes, ap (λ t. t ++ cells) put ∙ append_assoc now (delimiter_of rows ∷ cell) cells ∙ same),
  way.1 ∙ ap (λ b. read && (b && are_read reads left)) (sym e) ∙ and_assoc read one (are_read reads left),
)

and_true : (b : Bool) → b && true ≡ b
and_true true = refl
and_true false = refl

pub cells_done : (rows : Rows) (reads : List PathElement → Option (Option Tree)) (all : List (List PathElement)) (old now : List ℕ) (read : Bool) → CellsWay rows reads all [] old now read → (cells : List ℕ) × AreCells rows reads all cells × (now ≡ old ++ cells) × (read ≡ are_read reads all)
cells_done rows reads all old now read way =
    let (whole, wholes, same) = way.0 [] refl in
    (whole, wholes, sym (append-nil now) ∙ same, sym (way.1 ∙ and_true read))
