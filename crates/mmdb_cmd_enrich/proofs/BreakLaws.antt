-- How many delimiters are between the cells of a row.
use Rattle.std.proofs.Common.{◌≡◌, ℕ, suc, ◌+◌, ◌-◌, ◌<◌, ◌≤◌, List, [], ◌∷◌, ◌++◌, length, drop, None, true, false, is_some, nat_lt, nat_le, cond, replicate, refl, sym, ap, ◌∙◌, subst, arith, append_assoc, append-nil, length-drop}
use Rattle.std.proofs.Math.Logic.{⊎_elim}
use Rattle.std.proofs.lemmas.Bool.{cases_lt}
use Rattle.std.proofs.lemmas.Bool.Decides.{nat_tests}
use Rattle.mmdb_filter.specs.declared.rows.Rows.{Rows}
use Rattle.mmdb_filter.specs.declared.rows.RowPosition.TheVariants.{Cell}
use Rattle.mmdb_cmd_enrich.specs.Columns.{cell_length, column_of, HasBreaks}
use Rattle.mmdb_cmd_enrich.proofs.ColumnLaws.{column_suc, whole_column}

-- What the rest of a row has, behind so many delimiters, is what the row has from there on.
pub record BreaksWay (rows : Rows) (row rest : List ℕ) (passed : ℕ) : Type 0 where
  pub way : (n : ℕ) → column_of rows false (passed + n) row ≡ column_of rows false n rest
  pub some : (n : ℕ) → n < passed → is_some (column_of rows false n row) ≡ true
  pub short : passed + length rest ≤ length row

pub breaks_started : (rows : Rows) (whole : List ℕ) → BreaksWay rows whole whole 0
breaks_started rows whole = record {
  way = λ n. let same : 0 + n ≡ n = omega arith in ap (λ k. column_of rows false k whole) same;
  some = λ n l. absurd (omega arith);
  short = omega arith;
}

first_is : (format : Rows) (row rest : List ℕ) (passed : ℕ) → BreaksWay format row rest passed → is_some (column_of format false passed row) ≡ true
first_is format row rest passed way =
    let same : passed + 0 ≡ passed = omega arith in
    ap (λ k. is_some (column_of format false k row)) (sym same) ∙ (ap (λ c. is_some c) (way.way 0) ∙ ap (λ c. is_some c) (whole_column format 0 (cell_length format Cell rest) rest refl refl))

pub one_break : (rows : Rows) (row rest more : List ℕ) (passed len : ℕ) → BreaksWay rows row rest passed → len ≡ cell_length rows Cell rest → len < length rest → more ≡ drop (len + 1) rest → BreaksWay rows row more (passed + 1)
one_break rows row rest more passed len way is room cut =
    let t : nat_lt (cell_length rows Cell rest) (length rest) ≡ true = grind (arith, nat_tests) in
    record {
      way = λ n.
          let same : (passed + 1) + n ≡ passed + suc n = omega arith in
          ap (λ k. column_of rows false k row) same ∙ (way.way (suc n) ∙ column_suc rows false n rest more t (cut ∙ ap (λ k. drop (k + 1) rest) is));
      some = λ n l. ⊎_elim (λ (early : n < passed). way.some n early)
          (λ (late : passed ≤ n). let here : passed ≡ n = omega arith in subst (λ k. is_some (column_of rows false k row) ≡ true) here (first_is rows row rest passed way))
          (cases_lt n passed);
      short = omega (arith, way.short, ap length cut, length-drop (len + 1) rest);
    }

none_more : (rows : Rows) (rest : List ℕ) (n : ℕ) → length rest ≤ cell_length rows Cell rest → column_of rows false (suc n) rest ≡ None
none_more rows rest n over =
    let t : nat_lt (cell_length rows Cell rest) (length rest) ≡ false = grind (arith, nat_tests) in
    ap (λ b. cond b (column_of rows false n (drop (cell_length rows Cell rest + 1) rest)) None) t

pub breaks_done : (rows : Rows) (row rest : List ℕ) (passed : ℕ) → BreaksWay rows row rest passed → length rest ≤ cell_length rows Cell rest → HasBreaks rows row passed
breaks_done rows row rest passed way over = λ n. ⊎_elim
    (λ (further : passed < n).
    let same : n ≡ passed + suc (n - (passed + 1)) = omega arith in
    let off : nat_le n passed ≡ false = grind (arith, nat_tests) in
    ap (λ k. is_some (column_of rows false k row)) same ∙ (ap (λ c. is_some c) (way.way (suc (n - (passed + 1))) ∙ none_more rows rest (n - (passed + 1)) over) ∙ sym off))
    (λ (within : n ≤ passed).
    let on : nat_le n passed ≡ true = grind (arith, nat_tests) in
    ⊎_elim (λ (early : n < passed). way.some n early ∙ sym on)
    (λ (late : passed ≤ n). let here : passed ≡ n = omega arith in subst (λ k. is_some (column_of rows false k row) ≡ true) here (first_is rows row rest passed way) ∙ sym on)
    (cases_lt n passed))
    (cases_lt passed n)

-- ---- the delimiters that a row lacks

-- one more, and the others
pub one_padded : (delimiter n left : ℕ) (old now new : List ℕ) → left ≡ suc n → now ++ replicate left delimiter ≡ old → new ≡ now ++ delimiter ∷ [] → new ++ replicate n delimiter ≡ old
one_padded delimiter n left old now new is way put =
    ap (λ l. l ++ replicate n delimiter) put ∙ (append_assoc now (delimiter ∷ []) (replicate n delimiter) ∙ (ap (λ k. now ++ replicate k delimiter) (sym is) ∙ way))

pub all_padded : (delimiter left : ℕ) (old now : List ℕ) → left ≡ 0 → now ++ replicate left delimiter ≡ old → now ≡ old
all_padded delimiter left old now none way = sym (append-nil now) ∙ (ap (λ k. now ++ replicate k delimiter) (sym none) ∙ way)
