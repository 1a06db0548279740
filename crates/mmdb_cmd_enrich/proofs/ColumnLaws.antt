-- One column after another.
use Rattle.std.proofs.Common.{◌≡◌, ◌≢◌, ℕ, zero, suc, ◌+◌, ◌-◌, ◌<◌, ◌≤◌, List, [], ◌∷◌, length, take, drop, get_or, Bool, true, false, not, ◌&&◌, ◌==◌, if◌then◌else◌, Some, None, nat_lt, cond, refl, sym, ap, ◌∙◌, arith, ne_eqb, eq-eqb}
use Rattle.std.proofs.lemmas.Bool.Decides.{nat_tests}
use Rattle.std.proofs.lemmas.List.{take_rest, drop-drop, drop_more, drop_all}
use Rattle.mmdb_filter.specs.Rows.{position_after}
use Rattle.mmdb_filter.specs.declared.rows.Rows.{Rows}
use Rattle.mmdb_filter.specs.declared.rows.Rows.TheVariants.{Lines}
use Rattle.mmdb_filter.specs.declared.rows.RowPosition.{RowPosition}
use Rattle.mmdb_filter.specs.declared.rows.RowPosition.TheVariants.{Cell, Plain, Quoted, Closing, Ended}
use Rattle.mmdb_cmd_enrich.specs.Columns.{delimiter_of, is_quoted, cell_length, column_of}

pub column_suc : (rows : Rows) (goes_on : Bool) (n : ℕ) (xs ys : List ℕ) (t : nat_lt (cell_length rows Cell xs) (length xs) ≡ true) → ys ≡ drop (cell_length rows Cell xs + 1) xs → column_of rows goes_on (suc n) xs ≡ column_of rows goes_on n ys
column_suc rows goes_on n xs ys t e = ap (λ b. cond b (column_of rows goes_on n (drop (cell_length rows Cell xs + 1) xs)) None) t ∙ ap (column_of rows goes_on n) (sym e)

pub column_step : (rows : Rows) (goes_on : Bool) (column counter p : ℕ) (xs ys : List ℕ) → counter < column → p ≡ cell_length rows Cell xs → p < length xs → ys ≡ drop (p + 1) xs → column_of rows goes_on (column - counter) xs ≡ column_of rows goes_on (column - (counter + 1)) ys
column_step rows goes_on column counter p xs ys l e s is =
    let here : column - counter ≡ suc (column - (counter + 1)) = omega (arith, l) in
    let t : nat_lt (cell_length rows Cell xs) (length xs) ≡ true = grind (arith, nat_tests) in
    ap (λ n. column_of rows goes_on n xs) here ∙ column_suc rows goes_on (column - (counter + 1)) xs ys t (is ∙ ap (λ n. drop (n + 1) xs) e)

pub cut_twice : (xs : List ℕ) (p : ℕ) → take (length (take (length xs - p) (drop p xs)) - 1) (drop 1 (take (length xs - p) (drop p xs))) ≡ drop (p + 1) xs
cut_twice xs p = rw (take_rest xs p) (take_rest (drop p xs) 1 ∙ drop-drop 1 p xs)

-- the last column
pub last_column : (rows : Rows) (goes_on : Bool) (n p : ℕ) (xs : List ℕ) → n ≡ 0 → p ≡ cell_length rows Cell xs → p < length xs → column_of rows goes_on n xs ≡ Some (take p xs)
last_column rows goes_on n p xs z e s =
    let t : nat_lt (cell_length rows Cell xs) (length xs) ≡ true = grind (arith, nat_tests) in
    ap (λ n. column_of rows goes_on n xs) z ∙ ap (λ b. cond b (Some (take (cell_length rows Cell xs) xs)) (if goes_on then None else Some (take (cell_length rows Cell xs) xs))) t ∙ ap (λ k. Some (take k xs)) (sym e)

pub cut_column : (rows : Rows) (n p : ℕ) (xs : List ℕ) → n ≡ 0 → p ≡ cell_length rows Cell xs → length xs ≤ p → column_of rows true n xs ≡ None
cut_column rows n p xs z e s =
    let t : nat_lt (cell_length rows Cell xs) (length xs) ≡ false = grind (arith, nat_tests) in
    ap (λ n. column_of rows true n xs) z ∙ ap (λ b. cond b (Some (take (cell_length rows Cell xs) xs)) None) t

pub whole_column : (rows : Rows) (n p : ℕ) (xs : List ℕ) → n ≡ 0 → p ≡ cell_length rows Cell xs → column_of rows false n xs ≡ Some (take p xs)
whole_column rows n p xs z e = ap (λ n. column_of rows false n xs) z ∙ at (nat_lt (cell_length rows Cell xs) (length xs)) ∙ ap (λ k. Some (take k xs)) (sym e)
  where
    at : (b : Bool) → (if b then Some (take (cell_length rows Cell xs) xs) else Some (take (cell_length rows Cell xs) xs)) ≡ Some (take (cell_length rows Cell xs) xs)
    at true = refl
    at false = refl

-- one byte after another
pub cell_stops : (rows : Rows) (p : RowPosition) (xs : List ℕ) (at : ℕ) → at < length xs → (get_or xs at 0 == delimiter_of rows && not (is_quoted p)) ≡ true → cell_length rows p (drop at xs) ≡ 0
unfolding cell_length
cell_stops rows p xs at l e = ap (cell_length rows p) (drop_more xs at 0 l) ∙ ap (λ b. if b then 0 else suc (cell_length rows (position_after rows p (get_or xs at 0)) (drop (at + 1) xs))) e

pub cell_goes_on : (rows : Rows) (p : RowPosition) (xs : List ℕ) (at : ℕ) → at < length xs → (get_or xs at 0 == delimiter_of rows && not (is_quoted p)) ≡ false → cell_length rows p (drop at xs) ≡ suc (cell_length rows (position_after rows p (get_or xs at 0)) (drop (at + 1) xs))
unfolding cell_length
cell_goes_on rows p xs at l e = ap (cell_length rows p) (drop_more xs at 0 l) ∙ ap (λ b. if b then 0 else suc (cell_length rows (position_after rows p (get_or xs at 0)) (drop (at + 1) xs))) e

pub cell_ends : (rows : Rows) (p : RowPosition) (xs : List ℕ) (at : ℕ) → length xs ≤ at → cell_length rows p (drop at xs) ≡ 0
unfolding cell_length
cell_ends rows p xs at l = ap (cell_length rows p) (drop_all at xs l)

-- of a line, in which nothing is quoted
unquoted_on : (d : ℕ) (p : RowPosition) (x : ℕ) → is_quoted p ≡ false → is_quoted (position_after (Lines d) p x) ≡ false
unfolding position_after
unquoted_on d p x e = at (x == 10)
  where
    at : (b : Bool) → is_quoted (if b then Ended else p) ≡ false
    at true = refl
    at false = e

passes : (d x : ℕ) (p : RowPosition) → ((x == d) ≡ true → ⊥) → (x == d && not (is_quoted p)) ≡ false
passes d x p h = ap (λ b. b && not (is_quoted p)) (ne_eqb x d (λ e. h (eq-eqb x d e)))

pub delimiter_at : (d : ℕ) (p : RowPosition) (at : ℕ) (xs : List ℕ) → is_quoted p ≡ false → at < length xs → ((k : ℕ) → k < at → (get_or xs k 0 == d) ≡ true → ⊥) → (get_or xs at 0 == d) ≡ true → cell_length (Lines d) p xs ≡ at
unfolding cell_length
delimiter_at d p at [] q l h is = absurd (omega (arith, l))
delimiter_at d p zero (x ∷ xs) q l h is = ap (λ b. if b then 0 else suc (cell_length (Lines d) (position_after (Lines d) p x) xs)) (ap (λ b. b && not (is_quoted p)) is ∙ ap not q)
delimiter_at d p (suc at) (x ∷ xs) q l h is =
    ap (λ b. if b then 0 else suc (cell_length (Lines d) (position_after (Lines d) p x) xs)) (passes d x p (h 0 (omega arith)))
    ∙ ap suc (delimiter_at d (position_after (Lines d) p x) at xs (unquoted_on d p x q) (omega (arith, l)) (λ k below. h (suc k) (omega arith)) is)

pub no_delimiter_in : (d : ℕ) (p : RowPosition) (xs : List ℕ) → is_quoted p ≡ false → ((k : ℕ) → k < length xs → (get_or xs k 0 == d) ≡ true → ⊥) → cell_length (Lines d) p xs ≡ length xs
unfolding cell_length
no_delimiter_in d p [] q h = refl
no_delimiter_in d p (x ∷ xs) q h =
    ap (λ b. if b then 0 else suc (cell_length (Lines d) (position_after (Lines d) p x) xs)) (passes d x p (h 0 (omega arith)))
    ∙ ap suc (no_delimiter_in d (position_after (Lines d) p x) xs (unquoted_on d p x q) (λ k below. h (suc k) (omega arith)))

pub not_quoted : (p : RowPosition) → p ≢ Quoted → is_quoted p ≡ false
not_quoted Cell h = refl
not_quoted Plain h = refl
not_quoted Quoted h = absurd (h refl)
not_quoted Closing h = refl
not_quoted Ended h = refl

pub is_delimiter : (rows : Rows) (x d : ℕ) (p : RowPosition) → d ≡ delimiter_of rows → x ≡ d → is_quoted p ≡ false → (x == delimiter_of rows && not (is_quoted p)) ≡ true
is_delimiter rows x d p e is q = ap (λ b. b && not (is_quoted p)) (eq-eqb x (delimiter_of rows) (is ∙ e)) ∙ ap not q

pub no_delimiter : (rows : Rows) (x d : ℕ) (p : RowPosition) → d ≡ delimiter_of rows → x ≢ d → (x == delimiter_of rows && not (is_quoted p)) ≡ false
no_delimiter rows x d p e is = ap (λ b. b && not (is_quoted p)) (ne_eqb x (delimiter_of rows) (λ same. is (same ∙ sym e)))

pub quoted_delimiter : (rows : Rows) (x : ℕ) (p : RowPosition) → p ≡ Quoted → (x == delimiter_of rows && not (is_quoted p)) ≡ false
quoted_delimiter rows x p e = ap (λ q. x == delimiter_of rows && not (is_quoted q)) e ∙ at (x == delimiter_of rows)
  where
    at : (b : Bool) → b && false ≡ false
    at true = refl
    at false = refl
