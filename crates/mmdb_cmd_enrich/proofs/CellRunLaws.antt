-- Where a cell ends, over bytes that are passed many at a time.
use Rattle.std.proofs.Common.{◌≡◌, ◌≢◌, ne_eqb, ℕ, zero, suc, ◌+◌, ◌<◌, ◌≤◌, List, [], ◌∷◌, length, drop, get_or, Bool, true, false, not, ◌||◌, ◌&&◌, ◌==◌, cond, if◌then◌else◌, refl, sym, ap, ◌∙◌, subst, arith, ◌⊎◌, inl, inr}
use Rattle.std.proofs.lemmas.List.Sums.{prefix_len_passes, prefix_len_stops, prefix_len-le-length}
use Rattle.std.proofs.lemmas.List.{get_or-drop, drop_more, length-drop}
use Rattle.std.specs.List.{prefix_len}
use Rattle.mmdb_filter.specs.Rows.{position_after}
use Rattle.mmdb_filter.specs.Runs.{is_neither}
use Rattle.mmdb_filter.specs.declared.rows.Rows.TheVariants.{Lines, Csv}
use Rattle.mmdb_filter.specs.declared.rows.RowPosition.TheVariants.{Cell, Plain, Quoted, Closing, Ended}
use Rattle.mmdb_filter.proofs.TextLaws.{or_less}
use Rattle.mmdb_cmd_enrich.specs.Columns.{cell_length}
use Rattle.mmdb_cmd_enrich.proofs.ColumnLaws.{delimiter_at, no_delimiter_in}

never : (b : Bool) → (b && false) ≡ false
never true = refl
never false = refl

not_either : (b : Bool) → not (b || b) ≡ true → b ≡ false
not_either true e = absurd (cc)
not_either false e = refl

one_of : (b : Bool) → not (b || b) ≡ false → b ≡ true
one_of true e = refl
one_of false e = absurd (cc)

-- after a line feed a cell ends where it would after any other byte
as_plain : (d : ℕ) (b : Bool) (xs : List ℕ) → cell_length (Csv d) (if b then Ended else Plain) xs ≡ cell_length (Csv d) Plain xs
unfolding cell_length position_after
as_plain d true [] = refl
as_plain d true (x ∷ xs) = refl
as_plain d false xs = refl

-- after a quote that closes it ends where a new one would
pub as_cell : (d : ℕ) (xs : List ℕ) → cell_length (Csv d) Closing xs ≡ cell_length (Csv d) Cell xs
unfolding cell_length position_after
as_cell d [] = refl
as_cell d (x ∷ xs) = refl

on_to_plain : (d x : ℕ) (b : Bool) (xs : List ℕ) → (x == d) ≡ false → b ≡ false
    → cell_length (Csv d) (if x == 10 then Ended else (if x == d then Cell else (if b then Quoted else Plain))) xs ≡ cell_length (Csv d) Plain xs
on_to_plain d x b xs end none =
    ap (λ e. cell_length (Csv d) (if x == 10 then Ended else (if e then Cell else (if b then Quoted else Plain))) xs) end
    ∙ ap (λ q. cell_length (Csv d) (if x == 10 then Ended else (if q then Quoted else Plain)) xs) none ∙ as_plain d (x == 10) xs

-- where no quotes are around it, it ends at the first delimiter
plain_length : (d : ℕ) (xs : List ℕ) → cell_length (Csv d) Plain xs ≡ prefix_len (is_neither d d) xs
unfolding cell_length position_after
plain_length d [] = refl
plain_length d (x ∷ xs) = by (x == d) refl (plain_length d xs)
  where
    by : (b : Bool) → (x == d) ≡ b → cell_length (Csv d) Plain xs ≡ prefix_len (is_neither d d) xs → cell_length (Csv d) Plain (x ∷ xs) ≡ prefix_len (is_neither d d) (x ∷ xs)
    by true e rest = ap (λ b. if b && true then 0 else suc (cell_length (Csv d) (position_after (Csv d) Plain x) xs)) e ∙ sym (ap (λ b. cond (not (b || b)) (1 + prefix_len (is_neither d d) xs) 0) e)
    by false e rest =
        let on = on_to_plain d x (x == 34 && false) xs e (never (x == 34)) in
        let more : suc (cell_length (Csv d) (position_after (Csv d) Plain x) xs) ≡ 1 + prefix_len (is_neither d d) xs = omega (arith, on, rest) in
        ap (λ b. if b && true then 0 else suc (cell_length (Csv d) (position_after (Csv d) Plain x) xs)) e ∙ more ∙ sym (ap (λ b. cond (not (b || b)) (1 + prefix_len (is_neither d d) xs) 0) e)

-- so does one that begins with another byte than a quote
pub bare_length : (d : ℕ) (xs : List ℕ) → ((get_or xs 0 0 == d) ≡ false → (get_or xs 0 0 == 34) ≡ false) → cell_length (Csv d) Cell xs ≡ prefix_len (is_neither d d) xs
unfolding cell_length position_after
bare_length d [] bare = refl
bare_length d (x ∷ xs) bare = by (x == d) refl
  where
    by : (b : Bool) → (x == d) ≡ b → cell_length (Csv d) Cell (x ∷ xs) ≡ prefix_len (is_neither d d) (x ∷ xs)
    by true e = ap (λ b. if b && true then 0 else suc (cell_length (Csv d) (position_after (Csv d) Cell x) xs)) e ∙ sym (ap (λ b. cond (not (b || b)) (1 + prefix_len (is_neither d d) xs) 0) e)
    by false e =
        let on = on_to_plain d x (x == 34 && true) xs e (ap (λ b. b && true) (bare e)) in
        let rest = plain_length d xs in
        let more : suc (cell_length (Csv d) (position_after (Csv d) Cell x) xs) ≡ 1 + prefix_len (is_neither d d) xs = omega (arith, on, rest) in
        ap (λ b. if b && true then 0 else suc (cell_length (Csv d) (position_after (Csv d) Cell x) xs)) e ∙ more ∙ sym (ap (λ b. cond (not (b || b)) (1 + prefix_len (is_neither d d) xs) 0) e)

-- a quote opens a cell
opens : (d : ℕ) (xs : List ℕ) → (34 == d) ≡ false → cell_length (Csv d) Cell (34 ∷ xs) ≡ suc (cell_length (Csv d) Quoted xs)
unfolding cell_length position_after
opens d xs other = ap (λ b. if b && true then 0 else suc (cell_length (Csv d) (if b then Cell else Quoted) xs)) other

-- between quotes all but a quote is passed
quoted_on : (d x : ℕ) (xs : List ℕ) → (x == 34) ≡ false → cell_length (Csv d) Quoted (x ∷ xs) ≡ suc (cell_length (Csv d) Quoted xs)
unfolding cell_length position_after
quoted_on d x xs other =
    ap (λ b. if b then 0 else suc (cell_length (Csv d) (if x == 34 then Closing else Quoted) xs)) (never (x == d)) ∙ ap (λ b. suc (cell_length (Csv d) (if b then Closing else Quoted) xs)) other

closes_on : (d x : ℕ) (xs : List ℕ) → (x == 34) ≡ true → cell_length (Csv d) Quoted (x ∷ xs) ≡ suc (cell_length (Csv d) Cell xs)
unfolding cell_length position_after
closes_on d x xs quote =
    ap (λ b. if b then 0 else suc (cell_length (Csv d) (if x == 34 then Closing else Quoted) xs)) (never (x == d)) ∙ ap (λ b. suc (cell_length (Csv d) (if b then Closing else Quoted) xs)) quote ∙ ap suc (as_cell d xs)

quoted_run : (d : ℕ) (at n m : ℕ) (text : List ℕ) → m ≡ at + n → m ≤ length text → ((k : ℕ) → k < n → is_neither 34 34 (get_or text (at + k) 0) ≡ true)
    → cell_length (Csv d) Quoted (drop at text) ≡ n + cell_length (Csv d) Quoted (drop m text)
quoted_run d at zero m text is l run =
    let same : at ≡ m = omega arith in
    let none : cell_length (Csv d) Quoted (drop m text) ≡ 0 + cell_length (Csv d) Quoted (drop m text) = omega arith in
    ap (λ k. cell_length (Csv d) Quoted (drop k text)) same ∙ none
quoted_run d at (suc n) m text is l run =
    let x = get_or text at 0 in
    let zero_on : at + 0 ≡ at = omega arith in
    let first : is_neither 34 34 x ≡ true = subst (λ k. is_neither 34 34 (get_or text k 0) ≡ true) zero_on (run 0 (omega arith)) in
    let rest : (k : ℕ) → k < n → is_neither 34 34 (get_or text ((at + 1) + k) 0) ≡ true =
    λ k below.
    let same : at + suc k ≡ (at + 1) + k = omega arith in
    subst (λ j. is_neither 34 34 (get_or text j 0) ≡ true) same (run (suc k) (omega arith)) in
    let here : cell_length (Csv d) Quoted (drop at text) ≡ suc (cell_length (Csv d) Quoted (drop (at + 1) text)) = ap (cell_length (Csv d) Quoted) (drop_more text at 0 (omega arith)) ∙ quoted_on d x (drop (at + 1) text) (not_either (x == 34) first) in
    let next = quoted_run d (at + 1) n m text (omega arith) l rest in
    omega (arith, here, next)

-- from a quote that opens to what comes after the text between quotes
pub opened : (d at m : ℕ) (text : List ℕ) → at < length text → get_or text at 0 ≡ 34 → (34 == d) ≡ false → m ≤ length text → m ≡ (at + 1) + prefix_len (is_neither 34 34) (drop (at + 1) text)
    → cell_length (Csv d) Cell (drop at text) + at ≡ m + cell_length (Csv d) Quoted (drop m text)
opened d at m text below quote other l is =
    let n = prefix_len (is_neither 34 34) (drop (at + 1) text) in
    let run : (k : ℕ) → k < n → is_neither 34 34 (get_or text ((at + 1) + k) 0) ≡ true =
    λ k low. ap (is_neither 34 34) (sym (get_or-drop (at + 1) text k 0)) ∙ prefix_len_passes (is_neither 34 34) (drop (at + 1) text) k 0 low in
    let first : cell_length (Csv d) Cell (drop at text) ≡ suc (cell_length (Csv d) Quoted (drop (at + 1) text)) =
    ap (cell_length (Csv d) Cell) (drop_more text at 0 below) ∙ ap (λ x. cell_length (Csv d) Cell (x ∷ drop (at + 1) text)) quote ∙ opens d (drop (at + 1) text) other in
    let on = quoted_run d (at + 1) n m text is l run in
    omega (arith, first, on, is)

-- and on after the quote that closes
pub closed : (d at m : ℕ) (text : List ℕ) → m < length text → m ≡ at + prefix_len (is_neither 34 34) (drop at text) → cell_length (Csv d) Quoted (drop m text) ≡ 1 + cell_length (Csv d) Cell (drop (m + 1) text)
closed d at m text below is =
    let stop : is_neither 34 34 (get_or (drop at text) (prefix_len (is_neither 34 34) (drop at text)) 0) ≡ false = prefix_len_stops (is_neither 34 34) (drop at text) 0 (omega (arith, is, length-drop at text)) in
    let here : is_neither 34 34 (get_or text m 0) ≡ false = ap (λ k. is_neither 34 34 (get_or text k 0)) is ∙ ap (is_neither 34 34) (sym (get_or-drop at text (prefix_len (is_neither 34 34) (drop at text)) 0)) ∙ stop in
    let on = ap (cell_length (Csv d) Quoted) (drop_more text m 0 below) ∙ closes_on d (get_or text m 0) (drop (m + 1) text) (one_of (get_or text m 0 == 34) here) in
    omega (arith, on)

-- of a line, which has no quotes
no_end : (b : Bool) → not (b || b) ≡ true → b ≡ true → ⊥
no_end true h e = cc
no_end false h e = cc

pub line_cell : (d : ℕ) (text : List ℕ) (n : ℕ) → n ≡ prefix_len (is_neither d d) text → cell_length (Lines d) Cell text ≡ n
line_cell d text n is = at (or_less n (length text))
  where
    bare : (k : ℕ) → k < n → (get_or text k 0 == d) ≡ true → ⊥
    bare k below = no_end (get_or text k 0 == d) (prefix_len_passes (is_neither d d) text k 0 (omega arith))

    at : (n < length text) ⊎ (length text ≤ n) → cell_length (Lines d) Cell text ≡ n
    at (inl l) =
        let here : is_neither d d (get_or text n 0) ≡ false = subst (λ k. is_neither d d (get_or text k 0) ≡ false) (sym is) (prefix_len_stops (is_neither d d) text 0 (omega arith)) in
        delimiter_at d Cell n text refl l bare (one_of (get_or text n 0 == d) here)
    at (inr g) =
        let all : length text ≡ n = omega (arith, prefix_len-le-length (is_neither d d) text) in
        no_delimiter_in d Cell text refl (λ k below. bare k (omega arith)) ∙ all

-- of CSV, where no quote begins it
pub bare_cell : (d : ℕ) (text : List ℕ) (n : ℕ) → get_or text 0 0 ≢ 34 → n ≡ prefix_len (is_neither d d) text → n ≡ cell_length (Csv d) Cell text
bare_cell d text n bare is = is ∙ sym (bare_length d text (λ _. ne_eqb (get_or text 0 0) 34 bare))
