-- What is read of a row.
use Rattle.std.proofs.Common.{◌≡◌, ℕ, ◌<◌, ◌≤◌, Bool, true, false, not, ◌||◌, ◌==◌, List, length, take, drop, get_or, take_while, Option, Some, None, IfSome, option_map, refl, sym, ap, ap₂, subst, ◌∙◌, arith}
use Rattle.std.proofs.Math.Logic.{⊎_elim}
use Rattle.std.proofs.lemmas.Bool.{cases_lt, eqb-true, ne_eqb}
use Rattle.std.proofs.lemmas.List.{get_or-take, length-take-le, take-take, take_all}
use Rattle.std.proofs.lemmas.List.Sums.{prefix_len_is, prefix_len_passes, prefix_len_stops, prefix_len-le-length}
use Rattle.std.specs.List.{prefix_len}
use Rattle.std.specs.Option.{option_or}
use Rattle.std.specs.Borrow.{Bor}
use Rattle.std.specs.declared.net.ip_addr.IpAddr.{IpAddr}
use Rattle.mmdb_addresses.specs.Addresses.{ReadsAddress}
use Rattle.mmdb_addresses.specs.Bytes.{is_blank, ends_word}
use Rattle.mmdb_addresses.specs.Cells.{first_word, unquoted, whole_words}
use Rattle.mmdb_addresses.specs.Words.{IsWord}
use Rattle.mmdb_addresses.specs.declared.readings.Reading.{Reading}
use Rattle.mmdb_addresses.specs.declared.readings.Reading.TheVariants.{Exact, First, Last, Anywhere, LastAnywhere}
use Rattle.mmdb_filter.specs.Runs.{is_neither}
use Rattle.mmdb_filter.specs.declared.rows.RowPosition.TheVariants.{Cell}
use Rattle.mmdb_filter.specs.declared.rows.Rows.{Rows}
use Rattle.mmdb_filter.specs.declared.rows.Rows.TheVariants.{Lines}
use Rattle.mmdb_cmd_enrich.specs.Asked.{cell_read}
use Rattle.mmdb_cmd_enrich.specs.Columns.{cell_length, column_of, value_of, ended_cell, begun_cell}
use Rattle.mmdb_cmd_enrich.proofs.ColumnLaws.{whole_column}

abbrev pub in_word : ℕ → Bool
in_word x = not (ends_word x)

-- the word at the head of a part of a text, of which a blank does not come first
word_of_part : (text : List ℕ) (n : ℕ) → 0 < n → n ≤ length text → is_blank (get_or text 0 0) ≡ false → first_word (take n text) ≡ take (prefix_len in_word (take n text)) (take n text)
word_of_part text n some room plain =
    let none : prefix_len is_blank (take n text) ≡ 0 = prefix_len_is is_blank (take n text) 0 0 (omega arith) (λ k l. absurd (omega arith)) (λ l. ap is_blank (get_or-take n text 0 0 some) ∙ plain) in
    ap (λ k. take_while in_word (drop k (take n text))) none

-- how long that word is, in a longer part, where a byte that ends words follows the shorter one
word_length : (text : List ℕ) (n c : ℕ) → n < c → c ≤ length text → in_word (get_or text n 0) ≡ false → prefix_len in_word (take c text) ≡ prefix_len in_word (take n text)
word_length text n c l room space =
    let m = prefix_len in_word (take n text) in
    let long : length (take n text) ≡ n = length-take-le n text (omega arith) in
    let longer : length (take c text) ≡ c = length-take-le c text room in
    let within : m ≤ n = omega (arith, prefix_len-le-length in_word (take n text), long) in
    let at : (k : ℕ) → k < n → get_or (take c text) k 0 ≡ get_or (take n text) k 0 = λ (k : ℕ) (h : k < n). get_or-take c text k 0 (omega arith) ∙ sym (get_or-take n text k 0 h) in
    prefix_len_is in_word (take c text) m 0 (omega arith)
    (λ k h. ap in_word (at k (omega arith)) ∙ prefix_len_passes in_word (take n text) k 0 h)
    (λ _. ⊎_elim
    (λ (less : m < n). ap in_word (at m less) ∙ prefix_len_stops in_word (take n text) 0 (omega (arith, less, long)))
    (λ (same : n ≤ m). let here : m ≡ n = omega (arith, same, within) in ap (λ k. in_word (get_or (take c text) k 0)) here ∙ ap in_word (get_or-take c text n 0 (omega arith)) ∙ space)
    (cases_lt m n))

pub same_word : (text : List ℕ) (n c : ℕ) → 0 < n → n ≤ c → c ≤ length text → is_blank (get_or text 0 0) ≡ false → (n < c → in_word (get_or text n 0) ≡ false) → first_word (take n text) ≡ first_word (take c text)
same_word text n c some order room plain space =
    ⊎_elim
    (λ (less : n < c).
    let m = prefix_len in_word (take n text) in
    let within : m ≤ n = omega (arith, prefix_len-le-length in_word (take n text), length-take-le n text (omega arith)) in
    word_of_part text n some (omega arith) plain ∙ take-take m n text within ∙ sym (take-take m c text (omega arith)) ∙ ap (λ k. take k (take c text)) (sym (word_length text n c less room (space less)))
    ∙ sym (word_of_part text c (omega arith) room plain))
    (λ (same : c ≤ n). let here : n ≡ c = omega (arith, same, order) in ap (λ k. first_word (take k text)) here)
    (cases_lt n c)

-- a line with tabs between its cells, of which no blank comes first, has the first word of its first cell
pub line_word : (text : List ℕ) (k : ℕ) → k ≡ prefix_len (is_neither 9 9) text → 0 < length text → is_blank (get_or text 0 0) ≡ false → first_word text ≡ first_word (take k text)
line_word text k is some plain =
    let room : k ≤ length text = omega (arith, is, prefix_len-le-length (is_neither 9 9) text) in
    ap first_word (sym (take_all (length text) text (omega arith))) ∙ sym (same_word text k (length text) (first k is) room (omega arith) plain (λ (less : k < length text). ap in_word (tab (get_or text k 0) (ap (λ n. is_neither 9 9 (get_or text n 0)) is ∙ prefix_len_stops (is_neither 9 9) text 0 (omega arith)))))
  where
    no_tab : (x : ℕ) → is_blank x ≡ false → is_neither 9 9 x ≡ true
    no_tab x e = by (x == 32) (x == 9) e
      where
        by : (a b : Bool) → (a || b) ≡ false → not (b || b) ≡ true
        by true b e = cc
        by false true e = cc
        by false false e = refl

    tab : (x : ℕ) → is_neither 9 9 x ≡ false → x ≡ 9
    tab x e = eqb-true x 9 (by (x == 9) e)
      where
        by : (a : Bool) → not (a || a) ≡ false → a ≡ true
        by true e = refl
        by false e = cc

    first : (k : ℕ) → k ≡ prefix_len (is_neither 9 9) text → 0 < k
    first k is = ⊎_elim
        (λ (none : k < 1).
        let zero : prefix_len (is_neither 9 9) text ≡ 0 = omega (arith, none, is) in
        let stop : is_neither 9 9 (get_or text 0 0) ≡ false = ap (λ n. is_neither 9 9 (get_or text n 0)) (sym zero) ∙ prefix_len_stops (is_neither 9 9) text 0 (omega arith) in
        let pass : is_neither 9 9 (get_or text 0 0) ≡ true = no_tab (get_or text 0 0) plain in
        absurd (cc))
        (λ (some : 1 ≤ k). some)
        (cases_lt k 1)

-- a text is read as another one with the same first word
pub reads_same : (a b : List ℕ) → first_word a ≡ first_word b → (found : Option IpAddr) → ReadsAddress First (Some a) found → ReadsAddress First (Some b) found
reads_same a b same (Some address) (text, is, word) =
    let this : a ≡ text = cc in
    (b, refl, subst (λ w. IsWord (unquoted w) address) (ap first_word (sym this) ∙ same) word)
reads_same a b same None none = λ text address is word.
    let this : b ≡ text = cc in
    none a address refl (subst (λ w. IsWord (unquoted w) address) (ap first_word (sym this) ∙ sym same) word)

-- ---- up to the first space or delimiter

passes : (d x : ℕ) → is_neither d 32 x ≡ true → is_neither d d x ≡ true
passes d x e = by (x == d) (x == 32) e
  where
    by : (a b : Bool) → not (a || b) ≡ true → not (a || a) ≡ true
    by true b e = e
    by false b e = refl

stops : (d x : ℕ) → is_neither d 32 x ≡ false → is_neither d d x ≡ true → x ≡ 32
stops d x e f = eqb-true x 32 (by (x == d) (x == 32) e f)
  where
    by : (a b : Bool) → not (a || b) ≡ false → not (a || a) ≡ true → b ≡ true
    by true b e f = cc
    by false true e f = refl
    by false false e f = cc

pub up_to_space : (d : ℕ) (text : List ℕ) (n c : ℕ) → n ≡ prefix_len (is_neither d 32) text → c ≡ prefix_len (is_neither d d) text → (n ≤ c) × (n < c → get_or text n 0 ≡ 32)
up_to_space d text n c is cis =
    ⊎_elim
    (λ (less : c < n).
    let room : c < length text = omega (arith, is, prefix_len-le-length (is_neither d 32) text) in
    let on = passes d (get_or text c 0) (prefix_len_passes (is_neither d 32) text c 0 (omega arith)) in
    let off : is_neither d d (get_or text c 0) ≡ false = ap (λ k. is_neither d d (get_or text k 0)) cis ∙ prefix_len_stops (is_neither d d) text 0 (omega arith) in
    absurd (cc))
    (λ (order : n ≤ c). (
      order,
      λ (less : n < c).
          let room : n < length text = omega (arith, cis, prefix_len-le-length (is_neither d d) text) in
          stops d (get_or text n 0) (ap (λ k. is_neither d 32 (get_or text k 0)) is ∙ prefix_len_stops (is_neither d 32) text 0 (omega arith)) (prefix_len_passes (is_neither d d) text n 0 (omega arith)),
    ))
    (cases_lt c n)

-- a byte before a space is none, and it is no tab
pub no_blank : (d : ℕ) (text : List ℕ) → 0 < prefix_len (is_neither d 32) text → (get_or text 0 0 ≡ 9 → ⊥) → is_blank (get_or text 0 0) ≡ false
no_blank d text some tab =
    let x = get_or text 0 0 in
    ap₂ (λ a b. a || b) (space d x (prefix_len_passes (is_neither d 32) text 0 0 some)) (ne_eqb x 9 tab)
  where
    by : (a b : Bool) → not (a || b) ≡ true → b ≡ false
    by true b e = cc
    by false true e = cc
    by false false e = refl

    space : (d x : ℕ) → is_neither d 32 x ≡ true → (x == 32) ≡ false
    space d x e = by (x == d) (x == 32) e

-- what is read of the front is read of the cell
pub front_reads : (rows : Rows) (reading : Reading) (d column : ℕ) (goes_on : Bool) (row : List ℕ) (front : Option (Bor (List ℕ))) → rows ≡ Lines d → reading ≡ First → column ≡ 0 → goes_on ≡ false
    → IfSome front (λ f. first_word f.now ≡ first_word (take (cell_length (Lines d) Cell row) row))
    → IfSome front (λ f. (found : Option IpAddr) → ReadsAddress reading (Some f.now) found → ReadsAddress reading (cell_read rows reading column row goes_on) found)
front_reads rows reading d column goes_on row None lines first here whole same = tt
front_reads rows reading d column goes_on row (Some f) lines first here whole same = λ found.
    subst (λ (r : Reading). ReadsAddress r (Some f.now) found → ReadsAddress r (cell_read rows r column row goes_on) found) (sym first)
    (λ (reads : ReadsAddress First (Some f.now) found).
    subst (λ (r : Rows). ReadsAddress First (begun_cell r goes_on column row) found) (sym lines)
    (subst (λ b. ReadsAddress First (begun_cell (Lines d) b column row) found) (sym whole)
    (subst (λ (cell : Option (List ℕ)). ReadsAddress First (option_map (value_of (Lines d)) cell) found) (sym (whole_column (Lines d) column (cell_length (Lines d) Cell row) row here refl))
    (reads_same f.now (take (cell_length (Lines d) Cell row) row) same found reads))))

-- what is read of a cell that is seen whole
pub whole_read : (rows : Rows) (reading : Reading) (column : ℕ) (row : List ℕ) → ended_cell rows false column row ≡ cell_read rows reading column row false
whole_read rows Exact column row = refl
whole_read rows First column row = refl
whole_read rows Last column row = refl
whole_read rows Anywhere column row = refl
whole_read rows LastAnywhere column row = refl

-- and of one of a longer row
pub ended_read : (rows : Rows) (reading : Reading) (column : ℕ) (row cell : List ℕ) → ended_cell rows true column row ≡ Some cell → Some cell ≡ cell_read rows reading column row true
ended_read rows Exact column row cell is = sym is
ended_read rows First column row cell is = sym (ap (λ c. option_or c (option_map whole_words (column_of rows false column row))) is)
ended_read rows Last column row cell is = sym is
ended_read rows Anywhere column row cell is = sym is
ended_read rows LastAnywhere column row cell is = sym is

pub begun_read : (rows : Rows) (reading : Reading) (column : ℕ) (row : List ℕ) (cell : Option (List ℕ)) → reading ≡ First → ended_cell rows true column row ≡ None → cell ≡ column_of rows false column row
    → option_map whole_words cell ≡ cell_read rows reading column row true
begun_read rows reading column row cell first none is =
    ap (option_map whole_words) is ∙ (sym (ap (λ c. option_or c (option_map whole_words (column_of rows false column row))) none) ∙ ap (λ r. cell_read rows r column row true) (sym first))

pub other_read : (rows : Rows) (reading : Reading) (column : ℕ) (row : List ℕ) → (reading ≡ First → ⊥) → ended_cell rows true column row ≡ None → None ≡ cell_read rows reading column row true
other_read rows Exact column row other none = sym none
other_read rows First column row other none = absurd (other refl)
other_read rows Last column row other none = sym none
other_read rows Anywhere column row other none = sym none
other_read rows LastAnywhere column row other none = sym none
