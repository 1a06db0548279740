-- The address in a cell.
use Rattle.std.specs.Prelude.{ℕ, ◌-◌, List, ◌==◌, not, length, take, drop, get_or, take_while, if◌then◌else◌}
use Rattle.std.specs.List.{prefix_len, suffix_len}
use Rattle.mmdb_addresses.specs.Bytes.{is_blank, ends_word}

-- the first word: after blanks, up to a blank, a comma or a semicolon
abbrev pub first_word : List ℕ → List ℕ
first_word cell = take_while (λ x. not (ends_word x)) (drop (prefix_len is_blank cell) cell)

-- what is after the last comma, or all
abbrev pub last_hop : List ℕ → List ℕ
last_hop cell = drop (length cell - suffix_len (λ x. not (x == 44)) cell) cell

-- a text without the word that its end cuts off
abbrev pub whole_words : List ℕ → List ℕ
whole_words text = take (length text - suffix_len (λ x. not (ends_word x)) text) text

-- a word without a double quote that it begins with, and without one that it ends with
abbrev pub without_opening : List ℕ → List ℕ
without_opening word = if get_or word 0 0 == 34 then drop 1 word else word

abbrev pub without_closing : List ℕ → List ℕ
without_closing word = if get_or word (length word - 1) 0 == 34 then take (length word - 1) word else word

abbrev pub unquoted : List ℕ → List ℕ
unquoted word = without_closing (without_opening word)
