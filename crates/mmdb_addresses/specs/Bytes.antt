-- Kinds of bytes in texts that have addresses.
use Rattle.std.specs.Prelude.{ℕ, Bool, ◌&&◌, ◌||◌, ◌==◌, nat_le}

-- a space or a tab
abbrev pub is_blank : ℕ → Bool
is_blank x = (x == 32) || (x == 9)

-- what ends a word of a cell: a blank, a comma or a semicolon
abbrev pub ends_word : ℕ → Bool
ends_word x = (x == 32) || (x == 9) || (x == 44) || (x == 59)

abbrev pub is_between : ℕ → ℕ → ℕ → Bool
is_between low high x = nat_le low x && nat_le x high

-- a letter or a digit of ASCII, `_`, `-` or `.`
abbrev pub is_name_byte : ℕ → Bool
is_name_byte x = is_between 48 57 x || is_between 97 122 x || is_between 65 90 x || (x == 95) || (x == 45) || (x == 46)

-- one of these, or `:`
abbrev pub is_run_byte : ℕ → Bool
is_run_byte x = is_name_byte x || (x == 58)
