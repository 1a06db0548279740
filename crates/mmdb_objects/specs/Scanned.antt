-- What one pass over a text of JSON finds. Only contracts of private functions and proofs name it.
use Rattle.std.specs.Prelude.{◌≡◌, ◌≢◌, ℕ, ◌+◌, ◌-◌, ◌<◌, ◌≤◌, List, ◌∷◌, length, take, drop, get_or, Bool, true, false, not, ◌||◌, ◌&&◌, ◌==◌, nat_lt, Option, Some, None, option_map, option_and_then, IfSome, nat_eq}
use Rattle.std.specs.List.{starts_with}
use Rattle.std.specs.Char.{is_ascii_digit, digit_value}
use Rattle.json.specs.Word.{head, ends_word, after_fraction, after_exponent}
use Rattle.json.specs.Find.{as_str, as_object}
use Rattle.json.specs.Token.{Token, number, string, boolean, null, begin_object, begin_array, end_object, end_array, key, bad}
use Rattle.json.specs.Text.{content, plain, after_backslash}
use Rattle.json.specs.Lex.{Lexeme, token, colon, between, in_string, in_escape, lex, Place, fresh, after_value, begins_colon, may_begin, punctuate}
use Rattle.json.specs.Json.{Json, Items, Members, items, members, value}
use Rattle.json.specs.Json as json

-- the lexemes of a text from a byte on
abbrev pub lexemes_at : List ℕ → ℕ → List Lexeme
lexemes_at text at = lex between (drop at text)

-- the bytes from one to before another
abbrev pub bytes_between : List ℕ → ℕ → ℕ → List ℕ
bytes_between text from end = take (end - from) (drop from text)

-- a byte that does not stand for itself in a string
abbrev pub is_stop : ℕ → Bool
is_stop x = (x == 34) || (x == 92) || nat_lt x 32

abbrev pub is_plain : ℕ → Bool
is_plain x = not (is_stop x)

-- `end` is where the rest of a text begins, at or after `from`.
abbrev pub EndsAt : List ℕ → ℕ → Option ℕ → Option (List ℕ) → Type 0
EndsAt text from end rest =
    (option_map (λ e. drop e text) end ≡ rest) × IfSome end (λ e. (from ≤ e) × (e ≤ length text))

-- From a byte on there is the rest of a string, all of whose bytes stand for themselves, up to this quote.
pub record EndsPlain (text : List ℕ) (from quote : ℕ) : Type 0 where
  pub low : from ≤ quote
  pub high : quote < length text
  pub bytes : content plain (drop from text) ≡ Some (bytes_between text from quote)
  pub passed : lex in_string (drop from text) ≡ lexemes_at text (quote + 1)

-- From a byte on there is the rest of a string, which may have escapes, up to this quote.
pub record EndsString (text : List ℕ) (from quote : ℕ) : Type 0 where
  pub low : from ≤ quote
  pub high : quote < length text
  pub bytes : (s : List ℕ) × (content plain (drop from text) ≡ Some s)
  pub passed : lex in_string (drop from text) ≡ lexemes_at text (quote + 1)

-- what is left after the fraction and the exponent of a number, of which each may be missing
abbrev pub after_rest : List ℕ → Option (List ℕ)
after_rest t = option_and_then after_exponent (after_fraction t)

-- From after its whole part on there is the rest of a number, which ends there, as the word does.
pub record EndsNumber (text : List ℕ) (from end : ℕ) : Type 0 where
  pub low : from ≤ end
  pub high : end ≤ length text
  pub rest : after_rest (drop from text) ≡ Some (drop end text)
  pub ended : ends_word (drop end text) ≡ true

-- There are four digits of an escape from a byte on, the first of them decimal.
pub record IsCode (text : List ℕ) (from end : ℕ) : Type 0 where
  pub there : end ≡ from + 4
  pub within : end ≤ length text
  pub first : digit_value (get_or text from 0) < 10
  pub second : digit_value (get_or text (from + 1) 0) < 16
  pub third : digit_value (get_or text (from + 2) 0) < 16
  pub fourth : digit_value (get_or text (from + 3) 0) < 16

-- From after a backslash on there is the rest of an escape, which ends there.
pub record EndsEscape (text : List ℕ) (from end : ℕ) : Type 0 where
  pub low : from ≤ end
  pub high : end ≤ length text
  pub bytes : (s : List ℕ) → content plain (drop end text) ≡ Some s
      → (t : List ℕ) × (content after_backslash (drop from text) ≡ Some t)
  pub passed : lex in_escape (drop from text) ≡ lex in_string (drop end text)

-- the value of a word
abbrev pub IsWordOf : Json → Token → Type 0
IsWordOf j begin_object = ⊥
IsWordOf j end_object = ⊥
IsWordOf j begin_array = ⊥
IsWordOf j end_array = ⊥
IsWordOf j (key s) = ⊥
IsWordOf j (string s) = ⊥
IsWordOf j (number s) = j ≡ json.number s
IsWordOf j (boolean b) = j ≡ json.boolean b
IsWordOf j null = j ≡ json.null
IsWordOf j bad = ⊥

-- From a byte on there is a number or a literal, which ends there.
pub record HasWord (text : List ℕ) (from end : ℕ) (j : Json) : Type 0 where
  pub word : Token
  pub is : IsWordOf j word
  pub reads : lexemes_at text from ≡ token word ∷ lexemes_at text end

-- the bytes that a number begins with
abbrev pub begins_number : ℕ → Bool
begins_number x = (x == 45) || is_ascii_digit x

-- the bytes that an integer begins with, other than 0
abbrev pub begins_integer : ℕ → Bool
begins_integer x = nat_lt 48 x && nat_lt x 58

-- a byte that is no digit
abbrev pub is_other : ℕ → Bool
is_other x = not (is_ascii_digit x)

-- From a byte on there is a literal of this name, which ends there.
pub record HasName (text : List ℕ) (from end : ℕ) (name : List ℕ) : Type 0 where
  pub starts : starts_with nat_eq (drop from text) name ≡ true
  pub there : end ≡ from + length name
  pub ended : ends_word (drop end text) ≡ true

-- From a byte on there is a key up to this quote, and a colon, and then its value.
pub record HasKey (text : List ℕ) (from quote value : ℕ) : Type 0 where
  pub low : from < quote
  pub high : quote < value
  pub within : value ≤ length text
  pub reads : lexemes_at text from
      ≡ token (string (bytes_between text (from + 1) quote)) ∷ colon ∷ lexemes_at text value

-- Lexemes begin with a value, and these are left after it.
pub record BeginWithValue (depth : ℕ) (ls : List Lexeme) (j : Json) (rest : List Lexeme) : Type 0 where
  pub reads : (p : Place) → may_begin p ≡ true → begins_colon rest ≡ false
      → value depth (punctuate p ls) ≡ Some (j, punctuate after_value rest)

-- Lexemes are these items and a bracket, and what is left after it, where the first may be.
pub record BeginWithItems (depth : ℕ) (p : Place) (ls : List Lexeme) (js : Items) (rest : List Lexeme) : Type 0 where
  pub reads : (n : ℕ) → length (punctuate p ls) ≤ n
      → items (value depth) n (punctuate p ls) ≡ Some (js, punctuate after_value rest)

-- Lexemes are these members and a brace, and what is left after it.
pub record BeginWithMembers (depth : ℕ) (p : Place) (ls : List Lexeme) (ms : Members) (rest : List Lexeme) : Type 0 where
  pub reads : (n : ℕ) → length (punctuate p ls) ≤ n
      → members (value depth) n (punctuate p ls) ≡ Some (ms, punctuate after_value rest)

-- From a byte on there is only white space before this mark, and after it before this byte.
pub record StandsBehind (text : List ℕ) (from mark at : ℕ) : Type 0 where
  pub place : ℕ
  pub low : from ≤ place
  pub high : place < at
  pub within : at ≤ length text
  pub before : lexemes_at text place ≡ lexemes_at text from
  pub is : head (drop place text) ≡ mark
  pub behind : lexemes_at text at ≡ lexemes_at text (place + 1)

-- From a byte on there is a value, which ends there.
pub record HasValue (text : List ℕ) (from end depth : ℕ) (j : Json) : Type 0 where
  pub begins : BeginWithValue depth (lexemes_at text from) j (lexemes_at text end)
  pub no_string : head (drop from text) ≢ 34 → as_str j ≡ None
  pub no_object : head (drop from text) ≢ 123 → as_object j ≡ None

-- From after a bracket on there are items, up to after the bracket that closes them.
abbrev pub HasItems : List ℕ → ℕ → ℕ → ℕ → Items → Type 0
HasItems text from end depth js = BeginWithItems depth fresh (lexemes_at text from) js (lexemes_at text end)

-- From after a brace on there are members, up to after the brace that closes them.
abbrev pub HasMembers : List ℕ → ℕ → ℕ → ℕ → Members → Type 0
HasMembers text from end depth ms = BeginWithMembers depth fresh (lexemes_at text from) ms (lexemes_at text end)
