-- Numbers as JSON writes them (RFC 8259, section 6), and which of two is less.
use Rattle.std.specs.Prelude.{◌≡◌, ℕ, ◌+◌, ◌*◌, ◌^◌, ◌<◌, ◌==◌, nat_lt, List, Bool, true, false, not, Some}
use Rattle.std.specs.Char.{digit_value}
use Rattle.std.specs.List.{All, filter, list_all}
use Rattle.std.specs.Float.{Float, Format, float_is_finite}
use Rattle.std.specs.Float.Ieee.{eq}
use Rattle.std.specs.Float.Parse.{parse_float}
use Rattle.std.specs.Str.Parse.{digits_value}
use Rattle.fast_float.specs.Text.{Parts, scan, minus, digits_of, tens_up, tens_down}
use Rattle.json.specs.Print.{IsNumber}
use Rattle.json.specs.Word.{head, after_minus}
use Rattle.mmdb_layout.specs.declared.number.Side.{Side}
use Rattle.mmdb_layout.specs.declared.number.Side.TheVariants.{Above, Below}

-- a text is digits alone
abbrev pub is_digits : List ℕ → Bool
is_digits text = list_all (λ c. nat_lt (digit_value c) 10) text

-- those of some texts that are not
abbrev pub not_digits : List (List ℕ) → List (List ℕ)
not_digits texts = filter (λ t. not (is_digits t)) texts

-- a minus comes first
abbrev pub is_negative : List ℕ → Bool
is_negative text = head text == minus

-- the digits, the fraction and the exponent of what follows it
abbrev pub parts_of : List ℕ → Parts
parts_of text = scan (after_minus text)

-- A text is a number of JSON. One with an exponent of 2^64 or more is not compared.
pub record IsNumeric (text : List ℕ) : Type 0 where
  pub number : IsNumber text
  pub exponent : digits_value 10 (parts_of text).exponent < 2 ^ 64

-- Parts write the number digits_of * 10 ^ tens_up / 10 ^ tens_down. One is smaller than another if it is once each is multiplied
-- by what the other is divided by.
abbrev pub IsSmaller : Parts → Parts → Type 0
IsSmaller a b = digits_of a * 10 ^ tens_up a * 10 ^ tens_down b < digits_of b * 10 ^ tens_up b * 10 ^ tens_down a

-- the same with signs: 0 and -0 are equal
abbrev pub IsLessBy : Bool → Parts → Bool → Parts → Type 0
IsLessBy false a false b = IsSmaller a b
IsLessBy false a true b = ⊥
IsLessBy true a false b = 0 < digits_of a + digits_of b
IsLessBy true a true b = IsSmaller b a

-- the number that a text writes is less than that of another
abbrev pub IsLess : List ℕ → List ℕ → Type 0
IsLess text other = IsLessBy (is_negative text) (parts_of text) (is_negative other) (parts_of other)

-- one number is greater than another, or less
abbrev pub IsOnSide : Side → List ℕ → List ℕ → Type 0
IsOnSide Above own bound = IsLess bound own
IsOnSide Below own bound = IsLess own bound

-- the texts are numbers, the first on this side of the second
pub record IsBeyond (side : Side) (own bound : List ℕ) : Type 0 where
  pub own_numeric : IsNumeric own
  pub bound_numeric : IsNumeric bound
  pub beyond : IsOnSide side own bound

-- a Bool says whether a text is a number on a side of each of the texts
abbrev pub SaysBeyondAll : Side → List ℕ → List (List ℕ) → Bool → Type 0
SaysBeyondAll side own bounds true = All (IsBeyond side own) bounds
SaysBeyondAll side own bounds false = ¬ All (IsBeyond side own) bounds

-- the texts are numbers, of which neither is less than the other
pub record IsSameNumber (text other : List ℕ) : Type 0 where
  pub numeric : IsNumeric text
  pub other_numeric : IsNumeric other
  pub not_less : ¬ IsLess text other
  pub not_greater : ¬ IsLess other text

-- A text is a number of JSON, and the float nearest to it equals a finite one. 0 and -0 are equal.
pub record IsReadAsFloat (f : Format) (x : Float) (text : List ℕ) : Type 0 where
  pub number : IsNumber text
  pub finite : float_is_finite x ≡ true
  pub nearest : Float
  pub is_nearest : parse_float f text ≡ Some nearest
  pub equal : eq nearest x ≡ true
