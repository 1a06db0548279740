-- How numbers are read and compared.
use Rattle.std.specs.Prelude.{◌≡◌, ℕ, ◌*◌, ◌^◌, List, length, Bool}
use Rattle.std.specs.Str.Parse.{AllDigits, digits_value}
use Rattle.fast_float.specs.Text.{digits_of, Parts}
use Rattle.mmdb_layout.specs.Numbers.{is_negative, parts_of, IsNumeric}

-- a text is a number, with this sign and these parts
pub record IsReadAs (text : List ℕ) (negative : Bool) (parts : Parts) : Type 0 where
  pub numeric : IsNumeric text
  pub negative_is : negative ≡ is_negative text
  pub parts_are : parts ≡ parts_of text

-- a row of digits of some width writes the digits of a number, and zeros after them
pub record AreDigitsOf (parts : Parts) (zeros width : ℕ) (digits : List ℕ) : Type 0 where
  pub all : AllDigits 10 digits
  pub wide : length digits ≡ width
  pub value : digits_value 10 digits ≡ digits_of parts * 10 ^ zeros
