-- Values of one type that hold no others ("Data Field Format"): each is read directly or through
-- one pointer, and costs no value after the first.
use Rattle.std.specs.Prelude.{ℕ, ◌+◌, ℤ, List, length, Option, Some, None, Bool, nat_eq, if◌then◌else◌}
use Rattle.std.specs.Int.{cast_signed, w32}
use Rattle.std.specs.Str.{is_utf8}
use Rattle.mmdb_format.specs.declared.header.Direct.{Direct}
use Rattle.mmdb_format.specs.Header.{◌>>=◌}
use Rattle.mmdb_format.specs.Pointer.{direct_at}
use Rattle.mmdb_format.specs.Contents.{bytes_of_content, variable_width_integer, fixed_width_integer, truth_of, end_of}
use Rattle.mmdb_decode.specs.Reading.{Reading, Meaning, mapped, checked}

-- a header of one type, directly or through one pointer
unfoldable pub direct_of : ℕ → List ℕ → ℕ → ℕ → Option Direct
direct_of kind s p d = direct_at s p d >>= λ at. if nat_eq at.header.kind kind then Some at else None

-- a value and the offset after it, as a reading with no cost, or with that of its bytes
abbrev pub free_of_charge : {A : Type 0} → A × ℕ → Reading A
free_of_charge x = record { value = x.0; next = x.1; values = 0; bytes = 0 }

abbrev pub costs_its_length : List ℕ × ℕ → Reading (List ℕ)
costs_its_length x = record { value = x.0; next = x.1; values = 0; bytes = length x.0 }

-- an integer of one type, of at most this many bytes
unfoldable pub number_of : ℕ → ℕ → Meaning ℕ
number_of kind most s p d =
    direct_of kind s p d >>= λ at.
    variable_width_integer s at.header most >>= λ n.
    Some (free_of_charge (n, end_of at (at.header.body + at.header.size)))

abbrev pub u16_at : Meaning ℕ
u16_at = number_of 5 2

abbrev pub u32_at : Meaning ℕ
u32_at = number_of 6 4

abbrev pub u64_at : Meaning ℕ
u64_at = number_of 9 8

abbrev pub u128_at : Meaning ℕ
u128_at = number_of 10 16

-- a signed number, in two's complement
abbrev pub i32_at : Meaning ℤ
i32_at = mapped (cast_signed w32) (number_of 8 4)

-- the bits of a number of double or single precision: exactly this many bytes
unfoldable pub bits_of : ℕ → ℕ → Meaning ℕ
bits_of kind size s p d =
    direct_of kind s p d >>= λ at.
    fixed_width_integer s at.header size >>= λ n.
    Some (free_of_charge (n, end_of at (at.header.body + at.header.size)))

abbrev pub double_at : Meaning ℕ
double_at = bits_of 3 8

abbrev pub float_at : Meaning ℕ
float_at = bits_of 15 4

-- a truth value, which has no bytes
unfoldable pub bool_at : Meaning Bool
bool_at s p d =
    direct_of 14 s p d >>= λ at.
    truth_of at.header >>= λ b.
    Some (free_of_charge (b, end_of at at.header.body))

-- all the bytes of a text or a byte string
unfoldable pub bytes_of : ℕ → Meaning (List ℕ)
bytes_of kind s p d =
    direct_of kind s p d >>= λ at.
    bytes_of_content s at.header >>= λ x.
    Some (costs_its_length (x, end_of at (at.header.body + at.header.size)))

-- the bytes of a text, where they are UTF-8
abbrev pub if_text : List ℕ → Option (List ℕ)
if_text bytes = if is_utf8 bytes then Some bytes else None

abbrev pub text_at : Meaning (List ℕ)
text_at = checked if_text (bytes_of 2)

abbrev pub byte_string_at : Meaning (List ℕ)
byte_string_at = bytes_of 4
