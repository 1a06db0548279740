-- What is at an offset of a section, as C is given it.
use Rattle.std.specs.Prelude.{ℕ, ◌+◌, ◌/◌, ◌%◌, ◌^◌, List, Option, Some, None, Bool, true, false, nat_eq, ◌||◌, if◌then◌else◌}
use Rattle.std.specs.Int.{cast_unsigned, w32, from_bool}
use Rattle.mmdb_format.specs.declared.header.Header.{Header}
use Rattle.mmdb_format.specs.Header.{◌>>=◌, header_at}
use Rattle.mmdb_format.specs.Pointer.{pointer_at}
use Rattle.mmdb_format.specs.Contents.{Scalar, text, bytes, boolean, signed32, number16, number32, number64, number128, double_bits, float_bits, content_at, content_end}
use Rattle.mmdb_decode.specs.Reading.{Meaning}
use Rattle.mmdb_decode.specs.Selecting.{at_key, at_element, from_front}
use Rattle.mmdb_decode.specs.State.{State, begin, decoded}
use Rattle.mmdb_c.specs.declared.item.Item.{Item}

-- the lower 64 bits of the number that a scalar is, and 0 of a text or bytes
abbrev pub low_of : Scalar → ℕ
low_of (text x) = 0
low_of (bytes x) = 0
low_of (boolean b) = from_bool b
low_of (signed32 z) = cast_unsigned w32 z
low_of (number16 n) = n
low_of (number32 n) = n
low_of (number64 n) = n
low_of (number128 n) = n % 2 ^ 64
low_of (double_bits n) = n
low_of (float_bits n) = n

-- the bits above them
abbrev pub high_of : Scalar → ℕ
high_of (number128 n) = n / 2 ^ 64
high_of _ = 0

abbrev pub item : Header → ℕ → ℕ → ℕ → ℕ → ℕ → Item
item header offset size next low high = record { kind = header.kind; size = size; offset = offset; body = header.body; next = next; low = low; high = high }

-- The value at an offset of a section, in the format's words ("Data Field Format" and "Payload" of the MaxMind DB
-- File Format Specification 2.0): where a pointer leads and ends, how many parts a map or an array has and where
-- they begin, and what a value that holds no others is and where it ends.
unfoldable pub item_at : List ℕ → ℕ → Option Item
item_at s p =
    header_at s p >>= λ header.
    if nat_eq header.kind 1
    then (pointer_at s header.body header.size >>= λ to. Some (item header p (header.size / 8 + 1) to.next to.target 0))
    else (if nat_eq header.kind 7 || nat_eq header.kind 11
    then Some (item header p header.size header.body 0 0)
    else (content_at s header >>= λ c. Some (item header p header.size (content_end header) (low_of c) (high_of c))))

-- where a step of a path ended: at an offset, at none, or in an error
abbrev pub offset_led_to : Option (Bool × State) → Option (Option ℕ)
offset_led_to None = None
offset_led_to (Some (true, after)) = Some (Some after.offset)
offset_led_to (Some (false, after)) = Some None

-- where a step leads from an offset of a section
abbrev pub leads : Meaning Bool → List ℕ → ℕ → Option (Option ℕ)
leads step s p = offset_led_to (decoded true step (begin s p))

-- where the first pair with this key leads, of the map at an offset ("map - 7")
abbrev pub key_leads : List ℕ → List ℕ → ℕ → Option (Option ℕ)
key_leads key = leads (at_key key)

-- where an element leads, counted from the front, of the array at an offset ("array - 11")
abbrev pub element_leads : ℕ → List ℕ → ℕ → Option (Option ℕ)
element_leads index = leads (at_element (from_front index))

-- the statuses of a step: it leads somewhere, it meets an error, it leads nowhere
abbrev pub is_step_status : ℕ → Bool
is_step_status n = nat_eq n 0 || nat_eq n 7 || nat_eq n 9
