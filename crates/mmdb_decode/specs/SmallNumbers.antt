-- Small numbers: an integer that fits, of whatever type, through any number of pointers.
use Rattle.std.specs.Prelude.{ℕ, zero, suc, ◌-◌, ℤ, pos, int_le, List, Option, Some, None, ◌&&◌, nat_eq, if◌then◌else◌}
use Rattle.mmdb_format.specs.declared.header.Header.{Header}
use Rattle.mmdb_format.specs.Header.{◌>>=◌, header_at}
use Rattle.mmdb_format.specs.Pointer.{pointer_at, most_levels}
use Rattle.mmdb_format.specs.Contents.{Scalar, number16, number32, number64, signed32, content_at, content_end}
use Rattle.mmdb_decode.specs.Reading.{Meaning, checked}
use Rattle.mmdb_decode.specs.Scalars.{free_of_charge}

-- the number that a content of one of four types says
abbrev pub whole_number : Scalar → Option ℤ
whole_number (signed32 z) = Some z
whole_number (number16 n) = Some (pos n)
whole_number (number32 n) = Some (pos n)
whole_number (number64 n) = Some (pos n)
whole_number _ = None

-- the number after a header, and the offset after it
unfoldable pub whole_here : List ℕ → Header → Option (ℤ × ℕ)
whole_here s header = content_at s header >>= λ c. whole_number c >>= λ z. Some (z, content_end header)

-- the number through at most this many pointers, and the offset after it, or after the first pointer
unfoldable pub whole_within : ℕ → List ℕ → ℕ → Option (ℤ × ℕ)
whole_within zero s p = header_at s p >>= λ header. whole_here s header
whole_within (suc n) s p =
    header_at s p >>= λ header.
    if nat_eq header.kind 1
    then (pointer_at s header.body header.size >>= λ to. whole_within n s to.target >>= λ x. Some (x.0, to.next))
    else whole_here s header

-- each pointer is a level
unfoldable pub whole_at : Meaning ℤ
whole_at s p d = whole_within (most_levels - d) s p >>= λ x. Some (free_of_charge x)

abbrev pub if_between : ℤ → ℤ → ℤ → Option ℤ
if_between low high z = if int_le low z && int_le z high then Some z else None

-- a small number from low to high
abbrev pub small_at : ℤ → ℤ → Meaning ℤ
small_at low high = checked (if_between low high) whole_at
