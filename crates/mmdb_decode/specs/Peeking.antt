-- What a header says of a value, directly or through one pointer, without reading the value.
use Rattle.std.specs.Prelude.{ℕ, List, Option, Some, Bool, ◌&&◌, ◌||◌, nat_eq}
use Rattle.mmdb_format.specs.declared.header.Header.{Header}
use Rattle.mmdb_format.specs.declared.kind.Kind.{Kind}
use Rattle.mmdb_format.specs.Header.{◌>>=◌}
use Rattle.mmdb_format.specs.Pointer.{direct_at}
use Rattle.mmdb_format.specs.Kinds.{kind_of_number}

-- the type of the value at an offset
unfoldable pub kind_at : List ℕ → ℕ → Option Kind
kind_at s p = direct_at s p 0 >>= λ at. Some (kind_of_number at.header.kind)

-- a map or an array of size 0
abbrev pub is_empty_container : Header → Bool
is_empty_container header = (nat_eq header.kind 7 || nat_eq header.kind 11) && nat_eq header.size 0

-- whether the value at an offset is such
unfoldable pub empty_at : List ℕ → ℕ → Option Bool
empty_at s p = direct_at s p 0 >>= λ at. Some (is_empty_container at.header)
