-- The type numbers of the format ("Output Data Section", the list of field types).
use Rattle.std.specs.Prelude.{ℕ, nat_eq, if◌then◌else◌}
use Rattle.mmdb_format.specs.declared.kind.Kind.{Kind}
use Rattle.mmdb_format.specs.declared.kind.Kind.TheVariants.{Text, Double, Bytes, U16, U32, Map, I32, U64, U128, Array, Bool, Float, Unknown}

-- the type that has a number; a pointer has 1, and is no type of a value
abbrev pub kind_of_number : ℕ → Kind
kind_of_number n =
    if nat_eq n 2 then Text
    else (if nat_eq n 3 then Double
    else (if nat_eq n 4 then Bytes
    else (if nat_eq n 5 then U16
    else (if nat_eq n 6 then U32
    else (if nat_eq n 7 then Map
    else (if nat_eq n 8 then I32
    else (if nat_eq n 9 then U64
    else (if nat_eq n 10 then U128
    else (if nat_eq n 11 then Array
    else (if nat_eq n 14 then Bool
    else (if nat_eq n 15 then Float
    else Unknown n)))))))))))
