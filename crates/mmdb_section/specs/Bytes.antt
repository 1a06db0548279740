-- The bytes that values are written as. What they say is in `Encoding` and `Sections`; from here comes only that equal values have
-- equal bytes.
use Rattle.std.specs.Prelude.{ℕ, zero, suc, ◌+◌, ◌-◌, ◌*◌, ◌/◌, ◌%◌, List, [], ◌∷◌, ◌++◌, length, if◌then◌else◌, nat_lt}
use Rattle.std.specs.Int.{w16, w32, w64, w128, to_be_bytes, cast_unsigned}
use Rattle.mmdb_format.specs.Contents.{Scalar, text, bytes, boolean, signed32, number16, number32, number64, number128, double_bits, float_bits}
use Rattle.mmdb_section.specs.declared.value.SectionPart.{SectionPart}
use Rattle.mmdb_section.specs.declared.value.SectionPart.TheVariants.{Number, At}
use Rattle.mmdb_section.specs.Shapes.{scalar_of, Shape, plain, elements, entries}

-- the five bits of a control byte that say a size, or how many bytes say it
abbrev pub low_bits_of : ℕ → ℕ
low_bits_of size = if nat_lt size 29 then size else (if nat_lt size 285 then 29 else (if nat_lt size 65821 then 30 else 31))

abbrev pub control_bytes : ℕ → ℕ → List ℕ
control_bytes kind low = if nat_lt kind 8 then (kind * 32 + low) ∷ [] else low ∷ (kind - 7) ∷ []

abbrev pub size_bytes : ℕ → List ℕ
size_bytes size =
    if nat_lt size 29 then []
    else (if nat_lt size 285 then (size - 29) ∷ []
    else (if nat_lt size 65821 then ((size - 285) / 256) ∷ ((size - 285) % 256) ∷ []
    else ((size - 65821) / 65536) ∷ ((size - 65821) / 256 % 256) ∷ ((size - 65821) % 256) ∷ []))

unfoldable pub header_bytes : ℕ → ℕ → List ℕ
header_bytes kind size = control_bytes kind (low_bits_of size) ++ size_bytes size

unfoldable pub pointer_bytes : ℕ → List ℕ
pointer_bytes target =
    if nat_lt target 2048 then (32 + target / 256) ∷ (target % 256) ∷ []
    else (if nat_lt target 526336 then (40 + (target - 2048) / 65536) ∷ ((target - 2048) / 256 % 256) ∷ ((target - 2048) % 256) ∷ []
    else (if nat_lt target 134744064
    then (48 + (target - 526336) / 16777216) ∷ ((target - 526336) / 65536 % 256) ∷ ((target - 526336) / 256 % 256) ∷ ((target - 526336) % 256) ∷ []
    else 56 ∷ (target / 16777216) ∷ (target / 65536 % 256) ∷ (target / 256 % 256) ∷ (target % 256) ∷ []))

abbrev pub sized_bytes : ℕ → List ℕ → List ℕ
sized_bytes kind content = header_bytes kind (length content) ++ content

-- without the zeros before it
unfoldable pub significant_of : List ℕ → List ℕ
significant_of [] = []
significant_of (zero ∷ rest) = significant_of rest
significant_of (suc n ∷ rest) = suc n ∷ rest

abbrev pub integer_bytes : ℕ → List ℕ → List ℕ
integer_bytes kind wide = sized_bytes kind (significant_of wide)

abbrev pub scalar_bytes : Scalar → List ℕ
scalar_bytes (text x) = sized_bytes 2 x
scalar_bytes (bytes x) = sized_bytes 4 x
scalar_bytes (boolean b) = header_bytes 14 (if b then 1 else 0)
scalar_bytes (signed32 z) = integer_bytes 8 (to_be_bytes w32 (cast_unsigned w32 z))
scalar_bytes (number16 n) = integer_bytes 5 (to_be_bytes w16 n)
scalar_bytes (number32 n) = integer_bytes 6 (to_be_bytes w32 n)
scalar_bytes (number64 n) = integer_bytes 9 (to_be_bytes w64 n)
scalar_bytes (number128 n) = integer_bytes 10 (to_be_bytes w128 n)
scalar_bytes (double_bits n) = sized_bytes 3 (to_be_bytes w64 n)
scalar_bytes (float_bits n) = sized_bytes 15 (to_be_bytes w32 n)

abbrev pub part_bytes : SectionPart → List ℕ
part_bytes (Number n) = scalar_bytes (scalar_of n)
part_bytes (At offset) = pointer_bytes offset

unfoldable pub parts_bytes : List SectionPart → List ℕ
parts_bytes [] = []
parts_bytes (part ∷ parts) = part_bytes part ++ parts_bytes parts

unfoldable pub pairs_bytes : List (SectionPart × SectionPart) → List ℕ
pairs_bytes [] = []
pairs_bytes (p ∷ pairs) = part_bytes p.0 ++ (part_bytes p.1 ++ pairs_bytes pairs)

abbrev pub shape_bytes : Shape → List ℕ
shape_bytes (plain c) = scalar_bytes c
shape_bytes (elements parts) = header_bytes 11 (length parts) ++ parts_bytes parts
shape_bytes (entries pairs) = header_bytes 7 (length pairs) ++ pairs_bytes pairs
