-- Values by what they are made of.
use Rattle.std.specs.Prelude.{List}
use Rattle.mmdb_format.specs.Contents.{Scalar, text, bytes, boolean, signed32, number16, number32, number64, number128, double_bits, float_bits}
use Rattle.mmdb_section.specs.declared.value.Number.{Number as SpecNumber}
use Rattle.mmdb_section.specs.declared.value.Number.TheVariants.{Bool as BoolNumber, I32, U16, U32, U64, U128, Double, Float}
use Rattle.mmdb_section.specs.declared.value.SectionPart.{SectionPart}
use Rattle.mmdb_section.specs.declared.value.WrittenValue.{WrittenValue}
use Rattle.mmdb_section.specs.declared.value.WrittenValue.TheVariants as values

abbrev pub scalar_of : SpecNumber → Scalar
scalar_of (BoolNumber b) = boolean b
scalar_of (I32 z) = signed32 z
scalar_of (U16 n) = number16 n
scalar_of (U32 n) = number32 n
scalar_of (U64 n) = number64 n
scalar_of (U128 n) = number128 n
scalar_of (Double x) = double_bits x.bits
scalar_of (Float x) = float_bits x.bits

-- a value by what it is made of: a scalar, or the parts of an array or a map
pub data Shape : Type 0 where
  plain : Scalar → Shape
  elements : List SectionPart → Shape
  entries : List (SectionPart × SectionPart) → Shape

abbrev pub shape_of : WrittenValue → Shape
shape_of (values.Text x) = plain (text x.now)
shape_of (values.Bytes x) = plain (bytes x.now)
shape_of (values.Number n) = plain (scalar_of n)
shape_of (values.Array parts) = elements parts.now
shape_of (values.Map pairs) = entries pairs.now
