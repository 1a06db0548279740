use Rattle.std.proofs.Common.{rules, ap, refl, cond, Bool, true, false, List, [], ℕ, ℤ, ◌≡◌, ◌∙◌}
use mir.Val.{bool_byte, SFits}
use Rattle.std.specs.Int.{w16, w32, w64, w128, to_be_bytes, cast_unsigned, cast_signed}
use Rattle.std.proofs.lemmas.Int.{to_z-of_z}
use Rattle.mmdb_format.specs.Contents.{boolean, signed32, number16, number32, number64, number128, double_bits, float_bits}
use Rattle.mmdb_section.specs.Sections.{scalar_of}
use Rattle.mmdb_section.specs.Working.{IsHeader, IsInteger, IsSized}
use Rattle.mmdb_section.proofs.ScalarLemmas.{number_put, truth_made, i32_made, u16_made, u32_made, u64_made, u128_made, double_made, float_made}
use Rattle.std.proofs.Common.{◌++◌, Result, OnOk, sym}
use Rattle.mmdb_format.specs.Contents.{Scalar}
use Rattle.mmdb_section.specs.Bytes.{header_bytes, sized_bytes, integer_bytes, scalar_bytes}
use Rattle.mmdb_section.proofs.BytesLemmas.{same_put}
use Rattle.mmdb_section.proofs.scalar.push_number.Goals as goal

truth_size : (size : ℕ) (b : Bool) → size ≡ bool_byte b → size ≡ cond b 1 0
truth_size size true h = h
truth_size size false h = h

same_signed : (n : ℕ) (z : ℤ) → SFits w32 z → n ≡ cast_unsigned w32 (cast_signed w32 (cast_unsigned w32 z)) → cast_signed w32 n ≡ z
same_signed n z fits is =
    let there : cast_signed w32 (cast_unsigned w32 z) ≡ z = to_z-of_z w32 z fits in
    ap (cast_signed w32) (is ∙ ap (cast_unsigned w32) there) ∙ there

-- it is the unsigned number of the signed one
unsigned_is : (n : ℕ) (z : ℤ) → SFits w32 z → n ≡ cast_unsigned w32 (cast_signed w32 (cast_unsigned w32 z)) → n ≡ cast_unsigned w32 z
unsigned_is n z fits is = is ∙ ap (cast_unsigned w32) (to_z-of_z w32 z fits)

pub returns-in-Bool-clause-says : goal.returns-in-Bool-clause-says
returns-in-Bool-clause-says c =
    let b = c.in-Bool.truth in
    number_put c.push_header.result (λ (xs ys : List ℕ). IsHeader 14 c.from.result ys) [] [] (boolean b) (scalar_of c.args.number) _ _ refl (ap scalar_of c.in-Bool.is)
    (λ xs. truth_made b c.from.result xs (truth_size c.from.result b c.from.ensures)) c.push_header.ensures.says

pub returns-in-I32-clause-says : goal.returns-in-I32-clause-says
returns-in-I32-clause-says c =
    let z = c.in-I32.integer in
    let n = c.cast_unsigned.result in
    number_put c.push_integer.result (IsInteger 8) (to_be_bytes w32 n) c.to_be_bytes.result (signed32 z) (scalar_of c.args.number) _ _ c.to_be_bytes.ensures (ap scalar_of c.in-I32.is)
    (λ xs. i32_made z n xs c.cast_unsigned.type_inv (same_signed n z (search rules) c.cast_unsigned.ensures)) c.push_integer.ensures.says

pub returns-in-U16-clause-says : goal.returns-in-U16-clause-says
returns-in-U16-clause-says c =
    let n = c.in-U16.integer in
    number_put c.push_integer-in-U16.result (IsInteger 5) (to_be_bytes w16 n) c.to_be_bytes-in-U16.result (number16 n) (scalar_of c.args.number) _ _ c.to_be_bytes-in-U16.ensures (ap scalar_of c.in-U16.is)
    (λ xs. u16_made n xs (search rules)) c.push_integer-in-U16.ensures.says

pub returns-in-U32-clause-says : goal.returns-in-U32-clause-says
returns-in-U32-clause-says c =
    let n = c.in-U32.integer in
    number_put c.push_integer-in-U32.result (IsInteger 6) (to_be_bytes w32 n) c.to_be_bytes-in-U32.result (number32 n) (scalar_of c.args.number) _ _ c.to_be_bytes-in-U32.ensures (ap scalar_of c.in-U32.is)
    (λ xs. u32_made n xs (search rules)) c.push_integer-in-U32.ensures.says

pub returns-in-U64-clause-says : goal.returns-in-U64-clause-says
returns-in-U64-clause-says c =
    let n = c.in-U64.integer in
    number_put c.push_integer-in-U64.result (IsInteger 9) (to_be_bytes w64 n) c.to_be_bytes-in-U64.result (number64 n) (scalar_of c.args.number) _ _ c.to_be_bytes-in-U64.ensures (ap scalar_of c.in-U64.is)
    (λ xs. u64_made n xs (search rules)) c.push_integer-in-U64.ensures.says

pub returns-in-U128-clause-says : goal.returns-in-U128-clause-says
returns-in-U128-clause-says c =
    let n = c.in-U128.integer in
    number_put c.push_integer-in-U128.result (IsInteger 10) (to_be_bytes w128 n) c.to_be_bytes-in-U128.result (number128 n) (scalar_of c.args.number) _ _ c.to_be_bytes-in-U128.ensures (ap scalar_of c.in-U128.is)
    (λ xs. u128_made n xs (search rules)) c.push_integer-in-U128.ensures.says

pub returns-in-Double-clause-says : goal.returns-in-Double-clause-says
returns-in-Double-clause-says c =
    let n = c.in-Double.double.bits in
    number_put c.push_sized.result (IsSized 3) (to_be_bytes w64 n) c.to_be_bytes-in-Double.result (double_bits n) (scalar_of c.args.number) _ _ c.to_be_bytes-in-Double.ensures (ap scalar_of c.in-Double.is)
    (λ xs. double_made n xs (search rules)) c.push_sized.ensures.says

pub returns-in-Float-clause-says : goal.returns-in-Float-clause-says
returns-in-Float-clause-says c =
    let n = c.in-Float.float.bits in
    number_put c.push_sized-in-Float.result (IsSized 15) (to_be_bytes w32 n) c.to_be_bytes-in-Float.result (float_bits n) (scalar_of c.args.number) _ _ c.to_be_bytes-in-Float.ensures (ap scalar_of c.in-Float.is)
    (λ xs. float_made n xs (search rules)) c.push_sized-in-Float.ensures.says

-- the bytes of a number, by the scalar that it is
number_bytes : {E : Type 0} (r : Result (Unit {0}) E) (put : List ℕ → List ℕ) (wide there : List ℕ) (n m : Scalar) (old new : List ℕ) → there ≡ wide → put wide ≡ scalar_bytes n → m ≡ n → OnOk r (new ≡ old ++ put there) → OnOk r (new ≡ old ++ scalar_bytes m)
number_bytes r put wide there n m old new same is of done = same_put r old new (put there) (scalar_bytes m) done (ap put same ∙ is ∙ ap scalar_bytes (sym of))

pub returns-in-Bool-clause-bytes : goal.returns-in-Bool-clause-bytes
returns-in-Bool-clause-bytes c =
    let b = c.in-Bool.truth in
    same_put c.push_header.result _ _ (header_bytes 14 c.from.result) (scalar_bytes (scalar_of c.args.number)) c.push_header.ensures.bytes
    (ap (header_bytes 14) (truth_size c.from.result b c.from.ensures) ∙ ap scalar_bytes (sym (ap scalar_of c.in-Bool.is)))

pub returns-in-I32-clause-bytes : goal.returns-in-I32-clause-bytes
returns-in-I32-clause-bytes c =
    let z = c.in-I32.integer in
    let n = c.cast_unsigned.result in
    let there : c.to_be_bytes.result ≡ to_be_bytes w32 (cast_unsigned w32 z) = c.to_be_bytes.ensures ∙ ap (to_be_bytes w32) (unsigned_is n z (search rules) c.cast_unsigned.ensures) in
    number_bytes c.push_integer.result (integer_bytes 8) (to_be_bytes w32 (cast_unsigned w32 z)) c.to_be_bytes.result (signed32 z) (scalar_of c.args.number) _ _ there refl (ap scalar_of c.in-I32.is) c.push_integer.ensures.bytes

pub returns-in-U16-clause-bytes : goal.returns-in-U16-clause-bytes
returns-in-U16-clause-bytes c =
    let n = c.in-U16.integer in
    number_bytes c.push_integer-in-U16.result (integer_bytes 5) (to_be_bytes w16 n) c.to_be_bytes-in-U16.result (number16 n) (scalar_of c.args.number) _ _ c.to_be_bytes-in-U16.ensures refl (ap scalar_of c.in-U16.is) c.push_integer-in-U16.ensures.bytes

pub returns-in-U32-clause-bytes : goal.returns-in-U32-clause-bytes
returns-in-U32-clause-bytes c =
    let n = c.in-U32.integer in
    number_bytes c.push_integer-in-U32.result (integer_bytes 6) (to_be_bytes w32 n) c.to_be_bytes-in-U32.result (number32 n) (scalar_of c.args.number) _ _ c.to_be_bytes-in-U32.ensures refl (ap scalar_of c.in-U32.is) c.push_integer-in-U32.ensures.bytes

pub returns-in-U64-clause-bytes : goal.returns-in-U64-clause-bytes
returns-in-U64-clause-bytes c =
    let n = c.in-U64.integer in
    number_bytes c.push_integer-in-U64.result (integer_bytes 9) (to_be_bytes w64 n) c.to_be_bytes-in-U64.result (number64 n) (scalar_of c.args.number) _ _ c.to_be_bytes-in-U64.ensures refl (ap scalar_of c.in-U64.is) c.push_integer-in-U64.ensures.bytes

pub returns-in-U128-clause-bytes : goal.returns-in-U128-clause-bytes
returns-in-U128-clause-bytes c =
    let n = c.in-U128.integer in
    number_bytes c.push_integer-in-U128.result (integer_bytes 10) (to_be_bytes w128 n) c.to_be_bytes-in-U128.result (number128 n) (scalar_of c.args.number) _ _ c.to_be_bytes-in-U128.ensures refl (ap scalar_of c.in-U128.is) c.push_integer-in-U128.ensures.bytes

pub returns-in-Double-clause-bytes : goal.returns-in-Double-clause-bytes
returns-in-Double-clause-bytes c =
    let n = c.in-Double.double.bits in
    number_bytes c.push_sized.result (sized_bytes 3) (to_be_bytes w64 n) c.to_be_bytes-in-Double.result (double_bits n) (scalar_of c.args.number) _ _ c.to_be_bytes-in-Double.ensures refl (ap scalar_of c.in-Double.is) c.push_sized.ensures.bytes

pub returns-in-Float-clause-bytes : goal.returns-in-Float-clause-bytes
returns-in-Float-clause-bytes c =
    let n = c.in-Float.float.bits in
    number_bytes c.push_sized-in-Float.result (sized_bytes 15) (to_be_bytes w32 n) c.to_be_bytes-in-Float.result (float_bits n) (scalar_of c.args.number) _ _ c.to_be_bytes-in-Float.ensures refl (ap scalar_of c.in-Float.is) c.push_sized-in-Float.ensures.bytes
