use Rattle.std.proofs.Common.{refl, subst, sym}
use Rattle.mmdb_format.specs.Contents.{text, bytes}
use Rattle.mmdb_section.specs.declared.value.WrittenValue.{WrittenValue}
use Rattle.mmdb_section.specs.declared.value.WrittenValue.TheVariants as values
use Rattle.mmdb_section.specs.Sections.{scalar_of}
use Rattle.mmdb_section.specs.Working.{IsScalar, IsText, WritesArray, WritesMap, WritesValue}
use Rattle.mmdb_section.proofs.StandLemmas.{weaker_put}
use Rattle.mmdb_section.proofs.WriteLemmas.{number_is_text, scalar_value, array_value, map_value}
use Rattle.std.proofs.Common.{ap}
use Rattle.mmdb_section.specs.Sections.{shape_of}
use Rattle.mmdb_section.specs.Bytes.{shape_bytes}
use Rattle.mmdb_section.proofs.BytesLemmas.{same_put}
use Rattle.mmdb_section.proofs.write.push_value.Goals as goal

pub returns-in-Text-clause-says : goal.returns-in-Text-clause-says
returns-in-Text-clause-says c =
    let x = c.in-Text.text in
    weaker_put c.push_text.result (IsText x.now) (WritesValue c.args.value) _ _
    (λ xs is. subst (λ (w : WrittenValue). WritesValue w xs) (sym c.in-Text.is) (scalar_value (values.Text x) (text x.now) xs (λ tiles v h. h) is.1 is.0)) c.push_text.ensures.says

pub returns-in-Bytes-clause-says : goal.returns-in-Bytes-clause-says
returns-in-Bytes-clause-says c =
    let x = c.in-Bytes.bytes in
    weaker_put c.push_bytes.result (IsScalar (bytes x.now)) (WritesValue c.args.value) _ _
    (λ xs is. subst (λ (w : WrittenValue). WritesValue w xs) (sym c.in-Bytes.is) (scalar_value (values.Bytes x) (bytes x.now) xs (λ tiles v h. h) refl is)) c.push_bytes.ensures.says

pub returns-in-Number-clause-says : goal.returns-in-Number-clause-says
returns-in-Number-clause-says c =
    let n = c.in-Number.number in
    weaker_put c.push_number.result (IsScalar (scalar_of n)) (WritesValue c.args.value) _ _
    (λ xs is. subst (λ (w : WrittenValue). WritesValue w xs) (sym c.in-Number.is) (scalar_value (values.Number n) (scalar_of n) xs (λ tiles v h. h) (number_is_text n) is)) c.push_number.ensures.says

pub returns-in-Array-clause-says : goal.returns-in-Array-clause-says
returns-in-Array-clause-says c =
    let ps = c.in-Array.parts in
    weaker_put c.push_array.result (WritesArray ps.now) (WritesValue c.args.value) _ _
    (λ xs w. subst (λ (u : WrittenValue). WritesValue u xs) (sym c.in-Array.is) (array_value (values.Array ps) ps.now xs (λ tiles v h. h) w)) c.push_array.ensures.says

pub returns-in-Map-clause-says : goal.returns-in-Map-clause-says
returns-in-Map-clause-says c =
    let ps = c.in-Map.pairs in
    weaker_put c.push_map.result (WritesMap ps.now) (WritesValue c.args.value) _ _
    (λ xs w. subst (λ (u : WrittenValue). WritesValue u xs) (sym c.in-Map.is) (map_value (values.Map ps) ps.now xs (λ tiles v h. h) w)) c.push_map.ensures.says

pub returns-in-Text-clause-bytes : goal.returns-in-Text-clause-bytes
returns-in-Text-clause-bytes c = same_put c.push_text.result _ _ _ (shape_bytes (shape_of c.args.value)) c.push_text.ensures.bytes (ap (λ (w : WrittenValue). shape_bytes (shape_of w)) (sym c.in-Text.is))

pub returns-in-Bytes-clause-bytes : goal.returns-in-Bytes-clause-bytes
returns-in-Bytes-clause-bytes c = same_put c.push_bytes.result _ _ _ (shape_bytes (shape_of c.args.value)) c.push_bytes.ensures.bytes (ap (λ (w : WrittenValue). shape_bytes (shape_of w)) (sym c.in-Bytes.is))

pub returns-in-Number-clause-bytes : goal.returns-in-Number-clause-bytes
returns-in-Number-clause-bytes c = same_put c.push_number.result _ _ _ (shape_bytes (shape_of c.args.value)) c.push_number.ensures.bytes (ap (λ (w : WrittenValue). shape_bytes (shape_of w)) (sym c.in-Number.is))

pub returns-in-Array-clause-bytes : goal.returns-in-Array-clause-bytes
returns-in-Array-clause-bytes c = same_put c.push_array.result _ _ _ (shape_bytes (shape_of c.args.value)) c.push_array.ensures.bytes (ap (λ (w : WrittenValue). shape_bytes (shape_of w)) (sym c.in-Array.is))

pub returns-in-Map-clause-bytes : goal.returns-in-Map-clause-bytes
returns-in-Map-clause-bytes c = same_put c.push_map.result _ _ _ (shape_bytes (shape_of c.args.value)) c.push_map.ensures.bytes (ap (λ (w : WrittenValue). shape_bytes (shape_of w)) (sym c.in-Map.is))
