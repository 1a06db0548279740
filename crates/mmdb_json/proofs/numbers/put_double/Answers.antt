use Rattle.std.proofs.Common.{rules, refl, sym, subst}
use Rattle.std.specs.Float.{binary64}
use Rattle.json.specs.Json.{number, null}
use Rattle.json.specs.Print.{IsNumber}
use Rattle.json.proofs.Printed.Floats.{IsNumber-plain}
use Rattle.mmdb_format.specs.Contents.{double_bits}
use Rattle.mmdb_json.specs.Shown.{ShowsFloat}
use Rattle.mmdb_json.proofs.ShownLaws.{finite_shown, other_shown}
use Rattle.mmdb_json.proofs.ScalarTexts.{grows, number_written, null_written}
use Rattle.mmdb_json.proofs.numbers.put_double.Goals as goal

pub returns-then-not-is_finite : goal.returns-then-not-is_finite
returns-then-not-is_finite c = grows c.put.result (double_bits c.args.double.bits) null c.args.out.now c.put.new.self _ c.put.ensures (other_shown binary64 16 4 c.args.double.bits c.f64_from_bits_with_nan-x.result c.f64_from_bits_with_nan-x.ensures (search rules)) null_written refl

pub returns : goal.returns
returns c =
    let same = c.as_bytes.ensures.value in
    let digits = c.as_bytes.result.now in
    let shown : ShowsFloat binary64 16 4 c.args.double.bits (number digits) = subst (λ s. ShowsFloat binary64 16 4 c.args.double.bits (number s)) (sym same) (finite_shown binary64 16 4 c.args.double.bits c.format_finite.result.now c.f64_from_bits_with_nan-x.result c.f64_from_bits_with_nan-x.ensures (search rules) c.format_finite.ensures.parses c.format_finite.ensures.layout) in
    grows c.put-2.result (double_bits c.args.double.bits) (number digits) c.args.out.now c.put-2.new.self digits c.put-2.ensures shown (number_written digits (subst IsNumber (sym same) (IsNumber-plain c.format_finite.result.now c.format_finite.ensures.plain)) c.as_bytes.ensures.utf8) refl
