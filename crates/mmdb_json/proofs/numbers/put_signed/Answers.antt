use Rattle.std.proofs.Common.{rules, refl, sym, ◌∙◌, subst}
use Rattle.json.specs.Json.{number}
use Rattle.json.specs.Print.{IsNumber}
use Rattle.json.proofs.Printed.Decimals.{IsNumber-signed_decimal}
use Rattle.mmdb_format.specs.Contents.{signed32}
use Rattle.mmdb_json.proofs.ScalarTexts.{grows, number_written}
use Rattle.mmdb_json.proofs.numbers.put_signed.Goals as goal

pub returns : goal.returns
returns c =
    let text = c.as_bytes.ensures.value ∙ c.format.ensures.text in
    let digits = c.as_bytes.result.now in
    grows c.put.result (signed32 c.args.n) (number digits) c.args.out.now c.put.new.self digits c.put.ensures (search rules) (number_written digits (subst IsNumber (sym text) (search (rules, IsNumber-signed_decimal))) c.as_bytes.ensures.utf8) refl
