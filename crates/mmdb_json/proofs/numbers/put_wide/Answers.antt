use Rattle.std.proofs.Common.{rules, refl, sym, ap, ◌∙◌, subst}
use Rattle.json.specs.Json.{number}
use Rattle.json.specs.Print.{IsNumber}
use Rattle.mmdb_json.proofs.WideDecimals.{IsNumber-decimal_wide}
use Rattle.mmdb_format.specs.Contents.{number128}
use Rattle.mmdb_json.proofs.ScalarTexts.{grows, number_written}
use Rattle.mmdb_json.proofs.numbers.put_wide.Goals as goal

pub returns : goal.returns
returns c =
    let text = c.as_bytes.ensures.value ∙ c.format.ensures.text in
    let digits = c.as_bytes.result.now in
    grows c.put.result (number128 c.args.n) (number digits) c.args.out.now c.put.new.self digits c.put.ensures (ap number text) (number_written digits (subst IsNumber (sym text) (IsNumber-decimal_wide c.args.n (search rules))) c.as_bytes.ensures.utf8) refl
