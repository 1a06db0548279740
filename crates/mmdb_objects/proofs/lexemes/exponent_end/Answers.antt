use Rattle.std.proofs.Common.{rules, ◌≡◌, ◌≤◌, ◌==◌, ◌||◌, true, drop, arith}
use Rattle.json.specs.Word.{head}
use Rattle.mmdb_objects.proofs.ScanLaws.{exponent_ends}
use Rattle.mmdb_objects.proofs.lexemes.exponent_end.Goals as goal

pub returns : goal.returns
returns c =
    let text = c.args.text.now in
    let from = c.args.from in
    let letter : ((head (drop from text) == 101) || (head (drop from text) == 69)) ≡ true = search rules in
    let low : from ≤ c.sign_end.result = omega arith in
    exponent_ends text from c.sign_end.result c.some_digits_end.result letter low c.sign_end.ensures.value c.some_digits_end.ensures
