use Rattle.std.proofs.Common.{rules, ◌≡◌, drop}
use Rattle.json.specs.Word.{head}
use Rattle.mmdb_objects.proofs.ScanLaws.{string_ends}
use Rattle.mmdb_objects.proofs.lexemes.plain_string_end.Goals as goal

pub returns-then-stop-eq34 : goal.returns-then-stop-eq34
returns-then-stop-eq34 c =
    let there : head (drop c.plain_stop-stop.result.at c.args.text.now) ≡ 34 = search rules in
    string_ends c.args.text.now c.args.from c.plain_stop-stop.result.at c.plain_stop-stop.ensures.at there
