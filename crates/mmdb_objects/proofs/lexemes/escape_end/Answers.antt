use Rattle.std.proofs.Common.{rules, ◌≡◌, true, drop}
use Rattle.std.specs.Option.{is_some}
use Rattle.json.specs.Text.{short_escape}
use Rattle.json.specs.Word.{head}
use Rattle.mmdb_objects.proofs.ScanLaws.{short_ends, if_code}
use Rattle.mmdb_objects.proofs.lexemes.escape_end.Goals as goal

pub returns-then-is_short_escape : goal.returns-then-is_short_escape
returns-then-is_short_escape c =
    let short : is_some (short_escape (head (drop c.args.from c.args.text.now))) ≡ true = search rules in
    short_ends c.args.text.now c.args.from short

pub returns : goal.returns
returns c =
    let first : head (drop c.args.from c.args.text.now) ≡ 117 = search rules in
    if_code c.args.text.now c.args.from c.code_end.result first c.code_end.ensures
