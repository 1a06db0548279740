use Rattle.std.proofs.Common.{rules, ◌≡◌, drop, arith}
use Rattle.json.specs.Word.{head}
use Rattle.mmdb_objects.proofs.ScanLaws.{goes_nowhere, last_run, if_escaped}
use Rattle.mmdb_objects.proofs.lexemes.string_end.Goals as goal

pub returns-then-stop-eq34 : goal.returns-then-stop-eq34
returns-then-stop-eq34 c =
    let text = c.args.text.now in
    let stop = c.plain_stop-stop in
    let there : head (drop stop.result.at text) ≡ 34 = search rules in
    last_run text c.args.from c.args.from stop.result.at (omega arith) (goes_nowhere (drop c.args.from text)) stop.ensures.at there

pub returns : goal.returns
returns c =
    let text = c.args.text.now in
    let stop = c.plain_stop-stop in
    let there : head (drop stop.result.at text) ≡ 92 = search rules in
    if_escaped text c.args.from stop.result.at c.behind_backslash.result stop.ensures.at there c.behind_backslash.ensures
