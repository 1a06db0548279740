use Rattle.std.proofs.Common.{rules, ◌≡◌, ◌+◌, drop, refl}
use Rattle.json.specs.Json.{string}
use Rattle.json.specs.Word.{head}
use Rattle.mmdb_objects.specs.Scanned.{bytes_between}
use Rattle.mmdb_objects.proofs.FoundLaws.{string_found}
use Rattle.mmdb_objects.proofs.one_pass.follow_no_further.Goals as goal

pub returns-in_ok-quote-clause-value : goal.returns-in_ok-quote-clause-value
returns-in_ok-quote-clause-value c =
    let text = c.args.text.now in
    let first : head (drop c.args.from text) ≡ 34 = search rules in
    let s = bytes_between text (c.args.from + 1) c.in_ok-quote.quote in
    let closed = c.in_ok-quote.ensures in
    (string s, string_found text s c.args.from c.in_ok-quote.quote c.args.depth first closed.bytes closed.passed, refl)
