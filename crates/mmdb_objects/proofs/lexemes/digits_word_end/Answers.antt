use Rattle.std.proofs.Common.{rules, ◌≡◌, drop, true}
use Rattle.json.specs.Word.{ends_word}
use Rattle.json.specs.Json.{Json}
use Rattle.mmdb_objects.specs.Scanned.{EndsNumber, HasWord}
use Rattle.mmdb_objects.proofs.ScanLaws.{has_digits, ends_there, where_read}
use Rattle.mmdb_objects.proofs.lexemes.digits_word_end.Goals as goal

pub returns-then-ends_before-clause-word : goal.returns-then-ends_before-clause-word
returns-then-ends_before-clause-word c =
    let text = c.args.text.now in
    let stop = c.digits_stop-stop in
    let ended : ends_word (drop stop.result.at text) ≡ true = search rules in
    has_digits text c.args.from stop.result.at stop.result.at c.requires.first stop.ensures.at (ends_there text stop.result.at stop.ensures.bound ended)

pub returns-else-ends_before-clause-word : goal.returns-else-ends_before-clause-word
returns-else-ends_before-clause-word c =
    let text = c.args.text.now in
    let stop = c.digits_stop-stop in
    where_read (EndsNumber text stop.result.at) (λ end. (j : Json) × HasWord text c.args.from end j) c.rest_word_end.result
    (λ end behind. has_digits text c.args.from stop.result.at end c.requires.first stop.ensures.at behind) c.rest_word_end.ensures
