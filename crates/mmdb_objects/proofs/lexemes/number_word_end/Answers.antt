use Rattle.std.proofs.Common.{◌≡◌, drop, Some, ap, ◌∙◌}
use Rattle.json.specs.Json.{Json}
use Rattle.json.specs.Word.{after_minus, after_whole}
use Rattle.mmdb_objects.specs.Scanned.{EndsNumber, HasWord}
use Rattle.mmdb_objects.proofs.ScanLaws.{has_parts, where_read}
use Rattle.mmdb_objects.proofs.lexemes.number_word_end.Goals as goal

pub returns-clause-word : goal.returns-clause-word
returns-clause-word c =
    let text = c.args.text.now in
    let point = c.in_ok-point.point in
    let whole : Some (drop point text) ≡ after_whole (after_minus (drop c.args.from text)) = c.in_ok-point.ensures.0 ∙ ap after_whole c.minus_end.ensures.value in
    where_read (EndsNumber text point) (λ end. (j : Json) × HasWord text c.args.from end j) c.rest_word_end.result
    (λ end behind. has_parts text c.args.from point end c.requires.first whole behind) c.rest_word_end.ensures
