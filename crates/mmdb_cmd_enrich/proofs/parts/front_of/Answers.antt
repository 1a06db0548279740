use Rattle.std.proofs.Common.{◌≡◌, take, refl, sym, ap, ◌∙◌, arith}
use Rattle.std.specs.List.{prefix_len}
use Rattle.std.proofs.lemmas.List.Sums.{prefix_len-le-length}
use Rattle.mmdb_filter.specs.Runs.{is_neither}
use Rattle.mmdb_addresses.specs.Cells.{first_word}
use Rattle.mmdb_cmd_enrich.proofs.CellRunLaws.{line_cell}
use Rattle.mmdb_cmd_enrich.proofs.PartLaws.{in_word, same_word, up_to_space, no_blank}
use Rattle.mmdb_cmd_enrich.proofs.parts.front_of.Goals as goal

pub returns : goal.returns
returns c =
    let d = c.args.delimiter in
    let text = c.args.line.now in
    let n = c.either_from-end.result in
    let k = prefix_len (is_neither d d) text in
    let is : n ≡ prefix_len (is_neither d 32) text = omega (arith, c.either_from-end.ensures.value) in
    let (order, space) = up_to_space d text n k is refl in
    same_word text n k (omega arith) order (prefix_len-le-length (is_neither d d) text) (no_blank d text (omega arith) (λ tab. omega arith)) (λ less. ap in_word (space less))
    ∙ ap (λ m. first_word (take m text)) (sym (line_cell d text k refl))
