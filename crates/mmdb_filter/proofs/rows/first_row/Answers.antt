use Rattle.std.proofs.Common.{rules, ◌≡◌, take, sym, ap, ◌∙◌}
use Rattle.mmdb_filter.specs.Lines.{text_of}
use Rattle.mmdb_filter.specs.Rows.{row_from}
use Rattle.mmdb_filter.specs.declared.rows.RowPosition.TheVariants.{Cell, Ended}
use Rattle.mmdb_filter.proofs.RowLaws.{goes_within, first_ended, first_goes_on}
use Rattle.mmdb_filter.proofs.rows.first_row.Goals as goal

pub returns-then-ne-clause-last : goal.returns-then-ne-clause-last
returns-then-ne-clause-last c = λ none.
    let n = c.scan-len.result.0 in
    let next = c.scan-len.result.1 in
    first_goes_on c.args.rows next n c.args.bytes.now (search rules) (goes_within c.args.rows Cell next n c.args.bytes.now c.scan-len.ensures.goes)

pub returns-clause-text : goal.returns-clause-text
returns-clause-text c =
    let n = c.scan-len.result.0 in
    let next = c.scan-len.result.1 in
    let ended : next ≡ Ended = search rules in
    let row = (first_ended c.args.rows next n c.args.bytes.now ended (goes_within c.args.rows Cell next n c.args.bytes.now c.scan-len.ensures.goes)).0 in
    let is : c.split_at.result.0.now ≡ row_from c.args.rows Cell c.args.bytes.now = c.split_at.ensures.front ∙ sym row in
    ap (λ k. take k c.split_at.result.0.now) c.text_length.ensures.length ∙ ap text_of is

pub returns-clause-rest : goal.returns-clause-rest
returns-clause-rest c =
    let n = c.scan-len.result.0 in
    let next = c.scan-len.result.1 in
    let ended : next ≡ Ended = search rules in
    c.split_at.ensures.back ∙ sym (first_ended c.args.rows next n c.args.bytes.now ended (goes_within c.args.rows Cell next n c.args.bytes.now c.scan-len.ensures.goes)).1
