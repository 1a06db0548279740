use Rattle.std.proofs.Common.{◌≡◌, ◌||◌, take, get_or, refl, sym, ap, ap₂, subst, ◌∙◌, arith}
use Rattle.std.specs.List.{prefix_len}
use Rattle.std.proofs.lemmas.Bool.{ne_eqb}
use Rattle.mmdb_filter.specs.Runs.{is_neither}
use Rattle.mmdb_filter.specs.declared.rows.RowPosition.TheVariants.{Cell}
use Rattle.mmdb_filter.specs.declared.rows.Rows.TheVariants.{Lines}
use Rattle.mmdb_addresses.specs.Cells.{first_word}
use Rattle.mmdb_cmd_enrich.specs.Columns.{cell_length}
use Rattle.mmdb_cmd_enrich.proofs.CellRunLaws.{line_cell}
use Rattle.mmdb_cmd_enrich.proofs.PartLaws.{line_word}
use Rattle.mmdb_cmd_enrich.proofs.parts.line_of.Goals as goal

pub returns : goal.returns
returns c =
    let text = c.args.line.now in
    let k = prefix_len (is_neither 9 9) text in
    let x = get_or text 0 0 in
    subst (λ d. first_word text ≡ first_word (take (cell_length (Lines d) Cell text) text)) (omega arith)
    (line_word text k refl (grind (arith, c.is_empty.ensures, c.if-is_empty.false)) (ap₂ (λ a b. a || b) (ne_eqb x 32 (λ e. omega arith)) (ne_eqb x 9 (λ e. omega arith)))
    ∙ ap (λ m. first_word (take m text)) (sym (line_cell 9 text k refl)))
