use Rattle.std.proofs.Common.{◌++◌, sym, ap, ◌∙◌}
use Rattle.std.proofs.lemmas.Result.{on_ok_weaker}
use Rattle.mmdb_filter.specs.Cells.{csv_cell}
use Rattle.mmdb_cmd_enrich.proofs.EscapeLaws.{plain_escaped}
use Rattle.mmdb_cmd_enrich.proofs.cells.put_csv.Goals as goal

pub returns-then-is_plain : goal.returns-then-is_plain
returns-then-is_plain c =
    let plain = plain_escaped 0 c.args.bytes.now (sym c.is_plain.ensures ∙ c.if-is_plain.true) in
    on_ok_weaker c.put_csv_cell.result (λ put. put ∙ ap (λ xs. c.args.out.now.items ++ csv_cell c.args.delimiter xs) (sym plain)) c.put_csv_cell.ensures
