use Rattle.std.proofs.Common.{◌≡◌, ◌+◌, ◌-◌, ◌≤◌, length, drop}
use Rattle.mmdb_filter.specs.declared.rows.RowPosition.TheVariants.{Cell}
use Rattle.mmdb_filter.specs.declared.rows.Rows.TheVariants.{Csv}
use Rattle.mmdb_cmd_enrich.specs.Columns.{cell_length}
use Rattle.mmdb_cmd_enrich.proofs.columns.quoted_cell_length.Given as goal

-- after quotes that close, a cell goes on as at its beginning
abbrev pub invariant-loop-at : goal.invariant-loop-at
invariant-loop-at l = record {
  rest : cell_length (Csv l.delimiter) Cell l.fn.text ≡ l.at + cell_length (Csv l.delimiter) Cell (drop l.at l.fn.text);
  within : l.at ≤ length l.fn.text;
}

abbrev pub decreases-loop-at : goal.decreases-loop-at
decreases-loop-at l = length l.fn.text - l.at
