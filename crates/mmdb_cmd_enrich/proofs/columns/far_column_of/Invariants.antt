use Rattle.std.proofs.Common.{◌≡◌, ◌-◌}
use Rattle.mmdb_cmd_enrich.specs.Columns.{column_of}
use Rattle.mmdb_cmd_enrich.proofs.columns.far_column_of.Given as goal

abbrev pub invariant-loop : goal.invariant-loop
invariant-loop l = column_of l.rows l.goes_on l.fn.column l.fn.text ≡ column_of l.rows l.goes_on (l.fn.column - l.counter) l.rest
