use Rattle.std.proofs.Common.{◌≡◌, ◌-◌, ◌++◌, replicate}
use Rattle.mmdb_cmd_enrich.specs.Columns.{delimiter_of}
use Rattle.mmdb_cmd_enrich.proofs.padding.put_delimiters.Given as goal

abbrev pub invariant-loop : goal.invariant-loop
invariant-loop l = l.out.items ++ replicate (l.fn.count - l.counter) (delimiter_of l.rows) ≡ l.fn.out.items ++ replicate l.fn.count (delimiter_of l.rows)
