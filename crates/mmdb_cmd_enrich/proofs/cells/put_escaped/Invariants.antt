use Rattle.std.proofs.Common.{◌≡◌, ◌++◌, drop}
use Rattle.mmdb_cmd_enrich.specs.Cells.{escaped}
use Rattle.mmdb_cmd_enrich.proofs.cells.put_escaped.Given as goal

abbrev pub invariant-loop-at : goal.invariant-loop-at
invariant-loop-at l = l.out.items ++ escaped l.delimiter (drop l.at l.fn.bytes) ≡ l.fn.out.items ++ escaped l.delimiter l.fn.bytes
