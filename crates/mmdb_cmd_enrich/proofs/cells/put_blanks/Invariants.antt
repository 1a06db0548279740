use Rattle.std.proofs.Common.{◌≡◌, ◌++◌, drop, map}
use Rattle.mmdb_cmd_enrich.specs.Cells.{blanks}
use Rattle.mmdb_cmd_enrich.proofs.cells.put_blanks.Given as goal

abbrev pub invariant-loop : goal.invariant-loop
invariant-loop l = l.out.items ++ blanks l.rows (map (λ path. path.items) (drop l.index l.fn.paths)) ≡ l.fn.out.items ++ blanks l.rows (map (λ path. path.items) l.fn.paths)
