use Rattle.std.proofs.Common.{drop, map}
use Rattle.mmdb_cmd_enrich.proofs.CellLaws.{CellsWay}
use Rattle.mmdb_cmd_enrich.proofs.cells.put_cells.Given as goal

abbrev pub invariant-loop-at : goal.invariant-loop-at
invariant-loop-at g l = CellsWay l.rows (g.A.ReadAlong.reads l.fn.found) (map (λ path. path.items) l.fn.paths) (map (λ path. path.items) (drop l.at l.fn.paths)) l.fn.out.items l.out.items l.are_read
