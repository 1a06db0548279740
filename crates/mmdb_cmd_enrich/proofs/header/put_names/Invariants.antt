use Rattle.std.proofs.Common.{◌≡◌, ◌++◌, drop, map, take}
use Rattle.mmdb_filter.specs.Lines.{text_length}
use Rattle.mmdb_cmd_enrich.specs.Header.{name_cells}
use Rattle.mmdb_cmd_enrich.proofs.header.put_names.Given as goal

abbrev pub invariant-loop-name : goal.invariant-loop-name
invariant-loop-name l = l.row.items ++ name_cells l.rows (map (λ name. name.now) (drop l.name-index l.names)) ≡ take (text_length l.fn.row.items) l.fn.row.items ++ name_cells l.rows (map (λ name. name.now) l.names)
