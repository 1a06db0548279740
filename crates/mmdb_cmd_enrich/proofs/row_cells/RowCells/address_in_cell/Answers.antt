use Rattle.std.proofs.Common.{None}
use Rattle.mmdb_cmd_enrich.proofs.row_cells.RowCells.address_in_cell.Goals as goal

pub returns-in-None-clause-spelled : goal.returns-in-None-clause-spelled
returns-in-None-clause-spelled c = c.in-None.ensures None (λ text address is. absurd (cc))
