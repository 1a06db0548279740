use Rattle.std.proofs.Common.{refl}
use Rattle.mmdb_filter.specs.Lines.{most_seen}
use Rattle.mmdb_cmd_enrich.proofs.row_cells.RowCellsTemplate.most_seen.Goals as goal

pub returns-clause-most : goal.returns-clause-most
unfolding most_seen
returns-clause-most c = refl
