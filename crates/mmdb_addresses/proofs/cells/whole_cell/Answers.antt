use Rattle.mmdb_addresses.proofs.ColonLaws.{whole_is}
use Rattle.mmdb_addresses.proofs.cells.whole_cell.Goals as goal

pub returns-in-Ok : goal.returns-in-Ok
returns-in-Ok c = whole_is c.args.cell.now c.in-Ok.address c.in-Ok.ensures
