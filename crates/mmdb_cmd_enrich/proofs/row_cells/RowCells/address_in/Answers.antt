use Rattle.mmdb_cmd_enrich.proofs.AheadLaws.{unnumbered}
use Rattle.mmdb_cmd_enrich.proofs.AskedLaws.{column_read, first_read_anywhere, last_read_anywhere}
use Rattle.mmdb_cmd_enrich.proofs.row_cells.RowCells.address_in.Goals as goal

pub returns-in-Anywhere-clause-spelled : goal.returns-in-Anywhere-clause-spelled
returns-in-Anywhere-clause-spelled c =
    let self = c.args.self.now in
    first_read_anywhere self.rows self.reading self.column c.args.text.now c.args.is_long _ c.in-Anywhere.is c.address_in_row.ensures.spelled

pub returns-in-LastAnywhere-clause-spelled : goal.returns-in-LastAnywhere-clause-spelled
returns-in-LastAnywhere-clause-spelled c =
    let self = c.args.self.now in
    last_read_anywhere self.rows self.reading self.column c.args.text.now c.args.is_long _ c.in-LastAnywhere.is c.last_address_in_row.ensures.spelled

pub returns-in_default-clause-spelled : goal.returns-in_default-clause-spelled
returns-in_default-clause-spelled c =
    let self = c.args.self.now in
    column_read self.rows self.reading self.column c.args.text.now c.args.is_long _ c.in_default.not-Anywhere c.in_default.not-LastAnywhere c.address_in_cell.ensures.spelled

pub returns-in-Anywhere-clause-number : goal.returns-in-Anywhere-clause-number
returns-in-Anywhere-clause-number c = unnumbered _ _ c.address_in_row.ensures.number

pub returns-in-LastAnywhere-clause-number : goal.returns-in-LastAnywhere-clause-number
returns-in-LastAnywhere-clause-number c = unnumbered _ _ c.last_address_in_row.ensures.number
