-- The address that a row has.
use Rattle.std.specs.Prelude.{ℕ, List, Option, Bool}
use Rattle.std.specs.declared.net.ip_addr.IpAddr.{IpAddr}
use Rattle.mmdb_addresses.specs.Addresses.{ReadsAddress}
use Rattle.mmdb_addresses.specs.Rows.{FindsFirst, FindsLast}
use Rattle.mmdb_addresses.specs.declared.readings.Reading.{Reading}
use Rattle.mmdb_addresses.specs.declared.readings.Reading.TheVariants.{Exact, First, Last, Anywhere, LastAnywhere}
use Rattle.mmdb_filter.specs.declared.rows.Rows.{Rows}
use Rattle.mmdb_cmd_enrich.specs.Columns.{begun_cell, ended_cell}

-- What is read of the cell of a column of a row, of which such a text is seen, that may go on.
abbrev pub cell_read : Rows → Reading → ℕ → List ℕ → Bool → Option (List ℕ)
cell_read rows First column text goes_on = begun_cell rows goes_on column text
cell_read rows _ column text goes_on = ended_cell rows goes_on column text

-- The address in a row, of which such a text is seen, that may go on: the one in a column, or the first or the last one
-- anywhere.
abbrev pub ReadsRow : Rows → Reading → ℕ → List ℕ → Bool → Option IpAddr → Type 0
ReadsRow rows Exact column text goes_on address = ReadsAddress Exact (cell_read rows Exact column text goes_on) address
ReadsRow rows First column text goes_on address = ReadsAddress First (cell_read rows First column text goes_on) address
ReadsRow rows Last column text goes_on address = ReadsAddress Last (cell_read rows Last column text goes_on) address
ReadsRow rows Anywhere column text goes_on address = FindsFirst text goes_on address
ReadsRow rows LastAnywhere column text goes_on address = FindsLast text goes_on address
