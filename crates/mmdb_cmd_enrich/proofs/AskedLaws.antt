-- The address that a row has.
use Rattle.std.proofs.Common.{◌≡◌, ℕ, List, Option, Bool, refl, sym, subst}
use Rattle.std.specs.declared.net.ip_addr.IpAddr.{IpAddr}
use Rattle.mmdb_addresses.specs.Addresses.{ReadsAddress}
use Rattle.mmdb_addresses.specs.Rows.{FindsFirst, FindsLast}
use Rattle.mmdb_addresses.specs.declared.readings.Reading.{Reading}
use Rattle.mmdb_addresses.specs.declared.readings.Reading.TheVariants.{Exact, First, Last, Anywhere, LastAnywhere}
use Rattle.mmdb_filter.specs.declared.rows.Rows.{Rows}
use Rattle.mmdb_cmd_enrich.specs.Asked.{ReadsRow, cell_read}

-- the address in a column, where not all of a row is read
pub column_read : (rows : Rows) (reading : Reading) (column : ℕ) (text : List ℕ) (goes_on : Bool) (address : Option IpAddr) → (reading ≡ Anywhere → ⊥) → (reading ≡ LastAnywhere → ⊥)
    → ReadsAddress reading (cell_read rows reading column text goes_on) address → ReadsRow rows reading column text goes_on address
column_read rows Exact column text goes_on address first last reads = reads
column_read rows First column text goes_on address first last reads = reads
column_read rows Last column text goes_on address first last reads = reads
column_read rows Anywhere column text goes_on address first last reads = absurd (first refl)
column_read rows LastAnywhere column text goes_on address first last reads = absurd (last refl)

-- the first or the last address anywhere in a row
pub first_read_anywhere : (rows : Rows) (reading : Reading) (column : ℕ) (text : List ℕ) (goes_on : Bool) (address : Option IpAddr) → reading ≡ Anywhere → FindsFirst text goes_on address → ReadsRow rows reading column text goes_on address
first_read_anywhere rows reading column text goes_on address is first = subst (λ r. ReadsRow rows r column text goes_on address) (sym is) first

pub last_read_anywhere : (rows : Rows) (reading : Reading) (column : ℕ) (text : List ℕ) (goes_on : Bool) (address : Option IpAddr) → reading ≡ LastAnywhere → FindsLast text goes_on address → ReadsRow rows reading column text goes_on address
last_read_anywhere rows reading column text goes_on address is last = subst (λ r. ReadsRow rows r column text goes_on address) (sym is) last
