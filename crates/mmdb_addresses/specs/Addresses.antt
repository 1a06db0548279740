-- The address that a text has.
use Rattle.std.specs.Prelude.{◌≡◌, ℕ, List, Option, Some, None, false}
use Rattle.std.specs.Net.Grammar.{IsIpText}
use Rattle.std.specs.declared.net.ip_addr.IpAddr.{IpAddr}
use Rattle.mmdb_addresses.specs.Cells.{first_word, last_hop, unquoted}
use Rattle.mmdb_addresses.specs.Rows.{StandsFirst, StandsLast}
use Rattle.mmdb_addresses.specs.Words.{IsWord}
use Rattle.mmdb_addresses.specs.declared.readings.Reading.{Reading}
use Rattle.mmdb_addresses.specs.declared.readings.Reading.TheVariants.{Exact, First, Last, Anywhere, LastAnywhere}

-- This is the address in a text: all of it, its first word, the first word after its last comma, or the first or the last
-- address that is anywhere in it.
abbrev pub IsAddressIn : Reading → List ℕ → IpAddr → Type 0
IsAddressIn Exact text address = IsIpText text address
IsAddressIn First text address = IsWord (unquoted (first_word text)) address
IsAddressIn Last text address = IsWord (unquoted (first_word (last_hop text))) address
IsAddressIn Anywhere text address = StandsFirst text false address
IsAddressIn LastAnywhere text address = StandsLast text address

-- the one that is found, or none where there is none
abbrev pub Finds : (IpAddr → Type 0) → Option IpAddr → Type 0
Finds Is (Some address) = Is address
Finds Is None = (address : IpAddr) → ¬ Is address

-- the address in a text, or none where it has none or there is no text
abbrev pub ReadsAddress : Reading → Option (List ℕ) → Option IpAddr → Type 0
ReadsAddress reading spelled (Some address) = (text : List ℕ) × (spelled ≡ Some text) × IsAddressIn reading text address
ReadsAddress reading spelled None = (text : List ℕ) (address : IpAddr) → spelled ≡ Some text → ¬ IsAddressIn reading text address
