-- The address that a database is asked for.
use Rattle.std.specs.Prelude.{◌≡◌, ◌≢◌, ◌⊎◌, ℕ, List, Some, None, Bool}
use Rattle.std.specs.Net.Addr.{IsCanonicalOf}
use Rattle.std.specs.declared.net.ip_addr.IpAddr.{IpAddr}
use Rattle.std.specs.declared.net.ip_addr.IpAddr.TheVariants.{V4, V6}
use Rattle.mmdb_reader.specs.File.{Database}
use Rattle.mmdb_reader.specs.Lookup.{CanAsk, IsInvalidAt, Answers, outcome_at}

-- a database has no record of an address
abbrev pub Lacks : Database → IpAddr → Type 0
Lacks db address = (leaf : List Bool) × Answers db address leaf (outcome_at None)

-- a database has a record of an address, or its lookup fails
abbrev pub HasOrFails : Database → IpAddr → Type 0
HasOrFails db address =
    (¬ CanAsk db address) ⊎ (IsInvalidAt db address ⊎ ((leaf : List Bool) × (offset : ℕ) × Answers db address leaf (outcome_at (Some offset))))

-- A database is asked for an address of IPv6 as it is written. Where it is mapped to one of IPv4 (`::ffff:1.2.3.4`), a database
-- is asked for that if it has no IPv6, or no record of the address as it is written.
abbrev pub Asks : Database → IpAddr → IpAddr → Type 0
Asks db (V4 address) asked = asked ≡ V4 address
Asks db (V6 address) asked =
    ((db.metadata.ip_version ≡ 4) × IsCanonicalOf address asked)
    ⊎ (((db.metadata.ip_version ≢ 4) × Lacks db (V6 address) × IsCanonicalOf address asked)
    ⊎ ((db.metadata.ip_version ≢ 4) × (IsCanonicalOf address (V6 address) ⊎ HasOrFails db (V6 address)) × (asked ≡ V6 address)))
