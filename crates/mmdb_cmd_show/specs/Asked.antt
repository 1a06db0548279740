-- What databases that are asked in turn have for an address.
use Rattle.std.specs.Prelude.{◌≡◌, ◌≢◌, ◌⊎◌, List, [], ◌∷◌, ℕ, Bool, Option, Some, None, Result, Ok, Err}
use Rattle.std.specs.Net.Addr.{MatchIp, IsIpv4Mapped, ipv6_segments}
use Rattle.std.specs.declared.net.ip_addr.IpAddr.{IpAddr}
use Rattle.mmdb_format.specs.Unfolding.{Tree}
use Rattle.mmdb_reader.specs.File.{Database, data_section}
use Rattle.mmdb_reader.specs.Lookup.{CanAsk, IsInvalidAt, Answers, outcome_at}
use Rattle.mmdb_reader.specs.declared.path.PathElement.{PathElement}
use Rattle.mmdb_layout.specs.Asked.{Asks}
use Rattle.mmdb_layout.specs.Reading.{reads_in}
use Rattle.mmdb_cmd_show.specs.declared.databases.ShownDatabase.{ShownDatabase}
use Rattle.mmdb_cmd_show.specs.declared.databases.ReadError.{ReadError}
use Rattle.mmdb_cmd_show.specs.declared.databases.ReadError.TheVariants.{Memory, Unread}

-- a lookup of an address fails
abbrev pub Rejects : Database → IpAddr → Type 0
Rejects db address = (¬ CanAsk db address) ⊎ IsInvalidAt db address

-- a lookup of an address finds the record at an offset, or none
abbrev pub Finds : Database → IpAddr → Option ℕ → Type 0
Finds db address offset = (leaf : List Bool) × Answers db address leaf (outcome_at offset)

-- What is read along a path in the record that a database has for an address: a value, or nothing. There is no answer where
-- the lookup fails, or the record can't be read so.
abbrev pub Reads : Database → IpAddr → List PathElement → Option (Option Tree) → Type 0
Reads db address path read =
    (asked : IpAddr) × Asks db address asked
    × ((Rejects db asked × (read ≡ None))
    ⊎ ((offset : Option ℕ) × Finds db asked offset × (read ≡ reads_in (data_section db) offset path)))

-- an address is one of IPv4, or mapped to one
abbrev pub IsOfIpv4 : IpAddr → Type 0
IsOfIpv4 address = MatchIp address (λ _. Unit {0}) (λ a. IsIpv4Mapped (ipv6_segments a))

-- a database can be asked for an address: of IPv6 alone it knows some only if it has IPv6
abbrev pub CanBeAsked : Database → IpAddr → Type 0
CanBeAsked db address = IsOfIpv4 address ⊎ (db.metadata.ip_version ≢ 4)

abbrev pub CanOneBeAsked : List ShownDatabase → IpAddr → Type 0
CanOneBeAsked [] address = ⊥
CanOneBeAsked (shown ∷ others) address = CanBeAsked shown.database.now address ⊎ CanOneBeAsked others address

-- one of the databases is passed over: it can't be asked for an address, and another one can
abbrev pub IsPassed : List ShownDatabase → Database → IpAddr → Type 0
IsPassed all db address = (¬ CanBeAsked db address) × CanOneBeAsked all address

-- What one of the databases has along a path: nothing where it is passed over, and else what is read there.
abbrev pub Has : List ShownDatabase → ShownDatabase → IpAddr → List PathElement → Option (Option Tree) → Type 0
Has all shown address path read =
    (IsPassed all shown.database.now address × (read ≡ Some None))
    ⊎ ((¬ IsPassed all shown.database.now address) × Reads shown.database.now address path read)

-- The same of those databases that are asked in turn, beside all of them: the value of the first that has one, nothing where none
-- has, or the name of one where it can't be read, before which none has one.
abbrev pub FindsAmong : List ShownDatabase → List ShownDatabase → IpAddr → List PathElement → Result (Option Tree) (List ℕ) → Type 0
FindsAmong all [] address path found = found ≡ Ok None
FindsAmong all (shown ∷ others) address path found =
    (Has all shown address path (Some None) × FindsAmong all others address path found)
    ⊎ (((value : Tree) × Has all shown address path (Some (Some value)) × (found ≡ Ok (Some value)))
    ⊎ (Has all shown address path None × (found ≡ Err shown.name.now)))

-- What databases have along a path that are asked in turn.
abbrev pub FindsFirst : List ShownDatabase → IpAddr → List PathElement → Result (Option Tree) (List ℕ) → Type 0
FindsFirst databases address path found = FindsAmong databases databases address path found

-- unless memory ran out, this holds of the name of the database with the error
abbrev pub OfName : ReadError → (List ℕ → Type 0) → Type 0
OfName Memory P = Unit {0}
OfName (Unread name error) P = P name.now
