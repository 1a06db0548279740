-- What contracts see of a lookup's result.
use Rattle.std.specs.Prelude.{ℕ, Bool, List, Option, nat_eq}
use Rattle.std.specs.declared.convert.AsSlice.{Ghosts}
use Rattle.mmdb_reader.specs.declared.lookup_result.LookupResult.{LookupResult}
use Rattle.mmdb_reader.specs.declared.record.Record.{Record}
use Rattle.mmdb_reader.specs.File.{Database, data_section}
use Rattle.mmdb_reader.specs.Numbered.{numbered_block}

-- the database that was asked
abbrev pub database_asked : {S : Type 0} {G : Ghosts S ℕ} → LookupResult S G → Database
database_asked r = r.reader.now

-- its data section
abbrev pub section_asked : {S : Type 0} {G : Ghosts S ℕ} → LookupResult S G → List ℕ
section_asked r = data_section (database_asked r)

-- the leaf that the result is of
abbrev pub leaf_of : {S : Type 0} {G : Ghosts S ℕ} → LookupResult S G → List Bool
leaf_of r = numbered_block r.reader.now r.address.width r.address.bits r.prefix

-- the offset of the leaf's value in the data section, if it has one
abbrev pub offset_found : {S : Type 0} {G : Ghosts S ℕ} → LookupResult S G → Option ℕ
offset_found r = r.offset

-- whether the leaf is shown as an IPv4 network
abbrev pub shown_as_ipv4 : {S : Type 0} {G : Ghosts S ℕ} → LookupResult S G → Bool
shown_as_ipv4 r = nat_eq r.address.width 32

-- the data section of a record's database
abbrev pub section_of_record : {S : Type 0} → Record S → List ℕ
section_of_record r = data_section r.reader.now

-- its offset there
abbrev pub place_of_record : {S : Type 0} → Record S → ℕ
place_of_record r = r.offset
