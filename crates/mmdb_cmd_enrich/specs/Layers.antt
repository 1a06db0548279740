-- What several databases have for an address, in their order. One database is a list of one.
use Rattle.std.specs.Prelude.{◌≡◌, ◌⊎◌, ◌<◌, ◌+◌, ◌*◌, ℕ, List, [], ◌∷◌, length, Option, Some, None, IfSome, Bool, false, ◌||◌, is_some, ⊤}
use Rattle.std.specs.declared.net.ip_addr.IpAddr.{IpAddr}
use Rattle.mmdb_format.specs.Unfolding.{Tree}
use Rattle.mmdb_reader.specs.File.{Database, data_section}
use Rattle.mmdb_reader.specs.Lookup.{CanAsk, IsInvalidAt, Answers, outcome_at}
use Rattle.mmdb_reader.specs.declared.path.PathElement.{PathElement}
use Rattle.mmdb_layout.specs.Asked.{Asks}
use Rattle.mmdb_layout.specs.Reading.{reads_in, or_next}
use Rattle.mmdb_cmd_enrich.specs.declared.cache.RecordKeys.{RecordKeys}

-- Where a database has the record of an address: at an offset, or nowhere, also where it can't be asked for the address.
abbrev pub Has : Database → IpAddr → Option ℕ → Type 0
Has db address offset =
    (asked : IpAddr) × Asks db address asked × (((¬ CanAsk db asked) × (offset ≡ None)) ⊎ ((leaf : List Bool) × Answers db asked leaf (outcome_at offset)))

-- the same of each database, in their order
abbrev pub HaveAll : List Database → IpAddr → List (Option ℕ) → Type 0
HaveAll [] address [] = ⊤
HaveAll [] address (offset ∷ offsets) = ⊥
HaveAll (db ∷ dbs) address [] = ⊥
HaveAll (db ∷ dbs) address (offset ∷ offsets) = Has db address offset × HaveAll dbs address offsets

-- one of the databases can be asked for an address
abbrev pub CanAskAny : List Database → IpAddr → Type 0
CanAskAny [] address = ⊥
CanAskAny (db ∷ dbs) address = ((asked : IpAddr) × Asks db address asked × CanAsk db asked) ⊎ CanAskAny dbs address

-- none of the databases can be asked for an address
abbrev pub CanAskNone : List Database → IpAddr → Type 0
CanAskNone [] address = ⊤
CanAskNone (db ∷ dbs) address = ((asked : IpAddr) × Asks db address asked × (¬ CanAsk db asked)) × CanAskNone dbs address

-- the lookup of an address fails in a database
abbrev pub Rejects : Database → IpAddr → Type 0
Rejects db address = (asked : IpAddr) × Asks db address asked × IsInvalidAt db asked

-- the lookup of an address fails in one of the databases
abbrev pub AnyRejects : List Database → IpAddr → Type 0
AnyRejects [] address = ⊥
AnyRejects (db ∷ dbs) address = Rejects db address ⊎ AnyRejects dbs address

-- What is read along a path in the first record that has a value there: nothing where none has one, and no answer where a
-- record before that one can't be read.
abbrev pub first_read : List Database → List (Option ℕ) → List PathElement → Option (Option Tree)
first_read [] offsets path = Some None
first_read (db ∷ dbs) [] path = Some None
first_read (db ∷ dbs) (offset ∷ offsets) path = or_next (reads_in (data_section db) offset path) (first_read dbs offsets path)

-- one of the databases has a record
abbrev pub has_record : List (Option ℕ) → Bool
has_record [] = false
has_record (offset ∷ offsets) = is_some offset || has_record offsets

-- the digit of a number that says where a database has a record
abbrev pub digit_of : Option ℕ → ℕ
digit_of None = 0
digit_of (Some offset) = offset + 1

-- what a digit is below that says where a database has a record
abbrev pub radix_of : Database → ℕ
radix_of db = length (data_section db) + 1

-- the number of the digits of all databases, the first one's the highest, after a number before them
abbrev pub IsKeyFrom : ℕ → List Database → List (Option ℕ) → ℕ → Type 0
IsKeyFrom before [] [] key = key ≡ before
IsKeyFrom before [] (offset ∷ offsets) key = ⊥
IsKeyFrom before (db ∷ dbs) [] key = ⊥
IsKeyFrom before (db ∷ dbs) (offset ∷ offsets) key = (digit_of offset < radix_of db) × IsKeyFrom (before * radix_of db + digit_of offset) dbs offsets key

-- The number of where the records are. No two lists of offsets have the same. The first digit may be any.
abbrev pub IsKey : List Database → List (Option ℕ) → ℕ → Type 0
IsKey [] [] key = key ≡ 0
IsKey [] (offset ∷ offsets) key = ⊥
IsKey (db ∷ dbs) [] key = ⊥
IsKey (db ∷ dbs) (offset ∷ offsets) key = IsKeyFrom (digit_of offset) dbs offsets key

-- the number of where the records of an address are
abbrev pub IsKeyFor : List Database → IpAddr → ℕ → Type 0
IsKeyFor dbs address key = CanAskAny dbs address × (offsets : List (Option ℕ)) × HaveAll dbs address offsets × IsKey dbs offsets key

-- the number of where the first database has its record
abbrev pub IsFirstKey : List (Option ℕ) → ℕ → Type 0
IsFirstKey [] key = ⊥
IsFirstKey (offset ∷ offsets) key = offset ≡ Some key

-- what records are kept by: where all of them are, and where the first is
abbrev pub AreKeys : List Database → List (Option ℕ) → RecordKeys → Type 0
AreKeys dbs offsets keys = IfSome keys.all (IsKey dbs offsets) × IfSome keys.first (IsFirstKey offsets)

-- the same of the records of an address
abbrev pub AreKeysFor : List Database → IpAddr → RecordKeys → Type 0
AreKeysFor dbs address keys =
    ((keys.all ≡ None) × (keys.first ≡ None)) ⊎ (CanAskAny dbs address × (offsets : List (Option ℕ)) × HaveAll dbs address offsets × AreKeys dbs offsets keys)

-- What is read along a path in the first database's record, which has to have a value there.
abbrev pub value_only : Option (Option Tree) → Option (Option Tree)
value_only None = None
value_only (Some None) = None
value_only (Some (Some v)) = Some (Some v)

abbrev pub read_in_first : List Database → List (Option ℕ) → List PathElement → Option (Option Tree)
read_in_first [] offsets path = None
read_in_first (db ∷ dbs) [] path = None
read_in_first (db ∷ dbs) (offset ∷ offsets) path = value_only (reads_in (data_section db) offset path)
