-- What the reading of a record by its table did.
use Rattle.std.specs.Prelude.{ℕ, List, Option, Bool, true, false, Result}
use Rattle.mmdb_decode.specs.declared.failed.Failed.{Failed}
use Rattle.mmdb_decode.specs.declared.items.Entries.{Entries}
use Rattle.mmdb_decode.specs.Reading.{Meaning}
use Rattle.mmdb_decode.specs.State.{State, decoded}
use Rattle.mmdb_decode.specs.Maps.{pairs_from, name_at, pairs_left}
use Rattle.mmdb_record.specs.Records.{once, FieldTaken, RestTaken}
use Rattle.mmdb_record.specs.Tables.{Table, Parts, part_once, parts_met, no_parts, fields_of, record_of, data_of}

-- the pairs that are left of a map, whose keys name the fields of a table
abbrev pub fields_left : {R : Type 0} → (t : Table R) → Parts t → Entries → Meaning (Parts t)
fields_left t p entries = pairs_from name_at (fields_of t) p (pairs_left entries)

-- What follows one name was read: what was read of the record before, and then.
abbrev pub TakesField : {R : Type 0} → Bool → (t : Table R) → List ℕ → Parts t → Parts t → State →
    State → Result (Unit {0}) Failed → Type 0
TakesField free t name before after old new r =
    FieldTaken free (decoded false (fields_of t before name) old) after old new r

-- The pairs that are left of a map were read into a record of which no field was met before, whatever parts
-- it has.
abbrev pub TakesPairs : {R : Type 0} → Bool → (t : Table R) → R → State → State → Entries → Entries →
    Result (Unit {0}) Failed → Type 0
TakesPairs free t v old new entries rest r =
    (met : List Bool) × RestTaken free (decoded false (fields_left t (no_parts t) entries) old) (parts_met t met v) old new entries rest r

-- a whole record was read, which begins a budget where none has begun
abbrev pub TakesRecord : {R : Type 0} → Bool → Table R → R → State → State →
    Result (Unit {0}) Failed → Type 0
TakesRecord free t v old new r = FieldTaken free (decoded true (record_of t) old) (data_of t v) old new r

-- a field that comes at most once was read into its slot: what the slot says before, and then
abbrev pub TakesOnce : {A : Type 0} → Bool → Meaning A → Option A → Option A → State → State →
    Result (Unit {0}) Failed → Type 0
TakesOnce free read before after old new r = FieldTaken free (decoded false (once read before) old) after old new r

-- the same of a part: whether it was met, with what it says, before, and then
abbrev pub TakesPart : {A : Type 0} → Bool → Meaning A → Bool × A → Bool × A → State → State →
    Result (Unit {0}) Failed → Type 0
TakesPart free read before after old new r = FieldTaken free (decoded false (part_once read before) old) after old new r
