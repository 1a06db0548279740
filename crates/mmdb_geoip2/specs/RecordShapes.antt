-- How a record is decoded.
use Rattle.std.specs.Prelude.{true, false}
use Rattle.mmdb_record.specs.Shapes.{Decoding, IsShape}
use Rattle.mmdb_record.specs.Tables.{Table, Data, data_of, record_of}

-- A record says the data of its table's fields and is read by its table, exactly. It begins a budget; a
-- success takes no memory, since its texts are lent.
abbrev pub IsLentRecord : {R : Type 0} → (t : Table R) → Decoding R (Data t) → Type 0
IsLentRecord t of = IsShape of (data_of t) (record_of t) true true

-- the same of a record that holds a list, which takes memory
abbrev pub IsRecordWithList : {R : Type 0} → (t : Table R) → Decoding R (Data t) → Type 0
IsRecordWithList t of = IsShape of (data_of t) (record_of t) true false
