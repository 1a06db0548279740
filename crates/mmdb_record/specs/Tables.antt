-- Tables of fields: for each field of a record its name in the file, its shape, and where the record
-- keeps it.
use Rattle.std.specs.Prelude.{Vec, ℕ, List, [], ◌∷◌, Option, Some, None, Bool, true, false, option_map, map, if◌then◌else◌, is_none, ◌&&◌, nat_eq, length}
use Rattle.mmdb_decode.specs.Reading.{Meaning, mapped}
use Rattle.mmdb_decode.specs.Names.{named}
use Rattle.mmdb_record.specs.Records.{field, skipped, record_at, finished}
use Rattle.mmdb_decode.specs.Maps.{Fields}
use Rattle.mmdb_decode.specs.Arrays.{few_at}
use Rattle.mmdb_record.specs.FieldShapes.{Shape}
use Rattle.std.specs.declared.alloc.Global.{Global}
use Rattle.mmdb_record.specs.declared.fields.FieldsSeen.{FieldsSeen}

-- A field is optional, or a part, which has a value of its own where it is absent.
pub data Table (R : Type 0) : Type 1 where
  end : Table R
  optional : {T : Type 0} → List ℕ → Shape T → (R → Option T) → Table R → Table R
  part : {T : Type 0} → List ℕ → (shape : Shape T) → shape.Datum → (T → Bool) → (R → T) → Table R → Table R

-- what a record says
abbrev pub Data : {R : Type 0} → Table R → Type 0
Data end = Unit {0}
Data (optional name shape get rest) = Option shape.Datum × Data rest
Data (part name shape none is_absent get rest) = shape.Datum × Data rest

abbrev pub data_of : {R : Type 0} → (t : Table R) → R → Data t
data_of end v = tt
data_of (optional name shape get rest) v = (option_map shape.datum (get v), data_of rest v)
data_of (part name shape none is_absent get rest) v = (shape.datum (get v), data_of rest v)

-- what a record says none of whose fields is there
abbrev pub no_data : {R : Type 0} → (t : Table R) → Data t
no_data end = tt
no_data (optional name shape get rest) = (None, no_data rest)
no_data (part name shape none is_absent get rest) = (none, no_data rest)

-- whether every optional field is absent, at every level
abbrev pub absent : {R : Type 0} → Table R → R → Bool
absent end v = true
absent (optional name shape get rest) v = is_none (get v) && absent rest v
absent (part name shape none is_absent get rest) v = is_absent (get v) && absent rest v

-- What was read so far: of a part also whether it was met.
abbrev pub Parts : {R : Type 0} → Table R → Type 0
Parts end = Unit {0}
Parts (optional name shape get rest) = Option shape.Datum × Parts rest
Parts (part name shape none is_absent get rest) = (Bool × shape.Datum) × Parts rest

abbrev pub flags : FieldsSeen → List Bool
flags m = m.0 ∷ m.1 ∷ m.2 ∷ m.3 ∷ m.4 ∷ m.5 ∷ m.6 ∷ m.7 ∷ m.8 ∷ []

abbrev pub none_met : List Bool
none_met = false ∷ false ∷ false ∷ false ∷ false ∷ false ∷ false ∷ false ∷ false ∷ []

abbrev pub first_flag : List Bool → Bool
first_flag [] = false
first_flag (b ∷ bs) = b

abbrev pub other_flags : List Bool → List Bool
other_flags [] = []
other_flags (b ∷ bs) = bs

abbrev pub parts_met : {R : Type 0} → (t : Table R) → List Bool → R → Parts t
parts_met end met v = tt
parts_met (optional name shape get rest) met v = (option_map shape.datum (get v), parts_met rest met v)
parts_met (part name shape none is_absent get rest) met v = ((first_flag met, shape.datum (get v)), parts_met rest (other_flags met) v)

abbrev pub no_parts : {R : Type 0} → (t : Table R) → Parts t
no_parts end = tt
no_parts (optional name shape get rest) = (None, no_parts rest)
no_parts (part name shape none is_absent get rest) = ((false, none), no_parts rest)

abbrev pub all_parts : {R : Type 0} → (t : Table R) → Parts t → Data t
all_parts end p = tt
all_parts (optional name shape get rest) p = (p.0, all_parts rest p.1)
all_parts (part name shape none is_absent get rest) p = (p.0.1, all_parts rest p.1)

-- a part that comes at most once
abbrev pub part_once : {A : Type 0} → Meaning A → Bool × A → Meaning (Bool × A)
part_once read (false, v) = mapped (λ x. (true, x)) read
part_once read (true, v) = λ s p d. None

unfoldable pub part_field : {P A : Type 0} → (Bool × A → P) → Meaning A → Bool × A → Meaning P
part_field set read slot = mapped set (part_once read slot)

-- what a name makes of the fields so far
abbrev pub fields_into : {R P : Type 0} → (t : Table R) → (Parts t → P) → Parts t → List ℕ → Meaning P
fields_into end put p n = skipped (put tt)
fields_into (optional name shape get rest) put p n =
    if named n name then field (λ v. put (v, p.1)) shape.meaning p.0 else fields_into rest (λ q. put (p.0, q)) p.1 n
fields_into (part name shape none is_absent get rest) put p n =
    if named n name then part_field (λ v. put (v, p.1)) shape.meaning p.0 else fields_into rest (λ q. put (p.0, q)) p.1 n

unfoldable pub fields_of : {R : Type 0} → (t : Table R) → Fields (Parts t)
fields_of t p n = fields_into t (λ q. q) p n

-- the record that a table describes
abbrev pub whole_of : {R : Type 0} → (t : Table R) → Parts t → Option (Data t)
whole_of t p = Some (all_parts t p)

unfoldable pub record_of : {R : Type 0} → (t : Table R) → Meaning (Data t)
record_of t = finished (whole_of t) (record_at (fields_of t) (no_parts t))

abbrev pub record_shape : {R : Type 0} → Table R → Shape R
record_shape t = record { Datum = Data t; datum = data_of t; meaning = record_of t }

abbrev pub nested : {R T : Type 0} → List ℕ → Table T → (R → T) → Table R → Table R
nested name t get rest = part name (record_shape t) (no_data t) (absent t) get rest

-- one row after the other
infixr 4 ◌▹◌
abbrev pub ◌▹◌ : {R : Type 0} → (Table R → Table R) → Table R → Table R
row ▹ rest = row rest

-- a list of records, of at most 32
abbrev pub few_shape : {R : Type 0} → Table R → Shape (Vec R Global)
few_shape t = record { Datum = List (Data t); datum = λ v. map (data_of t) v.items; meaning = few_at 32 (record_of t) }

abbrev pub few : {R T : Type 0} → List ℕ → Table T → (R → Vec T Global) → Table R → Table R
few name t get rest = part name (few_shape t) [] (λ v. nat_eq (length v.items) 0) get rest
