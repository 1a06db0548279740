-- A part that was read, kept with where its pairs are, so that it need not be read again there.
use Rattle.std.specs.Prelude.{◌≡◌, ℕ, List, Bool, Option, Some, None, false}
use Rattle.mmdb_record.specs.declared.memo.Place.{Place}
use Rattle.mmdb_record.specs.declared.fields.FieldsSeen.{FieldsSeen}
use Rattle.mmdb_decode.specs.Maps.{pairs_from, name_at}
use Rattle.mmdb_decode.specs.State.{decoded}
use Rattle.mmdb_record.specs.Tables.{Table, fields_of, no_parts, parts_met}

-- A record was read of the pairs at a place of this section: from the decoder before them, up to the one
-- after them.
abbrev pub IsPlaceOf : {R : Type 0} → Table R → Option Place → R → List ℕ → Type 0
IsPlaceOf t None v section = Unit {0}
IsPlaceOf t (Some m) v section =
    (m.before.section ≡ section)
    × ((met : List Bool) × (decoded false (pairs_from name_at (fields_of t) (no_parts t) m.count) m.before ≡ Some (parts_met t met v, m.behind)))

-- The part of a record that may be reused for another one, if there is such a part: its table, and where the
-- record keeps it.
pub data Kept (R : Type 0) : Type 1 where
  nothing : Kept R
  part_at : {T : Type 0} → Table T → (R → T) → Kept R

-- where such a part was met, it was read at the place that was noted
abbrev pub IsKept : {R : Type 0} → Kept R → FieldsSeen → R → List ℕ → Type 0
IsKept nothing seen v section = Unit {0}
IsKept (part_at t get) seen v section = IsPlaceOf t seen.9 (get v) section
