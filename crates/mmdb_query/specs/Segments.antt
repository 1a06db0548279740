-- What several databases have, as lists.
use Rattle.std.specs.Prelude.{ℕ, List, Option, map}
use Rattle.mmdb_reader.specs.File.{data_section}
use Rattle.mmdb_query.specs.declared.segment.DatabaseRecord.{DatabaseRecord}

module _ {S : Type 0} where
  -- their data sections
  abbrev pub sections_of : List (DatabaseRecord S) → List (List ℕ)
  sections_of records = map (λ r. data_section r.reader.now) records

  -- where they have their records
  abbrev pub offsets_of : List (DatabaseRecord S) → List (Option ℕ)
  offsets_of records = map (λ r. r.offset) records
