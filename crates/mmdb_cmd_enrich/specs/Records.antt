-- The records of an address in several databases, read as an array of them.
use Rattle.std.specs.Prelude.{ℕ, zero, suc, List, [], ◌∷◌, Option, Some, None}
use Rattle.std.specs.declared.convert.AsSlice.{Ghosts}
use Rattle.mmdb_format.specs.Unfolding.{Tree}
use Rattle.mmdb_reader.specs.File.{Database, data_section}
use Rattle.mmdb_reader.specs.declared.lookup_result.LookupResult.{LookupResult}
use Rattle.mmdb_reader.specs.declared.path.PathElement.{PathElement}
use Rattle.mmdb_reader.specs.declared.path.PathElement.TheVariants.{Key, Index, IndexFromEnd}
use Rattle.mmdb_layout.specs.Reading.{reads_in, reads_of}

-- what is read along a path in the record of the database of a number; nothing where there is no such record
abbrev pub record_read : List Database → List (Option ℕ) → ℕ → List PathElement → Option (Option Tree)
record_read [] offsets n path = Some None
record_read (db ∷ dbs) [] n path = Some None
record_read (db ∷ dbs) (offset ∷ offsets) zero path = reads_in (data_section db) offset path
record_read (db ∷ dbs) (offset ∷ offsets) (suc n) path = record_read dbs offsets n path

-- The first step of a path is the number of a database; the others lead on in its record.
abbrev pub each_read : List Database → List (Option ℕ) → List PathElement → Option (Option Tree)
each_read dbs offsets [] = Some None
each_read dbs offsets (Index n ∷ path) = record_read dbs offsets n path
each_read dbs offsets (Key name ∷ path) = Some None
each_read dbs offsets (IndexFromEnd n ∷ path) = Some None

-- the same of answers
abbrev pub answer_read : {S : Type 0} {G : Ghosts S ℕ} → List (Option (LookupResult S G)) → ℕ → List PathElement → Option (Option Tree)
answer_read [] n path = Some None
answer_read (answer ∷ answers) zero path = reads_of answer path
answer_read (answer ∷ answers) (suc n) path = answer_read answers n path

abbrev pub each_read_of : {S : Type 0} {G : Ghosts S ℕ} → List (Option (LookupResult S G)) → List PathElement → Option (Option Tree)
each_read_of answers [] = Some None
each_read_of answers (Index n ∷ path) = answer_read answers n path
each_read_of answers (Key name ∷ path) = Some None
each_read_of answers (IndexFromEnd n ∷ path) = Some None
