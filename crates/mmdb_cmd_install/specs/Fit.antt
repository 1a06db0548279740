-- Which bytes may take a file's place.
use Rattle.std.specs.Prelude.{ℕ, List}
use Rattle.mmdb_reader.specs.File.{Database}
use Rattle.mmdb_reader.specs.Source.{IsDatabaseOf}
use Rattle.mmdb_reader.specs.Whole.{IsWhole, HasReadableRecords}

-- They are a database, which is whole, and all its records can be read.
abbrev pub IsFit : List ℕ → Type 0
IsFit bytes = (db : Database) × IsDatabaseOf bytes db × IsWhole db × HasReadableRecords db
