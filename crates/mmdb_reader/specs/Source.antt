-- Which files a reader opens, and what it then reads ("Overview" and "Database Metadata" of the MaxMind DB
-- File Format Specification 2.0).
use Rattle.std.specs.Prelude.{◌≡◌, ℕ, true, List, Option, Some}
use Rattle.mmdb_decode.specs.Errors.{answer}
use Rattle.mmdb_reader.specs.Metadata.{MetadataDatum}
use Rattle.mmdb_reader.specs.MetadataShape.{metadata_at}
use Rattle.mmdb_reader.specs.File.{Database, IsLastMarker, IsSupported, HasRoom, metadata_section}

-- what is read at the beginning of a metadata section, within the limits of reading
abbrev pub metadata_read : List ℕ → Option MetadataDatum
metadata_read section = answer true metadata_at section 0

-- The metadata that are in the section after a marker, within the limits of reading, are these, and a reader supports
-- them.
pub record IsValidMetadata (section : List ℕ) (metadata : MetadataDatum) : Type 0 where
  pub reads : metadata_read section ≡ Some metadata
  pub supported : IsSupported metadata

-- The file is this database: valid metadata are after its last marker, and the tree and the separator have room before
-- it.
pub record IsDatabaseOf (file : List ℕ) (db : Database) : Type 0 where
  pub bytes : db.bytes ≡ file
  pub marker : IsLastMarker file db.marker
  pub metadata : IsValidMetadata (metadata_section file db.marker) db.metadata
  pub room : HasRoom db

-- the file is no database
abbrev pub IsNoDatabase : List ℕ → Type 0
IsNoDatabase file = (db : Database) → ¬ IsDatabaseOf file db

-- The bytes of a file decide whether it is a database, and which.
abbrev pub SourceDecides : Type 0
SourceDecides = (file : List ℕ) (a b : Database) → IsDatabaseOf file a → IsDatabaseOf file b → a ≡ b
