-- The metadata of a database, as plain data ("Database Metadata" of the MaxMind DB File Format Specification 2.0).
use Rattle.std.specs.Prelude.{ℕ, List, map, string_bytes}
use Rattle.mmdb_reader.specs.declared.metadata.Metadata.{Metadata}

-- the nine fields; texts are their bytes, and `description` is its entries in the order of their keys
pub record MetadataDatum : Type 0 where
  pub binary_format_major_version : ℕ
  pub binary_format_minor_version : ℕ
  pub build_epoch : ℕ
  pub database_type : List ℕ
  pub description : List (List ℕ × List ℕ)
  pub ip_version : ℕ
  pub languages : List (List ℕ)
  pub node_count : ℕ
  pub record_size : ℕ

-- what a value of `Metadata` says
abbrev pub metadata_datum : Metadata → MetadataDatum
metadata_datum m = record {
  binary_format_major_version = m.binary_format_major_version;
  binary_format_minor_version = m.binary_format_minor_version;
  build_epoch = m.build_epoch;
  database_type = string_bytes m.database_type;
  description = map (λ e. (string_bytes e.0, string_bytes e.1)) m.description.entries;
  ip_version = m.ip_version;
  languages = map string_bytes m.languages.items;
  node_count = m.node_count;
  record_size = m.record_size;
}
