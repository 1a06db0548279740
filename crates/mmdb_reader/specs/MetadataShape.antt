-- The shape of metadata ("Database Metadata" of the MaxMind DB File Format Specification 2.0): a map whose
-- keys name the nine fields, each of exactly its type, all of which must be there.
use Rattle.std.specs.Prelude.{ℕ, List, Option, Some, None, if◌then◌else◌, codes}
use Rattle.mmdb_format.specs.Header.{◌>>=◌}
use Rattle.mmdb_decode.specs.Reading.{Meaning}
use Rattle.mmdb_decode.specs.Scalars.{u16_at, u32_at, u64_at, text_at}
use Rattle.mmdb_decode.specs.Arrays.{list_at}
use Rattle.mmdb_decode.specs.Maps.{Fields, text_map_at}
use Rattle.mmdb_decode.specs.Names.{named}
use Rattle.mmdb_record.specs.Records.{field, skipped, record_at, finished}
use Rattle.mmdb_record.specs.TypedReads.{RecordStands, StandsOnce}
use Rattle.mmdb_reader.specs.Metadata.{MetadataDatum}

-- the fields that were met so far
pub record MetadataFields : Type 0 where
  pub binary_format_major_version : Option ℕ
  pub binary_format_minor_version : Option ℕ
  pub build_epoch : Option ℕ
  pub database_type : Option (List ℕ)
  pub description : Option (List (List ℕ × List ℕ))
  pub ip_version : Option ℕ
  pub languages : Option (List (List ℕ))
  pub node_count : Option ℕ
  pub record_size : Option ℕ

abbrev pub no_metadata_fields : MetadataFields
no_metadata_fields = record {
  binary_format_major_version = None;
  binary_format_minor_version = None;
  build_epoch = None;
  database_type = None;
  description = None;
  ip_version = None;
  languages = None;
  node_count = None;
  record_size = None;
}

-- what each name makes of the fields so far
unfoldable pub metadata_fields : Fields MetadataFields
metadata_fields p name =
    if named name (codes "binary_format_major_version") then field (λ v. record p { binary_format_major_version = v }) u16_at p.binary_format_major_version
    else (if named name (codes "binary_format_minor_version") then field (λ v. record p { binary_format_minor_version = v }) u16_at p.binary_format_minor_version
    else (if named name (codes "build_epoch") then field (λ v. record p { build_epoch = v }) u64_at p.build_epoch
    else (if named name (codes "database_type") then field (λ v. record p { database_type = v }) text_at p.database_type
    else (if named name (codes "description") then field (λ v. record p { description = v }) (text_map_at text_at) p.description
    else (if named name (codes "ip_version") then field (λ v. record p { ip_version = v }) u16_at p.ip_version
    else (if named name (codes "languages") then field (λ v. record p { languages = v }) (list_at text_at) p.languages
    else (if named name (codes "node_count") then field (λ v. record p { node_count = v }) u32_at p.node_count
    else (if named name (codes "record_size") then field (λ v. record p { record_size = v }) u16_at p.record_size
    else skipped p))))))))

-- the metadata, where no field is missing
unfoldable pub whole_metadata : MetadataFields → Option MetadataDatum
whole_metadata p =
    p.binary_format_major_version >>= λ major. p.binary_format_minor_version >>= λ minor.
    p.build_epoch >>= λ build_epoch. p.database_type >>= λ database_type. p.description >>= λ description.
    p.ip_version >>= λ ip_version. p.languages >>= λ languages. p.node_count >>= λ node_count.
    p.record_size >>= λ record_size.
    Some (record {
      binary_format_major_version = major;
      binary_format_minor_version = minor;
      build_epoch = build_epoch;
      database_type = database_type;
      description = description;
      ip_version = ip_version;
      languages = languages;
      node_count = node_count;
      record_size = record_size;
    })

-- the metadata that are at a place
abbrev pub metadata_at : Meaning MetadataDatum
metadata_at = finished whole_metadata (record_at metadata_fields no_metadata_fields)

-- each of the nine names comes at most once among these
abbrev pub MetadataNamesOnce : List (List ℕ) → Type 0
MetadataNamesOnce names =
    StandsOnce names (codes "binary_format_major_version")
    × StandsOnce names (codes "binary_format_minor_version")
    × StandsOnce names (codes "build_epoch")
    × StandsOnce names (codes "database_type")
    × StandsOnce names (codes "description")
    × StandsOnce names (codes "ip_version")
    × StandsOnce names (codes "languages")
    × StandsOnce names (codes "node_count")
    × StandsOnce names (codes "record_size")

-- in metadata that are there, each of the nine names comes at most once: a map that repeats one is not read
abbrev pub MetadataNamesStandOnce : Type 0
MetadataNamesStandOnce =
    (s : List ℕ) (p d : ℕ) (names : List (List ℕ)) (x : MetadataFields) (q c b : ℕ) →
    RecordStands metadata_fields no_metadata_fields s p d names x q c b → MetadataNamesOnce names
