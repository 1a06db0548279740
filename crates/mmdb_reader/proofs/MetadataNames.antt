-- Each name of the metadata comes at most once: the fields that were met know it.
use Rattle.std.proofs.Common.{◌≡◌, ℕ, List, Some, Bool, true, false, if◌then◌else◌, refl, is_some, codes}
use Rattle.mmdb_decode.specs.Arrays.{list_at}
use Rattle.mmdb_decode.specs.Maps.{text_map_at}
use Rattle.mmdb_decode.specs.Reading.{Reading, Meaning}
use Rattle.mmdb_decode.specs.Names.{named}
use Rattle.mmdb_record.specs.Records.{field, skipped}
use Rattle.mmdb_decode.specs.Scalars.{u16_at, u32_at, u64_at, text_at}
use Rattle.mmdb_record.specs.TypedReads.{IsKnown}
use Rattle.mmdb_record.proofs.RecordStandingLaws.{known_names_stand_once, field_fills, field_rejected, skipped_keeps}
use Rattle.mmdb_reader.specs.MetadataShape.{MetadataFields, no_metadata_fields, metadata_fields, MetadataNamesStandOnce}

-- no field that was met is emptied
record Keeps (x y : MetadataFields) : Type 0 where
  binary_format_major_version : is_some x.binary_format_major_version ≡ true → is_some y.binary_format_major_version ≡ true
  binary_format_minor_version : is_some x.binary_format_minor_version ≡ true → is_some y.binary_format_minor_version ≡ true
  build_epoch : is_some x.build_epoch ≡ true → is_some y.build_epoch ≡ true
  database_type : is_some x.database_type ≡ true → is_some y.database_type ≡ true
  description : is_some x.description ≡ true → is_some y.description ≡ true
  ip_version : is_some x.ip_version ≡ true → is_some y.ip_version ≡ true
  languages : is_some x.languages ≡ true → is_some y.languages ≡ true
  node_count : is_some x.node_count ≡ true → is_some y.node_count ≡ true
  record_size : is_some x.record_size ≡ true → is_some y.record_size ≡ true

-- a field that is read keeps the others, and is filled itself
module _ (s : List ℕ) (p d : ℕ) (x : MetadataFields) (y : Reading MetadataFields) where
  keeps_binary_format_major_version : field (λ v. record x { binary_format_major_version = v }) u16_at x.binary_format_major_version s p d ≡ Some y → Keeps x y.value
  keeps_binary_format_major_version h = let f = field_fills (λ v. record x { binary_format_major_version = v }) u16_at x.binary_format_major_version s p d y h in rw f.1 (record { binary_format_major_version = λ k. refl; binary_format_minor_version = λ k. k; build_epoch = λ k. k; database_type = λ k. k; description = λ k. k; ip_version = λ k. k; languages = λ k. k; node_count = λ k. k; record_size = λ k. k })

  keeps_binary_format_minor_version : field (λ v. record x { binary_format_minor_version = v }) u16_at x.binary_format_minor_version s p d ≡ Some y → Keeps x y.value
  keeps_binary_format_minor_version h = let f = field_fills (λ v. record x { binary_format_minor_version = v }) u16_at x.binary_format_minor_version s p d y h in rw f.1 (record { binary_format_major_version = λ k. k; binary_format_minor_version = λ k. refl; build_epoch = λ k. k; database_type = λ k. k; description = λ k. k; ip_version = λ k. k; languages = λ k. k; node_count = λ k. k; record_size = λ k. k })

  keeps_build_epoch : field (λ v. record x { build_epoch = v }) u64_at x.build_epoch s p d ≡ Some y → Keeps x y.value
  keeps_build_epoch h = let f = field_fills (λ v. record x { build_epoch = v }) u64_at x.build_epoch s p d y h in rw f.1 (record { binary_format_major_version = λ k. k; binary_format_minor_version = λ k. k; build_epoch = λ k. refl; database_type = λ k. k; description = λ k. k; ip_version = λ k. k; languages = λ k. k; node_count = λ k. k; record_size = λ k. k })

  keeps_database_type : field (λ v. record x { database_type = v }) text_at x.database_type s p d ≡ Some y → Keeps x y.value
  keeps_database_type h = let f = field_fills (λ v. record x { database_type = v }) text_at x.database_type s p d y h in rw f.1 (record { binary_format_major_version = λ k. k; binary_format_minor_version = λ k. k; build_epoch = λ k. k; database_type = λ k. refl; description = λ k. k; ip_version = λ k. k; languages = λ k. k; node_count = λ k. k; record_size = λ k. k })

  keeps_description : field (λ v. record x { description = v }) (text_map_at text_at) x.description s p d ≡ Some y → Keeps x y.value
  keeps_description h = let f = field_fills (λ v. record x { description = v }) (text_map_at text_at) x.description s p d y h in rw f.1 (record { binary_format_major_version = λ k. k; binary_format_minor_version = λ k. k; build_epoch = λ k. k; database_type = λ k. k; description = λ k. refl; ip_version = λ k. k; languages = λ k. k; node_count = λ k. k; record_size = λ k. k })

  keeps_ip_version : field (λ v. record x { ip_version = v }) u16_at x.ip_version s p d ≡ Some y → Keeps x y.value
  keeps_ip_version h = let f = field_fills (λ v. record x { ip_version = v }) u16_at x.ip_version s p d y h in rw f.1 (record { binary_format_major_version = λ k. k; binary_format_minor_version = λ k. k; build_epoch = λ k. k; database_type = λ k. k; description = λ k. k; ip_version = λ k. refl; languages = λ k. k; node_count = λ k. k; record_size = λ k. k })

  keeps_languages : field (λ v. record x { languages = v }) (list_at text_at) x.languages s p d ≡ Some y → Keeps x y.value
  keeps_languages h = let f = field_fills (λ v. record x { languages = v }) (list_at text_at) x.languages s p d y h in rw f.1 (record { binary_format_major_version = λ k. k; binary_format_minor_version = λ k. k; build_epoch = λ k. k; database_type = λ k. k; description = λ k. k; ip_version = λ k. k; languages = λ k. refl; node_count = λ k. k; record_size = λ k. k })

  keeps_node_count : field (λ v. record x { node_count = v }) u32_at x.node_count s p d ≡ Some y → Keeps x y.value
  keeps_node_count h = let f = field_fills (λ v. record x { node_count = v }) u32_at x.node_count s p d y h in rw f.1 (record { binary_format_major_version = λ k. k; binary_format_minor_version = λ k. k; build_epoch = λ k. k; database_type = λ k. k; description = λ k. k; ip_version = λ k. k; languages = λ k. k; node_count = λ k. refl; record_size = λ k. k })

  keeps_record_size : field (λ v. record x { record_size = v }) u16_at x.record_size s p d ≡ Some y → Keeps x y.value
  keeps_record_size h = let f = field_fills (λ v. record x { record_size = v }) u16_at x.record_size s p d y h in rw f.1 (record { binary_format_major_version = λ k. k; binary_format_minor_version = λ k. k; build_epoch = λ k. k; database_type = λ k. k; description = λ k. k; ip_version = λ k. k; languages = λ k. k; node_count = λ k. k; record_size = λ k. refl })

  keeps_all : skipped x s p d ≡ Some y → Keeps x y.value
  keeps_all h = rw (skipped_keeps x s p d y h) (record { binary_format_major_version = λ k. k; binary_format_minor_version = λ k. k; build_epoch = λ k. k; database_type = λ k. k; description = λ k. k; ip_version = λ k. k; languages = λ k. k; node_count = λ k. k; record_size = λ k. k })

  -- of what is chosen by a name, each choice keeps
  chosen : (b : Bool) (f g : Meaning MetadataFields) → (f s p d ≡ Some y → Keeps x y.value) → (g s p d ≡ Some y → Keeps x y.value) → (if b then f else g) s p d ≡ Some y → Keeps x y.value
  chosen true f g k l h = k h
  chosen false f g k l h = l h

  keeps : (name : List ℕ) → metadata_fields x name s p d ≡ Some y → Keeps x y.value
  unfolding metadata_fields
  keeps name =
      chosen (named name (codes "binary_format_major_version")) _ _ keeps_binary_format_major_version (
      chosen (named name (codes "binary_format_minor_version")) _ _ keeps_binary_format_minor_version (
      chosen (named name (codes "build_epoch")) _ _ keeps_build_epoch (
      chosen (named name (codes "database_type")) _ _ keeps_database_type (
      chosen (named name (codes "description")) _ _ keeps_description (
      chosen (named name (codes "ip_version")) _ _ keeps_ip_version (
      chosen (named name (codes "languages")) _ _ keeps_languages (
      chosen (named name (codes "node_count")) _ _ keeps_node_count (
      chosen (named name (codes "record_size")) _ _ keeps_record_size (
      keeps_all)))))))))

binary_format_major_version_known : IsKnown metadata_fields (codes "binary_format_major_version") (λ x. is_some x.binary_format_major_version)
unfolding metadata_fields named
binary_format_major_version_known = record {
  stays = λ x other s p d y k h. (keeps s p d x y other h).binary_format_major_version k;
  fills = λ x s p d y h. let f = field_fills (λ v. record x { binary_format_major_version = v }) u16_at x.binary_format_major_version s p d y h in rw f.1 refl;
  rejected = λ x s p d k. field_rejected (λ v. record x { binary_format_major_version = v }) u16_at x.binary_format_major_version s p d k;
}

binary_format_minor_version_known : IsKnown metadata_fields (codes "binary_format_minor_version") (λ x. is_some x.binary_format_minor_version)
unfolding metadata_fields named
binary_format_minor_version_known = record {
  stays = λ x other s p d y k h. (keeps s p d x y other h).binary_format_minor_version k;
  fills = λ x s p d y h. let f = field_fills (λ v. record x { binary_format_minor_version = v }) u16_at x.binary_format_minor_version s p d y h in rw f.1 refl;
  rejected = λ x s p d k. field_rejected (λ v. record x { binary_format_minor_version = v }) u16_at x.binary_format_minor_version s p d k;
}

build_epoch_known : IsKnown metadata_fields (codes "build_epoch") (λ x. is_some x.build_epoch)
unfolding metadata_fields named
build_epoch_known = record {
  stays = λ x other s p d y k h. (keeps s p d x y other h).build_epoch k;
  fills = λ x s p d y h. let f = field_fills (λ v. record x { build_epoch = v }) u64_at x.build_epoch s p d y h in rw f.1 refl;
  rejected = λ x s p d k. field_rejected (λ v. record x { build_epoch = v }) u64_at x.build_epoch s p d k;
}

database_type_known : IsKnown metadata_fields (codes "database_type") (λ x. is_some x.database_type)
unfolding metadata_fields named
database_type_known = record {
  stays = λ x other s p d y k h. (keeps s p d x y other h).database_type k;
  fills = λ x s p d y h. let f = field_fills (λ v. record x { database_type = v }) text_at x.database_type s p d y h in rw f.1 refl;
  rejected = λ x s p d k. field_rejected (λ v. record x { database_type = v }) text_at x.database_type s p d k;
}

description_known : IsKnown metadata_fields (codes "description") (λ x. is_some x.description)
unfolding metadata_fields named
description_known = record {
  stays = λ x other s p d y k h. (keeps s p d x y other h).description k;
  fills = λ x s p d y h. let f = field_fills (λ v. record x { description = v }) (text_map_at text_at) x.description s p d y h in rw f.1 refl;
  rejected = λ x s p d k. field_rejected (λ v. record x { description = v }) (text_map_at text_at) x.description s p d k;
}

ip_version_known : IsKnown metadata_fields (codes "ip_version") (λ x. is_some x.ip_version)
unfolding metadata_fields named
ip_version_known = record {
  stays = λ x other s p d y k h. (keeps s p d x y other h).ip_version k;
  fills = λ x s p d y h. let f = field_fills (λ v. record x { ip_version = v }) u16_at x.ip_version s p d y h in rw f.1 refl;
  rejected = λ x s p d k. field_rejected (λ v. record x { ip_version = v }) u16_at x.ip_version s p d k;
}

languages_known : IsKnown metadata_fields (codes "languages") (λ x. is_some x.languages)
unfolding metadata_fields named
languages_known = record {
  stays = λ x other s p d y k h. (keeps s p d x y other h).languages k;
  fills = λ x s p d y h. let f = field_fills (λ v. record x { languages = v }) (list_at text_at) x.languages s p d y h in rw f.1 refl;
  rejected = λ x s p d k. field_rejected (λ v. record x { languages = v }) (list_at text_at) x.languages s p d k;
}

node_count_known : IsKnown metadata_fields (codes "node_count") (λ x. is_some x.node_count)
unfolding metadata_fields named
node_count_known = record {
  stays = λ x other s p d y k h. (keeps s p d x y other h).node_count k;
  fills = λ x s p d y h. let f = field_fills (λ v. record x { node_count = v }) u32_at x.node_count s p d y h in rw f.1 refl;
  rejected = λ x s p d k. field_rejected (λ v. record x { node_count = v }) u32_at x.node_count s p d k;
}

record_size_known : IsKnown metadata_fields (codes "record_size") (λ x. is_some x.record_size)
unfolding metadata_fields named
record_size_known = record {
  stays = λ x other s p d y k h. (keeps s p d x y other h).record_size k;
  fills = λ x s p d y h. let f = field_fills (λ v. record x { record_size = v }) u16_at x.record_size s p d y h in rw f.1 refl;
  rejected = λ x s p d k. field_rejected (λ v. record x { record_size = v }) u16_at x.record_size s p d k;
}

pub metadata_names_stand_once : MetadataNamesStandOnce
metadata_names_stand_once s p d names x q c b h = (
  known_names_stand_once metadata_fields no_metadata_fields (codes "binary_format_major_version") (λ x. is_some x.binary_format_major_version) s p d names x q c b binary_format_major_version_known h,
  known_names_stand_once metadata_fields no_metadata_fields (codes "binary_format_minor_version") (λ x. is_some x.binary_format_minor_version) s p d names x q c b binary_format_minor_version_known h,
  known_names_stand_once metadata_fields no_metadata_fields (codes "build_epoch") (λ x. is_some x.build_epoch) s p d names x q c b build_epoch_known h,
  known_names_stand_once metadata_fields no_metadata_fields (codes "database_type") (λ x. is_some x.database_type) s p d names x q c b database_type_known h,
  known_names_stand_once metadata_fields no_metadata_fields (codes "description") (λ x. is_some x.description) s p d names x q c b description_known h,
  known_names_stand_once metadata_fields no_metadata_fields (codes "ip_version") (λ x. is_some x.ip_version) s p d names x q c b ip_version_known h,
  known_names_stand_once metadata_fields no_metadata_fields (codes "languages") (λ x. is_some x.languages) s p d names x q c b languages_known h,
  known_names_stand_once metadata_fields no_metadata_fields (codes "node_count") (λ x. is_some x.node_count) s p d names x q c b node_count_known h,
  known_names_stand_once metadata_fields no_metadata_fields (codes "record_size") (λ x. is_some x.record_size) s p d names x q c b record_size_known h,
)
