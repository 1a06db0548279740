-- A record of one field, a number that may be missing.
use Rattle.std.specs.Prelude.{ℕ, Option, Some, None, if◌then◌else◌, codes}
use Rattle.mmdb_decode.specs.Reading.{Meaning}
use Rattle.mmdb_decode.specs.Scalars.{u16_at}
use Rattle.mmdb_decode.specs.Maps.{Fields}
use Rattle.mmdb_decode.specs.Names.{named}
use Rattle.mmdb_record.specs.Records.{field, skipped, record_at, finished}

-- what was read of it
pub record Lone : Type 0 where
  pub a : Option ℕ

abbrev pub no_lone : Lone
no_lone = record { a = None }

-- the field named "a" is a number of 16 bits, and any other is skipped
unfoldable pub lone_fields : Fields Lone
lone_fields p name =
    if named name (codes "a") then field (λ v. record p { a = v }) u16_at p.a else skipped p

-- a map whose keys name the fields, none of which must stand
abbrev pub lone_at : Meaning Lone
lone_at = finished Some (record_at lone_fields no_lone)
