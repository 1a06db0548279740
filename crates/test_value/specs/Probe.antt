-- A record of two fields, either of which may be missing: a number and a text.
use Rattle.std.specs.Prelude.{ℕ, List, Option, None, if◌then◌else◌, codes, option_map}
use Rattle.mmdb_decode.specs.Reading.{Meaning}
use Rattle.mmdb_decode.specs.Scalars.{u16_at, text_at}
use Rattle.mmdb_decode.specs.Maps.{Fields}
use Rattle.mmdb_decode.specs.Names.{named}
use Rattle.mmdb_record.specs.Records.{field, skipped, record_at}
use Rattle.test_value.specs.declared.probe.Probe.{Probe as Read}

-- what was read of a probe
pub record Probe : Type 0 where
  pub a : Option ℕ
  pub k : Option (List ℕ)

-- what the fields say, apart from where they lie in memory
abbrev pub fields_of : Read → Probe
fields_of v = record { a = v.a; k = option_map (λ s. s.now) v.k }

abbrev pub no_probe : Probe
no_probe = record { a = None; k = None }

-- the field named "a" is a number of 16 bits, the one named "k" a text, and any other is skipped
unfoldable pub probe_fields : Fields Probe
probe_fields p name =
    if named name (codes "a") then field (λ v. record p { a = v }) u16_at p.a
    else (if named name (codes "k") then field (λ v. record p { k = v }) text_at p.k
    else skipped p)

-- a map whose keys name the fields, none of which must stand
abbrev pub probe_at : Meaning Probe
probe_at = record_at probe_fields no_probe
