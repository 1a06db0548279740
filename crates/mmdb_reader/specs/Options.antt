-- What is asked of a list of networks.
use Rattle.std.specs.Prelude.{Bool, true, false}
use Rattle.mmdb_reader.specs.declared.options.WithinOptions.{WithinOptions}

-- networks below aliases are listed
abbrev pub includes_aliased : WithinOptions → Bool
includes_aliased options = options.aliased_networks

-- networks without data are listed
abbrev pub includes_without_data : WithinOptions → Bool
includes_without_data options = options.networks_without_data

-- networks whose value is an empty map or array are left out
abbrev pub skips_empty : WithinOptions → Bool
skips_empty options = options.empty_values_skipped

-- all three off
abbrev pub default_options : WithinOptions
default_options = record { aliased_networks = false; networks_without_data = false; empty_values_skipped = false }

-- the options with one of them on
abbrev pub with_aliased : WithinOptions → WithinOptions
with_aliased options = record options { aliased_networks = true }

abbrev pub with_networks_without_data : WithinOptions → WithinOptions
with_networks_without_data options = record options { networks_without_data = true }

abbrev pub with_empty_skipped : WithinOptions → WithinOptions
with_empty_skipped options = record options { empty_values_skipped = true }
