-- Why no file is written.
use Rattle.std.specs.Prelude.{◌≡◌, ◌<◌, ◌≤◌, ◌^◌, ◌⊎◌, ℕ, String, List, [], length, Some, slice_get, string_bytes, ⊤}
use Rattle.std.specs.Global.{Global}
use Rattle.mmdb_net.specs.Network.{ip_of}
use Rattle.mmdb_net.specs.Address.{address_width}
use Rattle.mmdb_nodes.specs.declared.entry.IpVersion.{IpVersion}
use Rattle.mmdb_nodes.specs.declared.entry.IpVersion.TheVariants.{V4}
use Rattle.mmdb_value.specs.declared.any_value.Value.{Value}
use Rattle.mmdb_section.specs.Sections.{most_size}
use Rattle.mmdb_value.specs.Values.{value_tree}
use Rattle.mmdb_writer.specs.declared.error.WriteError.{WriteError}
use Rattle.mmdb_writer.specs.declared.error.WriteError.TheVariants as errors
use Rattle.mmdb_writer.specs.declared.limits.ValueError.{ValueError}
use Rattle.mmdb_writer.specs.declared.options.Options.{Options}
use Rattle.mmdb_writer.specs.declared.options.OptionsError.{OptionsError}
use Rattle.mmdb_writer.specs.declared.options.OptionsError.TheVariants.{NoType, NoDescription, TooLate}
use Rattle.mmdb_writer.specs.declared.row.Row.{Row}
use Rattle.mmdb_writer.specs.declared.row.RowError.{RowError}
use Rattle.mmdb_writer.specs.declared.row.RowError.TheVariants.{Ipv6, NoValue}
use Rattle.mmdb_writer.specs.Limits.{Exceeds}

-- There must be a type and a description, and a reader takes times of at most 63 bits ("Database Metadata").
abbrev pub IsWrongOption : Options → OptionsError → Type 0
IsWrongOption options NoType = string_bytes options.database_type ≡ []
IsWrongOption options NoDescription = options.description.entries ≡ []
IsWrongOption options TooLate = 2 ^ 63 ≤ options.build_epoch

-- A database of IPv4 has no networks of IPv6, and each row has one of `count` values, or none.
abbrev pub IsWrongRow : IpVersion → ℕ → Row → RowError → Type 0
IsWrongRow version count row Ipv6 = (version ≡ V4) × (address_width (ip_of row.network) ≡ 128)
IsWrongRow version count row NoValue = (index : ℕ) × (row.value ≡ Some index) × (count ≤ index)

-- the error is of no option, value or row
abbrev pub IsGeneral : WriteError → Type 0
IsGeneral errors.Memory = ⊤
IsGeneral errors.TooLarge = ⊤
IsGeneral errors.NotAsMeant = ⊤
IsGeneral (errors.Options error) = ⊥
IsGeneral (errors.Value index error) = ⊥
IsGeneral (errors.Row index error) = ⊥

-- the error is one of an option
abbrev pub IsOfOptions : WriteError → Type 0
IsOfOptions e = (error : OptionsError) × (e ≡ errors.Options error)

-- it is out of memory, or that the section is full, or of a value
abbrev pub IsOfValue : WriteError → Type 0
IsOfValue e = (e ≡ errors.Memory) ⊎ ((e ≡ errors.TooLarge) ⊎ ((index : ℕ) × (error : ValueError) × (e ≡ errors.Value index error)))

-- it is out of memory, or of a row
abbrev pub IsOfRow : WriteError → Type 0
IsOfRow e = (e ≡ errors.Memory) ⊎ ((index : ℕ) × (error : RowError) × (e ≡ errors.Row index error))

-- ---- metadata that are too large for the format

-- no header can say how many bytes the text has
abbrev pub IsLong : List ℕ → Type 0
IsLong text = most_size < length text

-- a language, or the text in it, is too long
pub record HasLongDescription (options : Options) : Type 0 where
  pub place : ℕ
  pub language : String Global
  pub text : String Global
  pub at : slice_get options.description.entries place ≡ Some (language, text)
  pub long : IsLong (string_bytes language) ⊎ IsLong (string_bytes text)

pub record HasLongLanguage (options : Options) : Type 0 where
  pub place : ℕ
  pub language : String Global
  pub at : slice_get options.languages.items place ≡ Some language
  pub long : IsLong (string_bytes language)

-- A text is too long, or there are more texts than a header can say.
abbrev pub IsDescriptionLarge : Options → Type 0
IsDescriptionLarge options = (most_size < length options.description.entries) ⊎ HasLongDescription options

abbrev pub AreLanguagesLarge : Options → Type 0
AreLanguagesLarge options = (most_size < length options.languages.items) ⊎ HasLongLanguage options

abbrev pub AreMetadataLarge : Options → Type 0
AreMetadataLarge options = IsLong (string_bytes options.database_type) ⊎ (IsDescriptionLarge options ⊎ AreLanguagesLarge options)

-- ---- errors

-- An option is wrong, and how; the value of the index exceeds a limit, and which one; or the row of the index is wrong, and how.
abbrev pub IsErrorOf : List Value → List Row → Options → WriteError → Type 0
IsErrorOf values rows options (errors.Options error) = IsWrongOption options error
IsErrorOf values rows options (errors.Value index error) = (value : Value) × (slice_get values index ≡ Some value) × Exceeds error (value_tree value)
IsErrorOf values rows options (errors.Row index error) = (row : Row) × (slice_get rows index ≡ Some row) × IsWrongRow options.ip_version (length values) row error
IsErrorOf values rows options errors.Memory = ⊤
IsErrorOf values rows options errors.TooLarge = ⊤
IsErrorOf values rows options errors.NotAsMeant = ⊤
