-- What the arguments of `enrich` ask for.
use Rattle.std.specs.Prelude.{◌≡◌, ℕ, List, [], ◌∷◌, Option, Some, None, option_map, Bool, true, false, ◌==◌, if◌then◌else◌, codes}
use Rattle.mmdb_addresses.specs.declared.readings.Reading.{Reading}
use Rattle.mmdb_addresses.specs.declared.readings.Reading.TheVariants.{Exact, First, Last, Anywhere, LastAnywhere}
use Rattle.mmdb_arguments.specs.declared.request.EnrichArguments.{EnrichArguments}
use Rattle.mmdb_arguments.specs.declared.request.Hop.{Hop}
use Rattle.mmdb_arguments.specs.declared.request.Hop.TheVariants.{First as FirstHop, Last as LastHop}
use Rattle.mmdb_filter.specs.declared.rows.Rows.{Rows}
use Rattle.mmdb_filter.specs.declared.rows.Rows.TheVariants.{Lines, Csv}
use Rattle.mmdb_objects.specs.declared.step.PathStep.{PathStep}
use Rattle.mmdb_reader.specs.declared.path.PathElement.{PathElement}
use Rattle.mmdb_cmd_enrich.specs.Template.{Template, cells, member}
use Rattle.mmdb_cmd_enrich.specs.declared.header.Columns.{Columns}
use Rattle.mmdb_cmd_enrich.specs.declared.members.MemberKind.{MemberKind}
use Rattle.mmdb_cmd_enrich.specs.declared.members.MemberKind.TheVariants.{Fields, NetworkAndFields, Records}
use Rattle.mmdb_cmd_enrich.specs.declared.members.NamedField.{NamedField}
use Rattle.mmdb_cmd_enrich.specs.declared.task.JsonTask.{JsonTask}

-- lines with tabs between their cells, where nothing is said; else CSV, or lines where quotes mean nothing
abbrev pub rows_of_text : Option (List ℕ) → Bool → Rows
rows_of_text (Some (delimiter ∷ [])) no_quotes = if delimiter == 9 then Lines 9 else (if no_quotes then Lines delimiter else Csv delimiter)
rows_of_text _ no_quotes = Lines 9

-- where in a cell, a string or a row an address is looked for
abbrev pub reading_of : Hop → Bool → Bool → Reading
reading_of LastHop true exact = LastAnywhere
reading_of FirstHop true exact = Anywhere
reading_of hop false true = Exact
reading_of FirstHop false false = First
reading_of LastHop false false = Last

abbrev pub rows_asked : EnrichArguments → Rows
rows_asked arguments = rows_of_text (option_map (λ text. text.now) arguments.delimiter) arguments.no_quotes

abbrev pub reading_asked : EnrichArguments → Reading
reading_asked arguments = reading_of arguments.hop arguments.anywhere arguments.exact

-- the name of the member that objects get: `geo`, where nothing is said
abbrev pub name_or : Option (List ℕ) → List ℕ
name_or None = codes "geo"
name_or (Some name) = name

abbrev pub name_asked : EnrichArguments → List ℕ
name_asked arguments = name_or (option_map (λ text. text.now) arguments.into)

-- cells of fields, in rows whose address is in this column
abbrev pub AreCellsAsked : EnrichArguments → Columns → Template → Type 0
AreCellsAsked arguments columns template =
    (paths : List (List PathElement)) × (template ≡ cells (rows_asked arguments) (reading_asked arguments) columns.address columns.breaks arguments.network paths)

-- a member has the network of the address
abbrev pub has_network : MemberKind → Bool
has_network NetworkAndFields = true
has_network Fields = false
has_network Records = false

-- a member as a task of objects asks for it
abbrev pub IsMemberOf : JsonTask → Template → Type 0
IsMemberOf task template =
    (kind : MemberKind) × (long : Bool) × (fields : List NamedField) × (has_network kind ≡ task.network)
    × (template ≡ member kind long task.reading task.path.items task.nulls task.into.now fields)

-- a member of the name
abbrev pub IsMemberAsked : EnrichArguments → Template → Type 0
IsMemberAsked arguments template =
    (kind : MemberKind) × (long : Bool) × (path : List PathStep) × (fields : List NamedField) × (has_network kind ≡ arguments.network)
    × (template ≡ member kind long (reading_asked arguments) path arguments.nulls (name_asked arguments) fields)
