-- What is made of the arguments is what they ask for.
use Rattle.std.proofs.Common.{◌≡◌, ℕ, List, Option, Bool, ◌∙◌}
use Rattle.mmdb_addresses.specs.declared.readings.Reading.{Reading}
use Rattle.mmdb_arguments.specs.declared.request.EnrichArguments.{EnrichArguments}
use Rattle.mmdb_filter.specs.declared.rows.Rows.{Rows}
use Rattle.mmdb_reader.specs.declared.path.PathElement.{PathElement}
use Rattle.mmdb_cmd_enrich.specs.Tasks.{AreCellsAsked, IsMemberAsked, IsMemberOf, name_asked, reading_asked, rows_asked}
use Rattle.mmdb_cmd_enrich.specs.Template.{Template, cells, member}
use Rattle.mmdb_cmd_enrich.specs.declared.header.Columns.{Columns}
use Rattle.mmdb_cmd_enrich.specs.declared.task.JsonTask.{JsonTask}

pub cells_asked : (arguments : EnrichArguments) (columns : Columns) (rows : Rows) (reading : Reading) (column : ℕ) (breaks : Option ℕ) (network : Bool) (paths : List (List PathElement))
    → rows ≡ rows_asked arguments → reading ≡ reading_asked arguments → column ≡ columns.address → breaks ≡ columns.breaks → network ≡ arguments.network
    → AreCellsAsked arguments columns (cells rows reading column breaks network paths)
cells_asked arguments columns rows reading column breaks network paths of_rows of_reading of_column of_breaks of_network =
    (paths, λ i. cells (of_rows i) (of_reading i) (of_column i) (of_breaks i) (of_network i) paths)

pub member_asked : (arguments : EnrichArguments) (task : JsonTask) (template : Template)
    → task.reading ≡ reading_asked arguments → task.nulls ≡ arguments.nulls → task.into.now ≡ name_asked arguments → task.network ≡ arguments.network → IsMemberOf task template → IsMemberAsked arguments template
member_asked arguments task template of_reading of_nulls of_name of_network (kind, long, fields, network, is) =
    (kind, long, task.path.items, fields, network ∙ of_network, is ∙ (λ i. member kind long (of_reading i) task.path.items (of_nulls i) (of_name i) fields))
