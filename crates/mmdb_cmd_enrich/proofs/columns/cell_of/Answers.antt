use Rattle.std.proofs.Common.{option_map, Some, ap, ◌∙◌}
use Rattle.mmdb_cmd_enrich.specs.Columns.{value_of}
use Rattle.mmdb_cmd_enrich.proofs.columns.cell_of.Goals as goal

pub returns-in-Some : goal.returns-in-Some
returns-in-Some c = ap Some c.value_of.ensures ∙ ap (option_map (value_of c.args.rows)) c.in-Some.ensures
