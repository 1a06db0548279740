use Rattle.std.proofs.Common.{◌+◌, ◌*◌}
use Rattle.mmdb_cmd_show.proofs.fields.FieldPaths.+walks.Given as goal

-- what is below a value has fewer levels left
abbrev pub decreases-walk_items : goal.decreases-walk_items
decreases-walk_items l = 2 * l.levels + 1

abbrev pub decreases-walk_pairs : goal.decreases-walk_pairs
decreases-walk_pairs l = 2 * l.levels + 1

abbrev pub decreases-walk_part : goal.decreases-walk_part
decreases-walk_part l = 2 * l.levels

abbrev pub decreases-walk_target : goal.decreases-walk_target
decreases-walk_target l = 2 * l.levels + 1
