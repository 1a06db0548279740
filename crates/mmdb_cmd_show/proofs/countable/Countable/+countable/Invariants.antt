use Rattle.std.proofs.Common.{◌+◌, ◌*◌}
use Rattle.mmdb_cmd_show.proofs.countable.Countable.+countable.Given as goal

-- what is below a value has fewer levels left
abbrev pub decreases-end_at : goal.decreases-end_at
decreases-end_at l = 2 * l.levels

abbrev pub decreases-end_of_items : goal.decreases-end_of_items
decreases-end_of_items l = 2 * l.levels + 1

abbrev pub decreases-end_of_pairs : goal.decreases-end_of_pairs
decreases-end_of_pairs l = 2 * l.levels + 1

abbrev pub decreases-is_good : goal.decreases-is_good
decreases-is_good l = 2 * l.levels + 1
