use Rattle.std.proofs.Common.{◌+◌, ◌*◌}
use Rattle.mmdb_cmd_build.proofs.plan.+plans.Given as goal

abbrev pub decreases-plan_of_array : goal.decreases-plan_of_array
decreases-plan_of_array l = 2 * l.steps + 1

abbrev pub decreases-plan_of_map : goal.decreases-plan_of_map
decreases-plan_of_map l = 2 * l.steps + 1

abbrev pub decreases-plan_of_parts : goal.decreases-plan_of_parts
decreases-plan_of_parts l = 2 * l.steps
