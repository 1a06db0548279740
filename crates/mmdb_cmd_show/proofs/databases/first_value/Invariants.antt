use Rattle.std.proofs.Common.{ℕ, List, drop, Option, Result}
use Rattle.mmdb_format.specs.Unfolding.{Tree}
use Rattle.mmdb_cmd_show.specs.Asked.{FindsAmong, FindsFirst}
use Rattle.mmdb_cmd_show.proofs.databases.first_value.Given as goal

-- what those that are left find is found
abbrev pub invariant-loop-shown : goal.invariant-loop-shown
invariant-loop-shown l =
    (found : Result (Option Tree) (List ℕ)) → FindsAmong l.databases (drop l.shown-index l.databases) l.address l.path found → FindsFirst l.databases l.address l.path found
