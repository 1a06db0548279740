use Rattle.mmdb_cmd_diff.proofs.Gathering.{nothing-marked}
use Rattle.mmdb_cmd_diff.proofs.comparison.none_known.Goals as goal

pub returns : goal.returns
returns c index = nothing-marked 64 index
