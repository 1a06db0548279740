use Rattle.std.proofs.Common.{◌-◌}
use Rattle.mmdb_decode.proofs.whole.+whole_at.Given as goal

abbrev pub decreases-whole_at : goal.decreases-whole_at
decreases-whole_at l = 512 - l.levels
