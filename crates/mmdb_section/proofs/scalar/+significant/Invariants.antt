use Rattle.std.proofs.Common.{length}
use Rattle.mmdb_section.proofs.scalar.+significant.Given as goal

abbrev pub decreases-significant : goal.decreases-significant
decreases-significant l = length l.bytes.now
