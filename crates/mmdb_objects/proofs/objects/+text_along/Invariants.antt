use Rattle.std.proofs.Common.{length}
use Rattle.mmdb_objects.proofs.objects.+text_along.Given as goal

abbrev pub decreases-text_along : goal.decreases-text_along
decreases-text_along l = length l.path.now
