use Rattle.mmdb_cmd_diff.specs.Comparing.{AreMarked}
use Rattle.mmdb_cmd_diff.proofs.comparison.known_of.Given as goal

abbrev pub invariant-loop-index : goal.invariant-loop-index
invariant-loop-index l = AreMarked l.so_far.pairs.kept l.so_far.waiting.offsets.items l.known
