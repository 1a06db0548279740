use Rattle.std.proofs.Common.{drop}
use Rattle.mmdb_cmd_enrich.proofs.NetworkLaws.{SmallestWay}
use Rattle.mmdb_cmd_enrich.proofs.layers.Layers.smallest_network.Given as goal

abbrev pub invariant-loop-answer : goal.invariant-loop-answer
invariant-loop-answer g l = SmallestWay l.fn.self.answers.items (drop l.answer-index l.fn.self.answers.items) l.smallest
