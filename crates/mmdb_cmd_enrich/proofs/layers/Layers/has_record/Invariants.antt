use Rattle.std.proofs.Common.{◌≡◌, drop, map}
use Rattle.mmdb_cmd_enrich.specs.Layers.{has_record}
use Rattle.mmdb_cmd_enrich.specs.Working.{offset_in}
use Rattle.mmdb_cmd_enrich.proofs.layers.Layers.has_record.Given as goal

abbrev pub invariant-loop-answer : goal.invariant-loop-answer
invariant-loop-answer g l = has_record (map offset_in l.fn.self.answers.items) ≡ has_record (map offset_in (drop l.answer-index l.fn.self.answers.items))
