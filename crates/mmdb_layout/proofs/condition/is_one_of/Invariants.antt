use Rattle.std.proofs.Common.{map, take, false}
use Rattle.mmdb_layout.specs.Conditions.{SaysOneOf}
use Rattle.mmdb_layout.proofs.condition.is_one_of.Given as goal

abbrev pub invariant-loop-text : goal.invariant-loop-text
invariant-loop-text l = SaysOneOf l.own (map (λ t. t.now) (take l.text-index l.texts)) false
