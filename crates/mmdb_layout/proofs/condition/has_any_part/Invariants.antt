use Rattle.std.proofs.Common.{map, take, false}
use Rattle.mmdb_layout.specs.Conditions.{SaysAnyPart}
use Rattle.mmdb_layout.proofs.condition.has_any_part.Given as goal

abbrev pub invariant-loop-text : goal.invariant-loop-text
invariant-loop-text l = SaysAnyPart l.own (map (λ t. t.now) (take l.text-index l.texts)) false
