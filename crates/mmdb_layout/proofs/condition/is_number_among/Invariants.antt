use Rattle.std.proofs.Common.{map, take, false}
use Rattle.mmdb_value.specs.Values.{value_tree}
use Rattle.mmdb_layout.specs.Conditions.{SaysNumberOf}
use Rattle.mmdb_layout.proofs.condition.is_number_among.Given as goal

abbrev pub invariant-loop-text : goal.invariant-loop-text
invariant-loop-text l = SaysNumberOf (value_tree l.value) l.json (map (λ t. t.now) (take l.text-index l.texts)) false
