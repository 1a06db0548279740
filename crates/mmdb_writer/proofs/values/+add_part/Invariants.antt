use Rattle.std.proofs.Common.{map, take}
use Rattle.mmdb_value.specs.Values.{value_tree}
use Rattle.mmdb_writer.specs.Working.{PutsParts, PutsPairs}
use Rattle.mmdb_writer.proofs.values.+add_part.Given as goal

-- the parts so far stand for the values so far
abbrev pub invariant-loop-value : goal.invariant-loop-value
invariant-loop-value l = PutsParts (map value_tree (take l.value-index l.value-items)) l.fn.section l.section l.parts.items

abbrev pub invariant-loop-pair : goal.invariant-loop-pair
invariant-loop-pair l = PutsPairs (map (λ x. (x.0.now, value_tree x.1)) (take l.pair-index l.pair-items)) l.fn.section l.section l.parts.items
