use Rattle.mmdb_section.specs.Encoding.{Appends}
use Rattle.mmdb_section.proofs.MovedLemmas.{MovesFirst}
use Rattle.mmdb_section.proofs.moved.put_parts.Given as goal

-- those so far were put
abbrev pub invariant-loop-left : goal.invariant-loop-left
invariant-loop-left l = Appends (MovesFirst l.section l.moved l.from l.count l.at l.left) l.fn.out.items l.out.items

abbrev pub decreases-loop-left : goal.decreases-loop-left
decreases-loop-left l = l.left
