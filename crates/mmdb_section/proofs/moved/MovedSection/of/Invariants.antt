use Rattle.mmdb_section.specs.MovedWorking.{IsMovedBefore}
use Rattle.mmdb_section.proofs.moved.MovedSection.of.Given as goal

-- the values so far were moved
abbrev pub invariant-loop : goal.invariant-loop
invariant-loop l = IsMovedBefore l.section l.at l.now
