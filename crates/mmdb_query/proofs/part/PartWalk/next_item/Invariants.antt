use Rattle.std.proofs.Common.{◌≡◌, []}
use Rattle.mmdb_query.specs.Walks.{Goes}
use Rattle.mmdb_query.specs.Parts.{ComesInPart}
use Rattle.mmdb_query.proofs.part.PartWalk.next_item.Given as goal

abbrev pub invariant-loop : goal.invariant-loop
invariant-loop g l = record {
  passed : Goes (λ p. ComesInPart p.kinds p.range (g.W.Walk.comes p.walk)) l.fn.self [] l.self;
  sections : g.W.Walk.sections l.self.walk ≡ g.W.Walk.sections l.fn.self.walk;
}
