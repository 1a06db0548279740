use Rattle.mmdb_compare.specs.WalkList.{AreNarrowestUpTo}
use Rattle.mmdb_compare.proofs.walk_list.WalkList.narrowest_at.Given as goal

-- the narrowest of the networks so far
abbrev pub invariant-loop-walk : goal.invariant-loop-walk
invariant-loop-walk g l = AreNarrowestUpTo l.walk-index l.self.walks.items l.at l.all.block l.all.are_even
