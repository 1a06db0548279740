use Rattle.std.proofs.Common.{take}
use Rattle.mmdb_compare.specs.WalkList.{AreHere}
use Rattle.mmdb_compare.proofs.walk_list.WalkList.each_at.Given as goal

-- what the walks so far have
abbrev pub invariant-loop-walk : goal.invariant-loop-walk
invariant-loop-walk g l = AreHere (take l.walk-index l.self.walks.items) l.at l.all
