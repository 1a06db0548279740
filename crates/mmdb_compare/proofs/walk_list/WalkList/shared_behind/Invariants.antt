use Rattle.std.proofs.Common.{take}
use Rattle.std.specs.List.{All}
use Rattle.mmdb_compare.specs.WalkList.{IsAtBlock}
use Rattle.mmdb_compare.proofs.walk_list.WalkList.shared_behind.Given as goal

-- the walks so far are at the network
abbrev pub invariant-loop-walk : goal.invariant-loop-walk
invariant-loop-walk g l = All (IsAtBlock l.block) (take l.walk-index l.self.walks.items)
