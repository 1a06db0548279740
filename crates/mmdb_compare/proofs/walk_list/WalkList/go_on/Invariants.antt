use Rattle.mmdb_compare.specs.WalkList.{PassedUpTo}
use Rattle.mmdb_compare.proofs.walk_list.WalkList.go_on.Given as goal

-- the walks before the place were passed, and nothing is left out of any
abbrev pub invariant-loop-place : goal.invariant-loop-place
invariant-loop-place g l = PassedUpTo l.place l.initial.self.walks.items l.self.walks.items
