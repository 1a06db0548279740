use Rattle.mmdb_compare.specs.WalkList.{GoneUpTo}
use Rattle.mmdb_compare.proofs.walk_list.WalkList.go_to.Given as goal

-- the walks before the place went on, and nothing is left out of any
abbrev pub invariant-loop-place : goal.invariant-loop-place
invariant-loop-place g l = GoneUpTo l.place l.at l.initial.self.walks.items l.self.walks.items
