use Rattle.std.proofs.Common.{map, take}
use Rattle.mmdb_compare.specs.Found.{numbered_ip, AreFoundAt}
use Rattle.mmdb_compare.specs.WalkList.{databases_of, held_at}
use Rattle.mmdb_compare.proofs.walk_list.WalkList.found.Given as goal

-- what is found in the walks so far
abbrev pub invariant-loop-walk : goal.invariant-loop-walk
invariant-loop-walk g l =
    let some = take l.walk-index l.self.walks.items in
    AreFoundAt (numbered_ip l.address) (databases_of some) (map (held_at l.at) some) l.all.items
