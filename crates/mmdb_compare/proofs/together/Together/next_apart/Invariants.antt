use Rattle.std.proofs.Common.{◌-◌, ◌^◌}
use Rattle.mmdb_compare.specs.Parts.{start_of}
use Rattle.mmdb_compare.specs.WalkList.{abreast, AreOnWay}
use Rattle.mmdb_compare.proofs.together.Together.next_apart.Given as goal

-- what came before is passed, and the rest is left
abbrev pub invariant-loop-self : goal.invariant-loop-self
invariant-loop-self g l =
    let first = l.initial.self-inside in
    let inside = l.self-inside in
    AreOnWay (abreast first.at first.shown_at first.list.walks.items) (abreast inside.at inside.shown_at inside.list.walks.items) inside.are_even

-- each round passes an address
abbrev pub decreases-loop-self : goal.decreases-loop-self
decreases-loop-self g l = 2 ^ 128 - start_of l.self-inside.at
