use Rattle.std.proofs.Common.{map, take}
use Rattle.std.specs.List.{All}
use Rattle.mmdb_layout.specs.Numbers.{IsBeyond}
use Rattle.mmdb_layout.proofs.number.is_beyond_all.Given as goal

abbrev pub invariant-loop-bound : goal.invariant-loop-bound
invariant-loop-bound l = All (IsBeyond l.side l.own) (map (λ t. t.now) (take l.bound-index l.bounds))
