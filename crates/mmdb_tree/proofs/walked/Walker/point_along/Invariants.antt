use Rattle.std.proofs.Common.{◌-◌, ◌≤◌, take}
use Rattle.mmdb_net.specs.Bits.{bits_of}
use Rattle.mmdb_tree.specs.Walked.{walked_by}
use Rattle.mmdb_tree.specs.Working.{IsPointAt}
use Rattle.mmdb_tree.proofs.walked.Walker.point_along.Given as goal

abbrev pub invariant-loop-point : goal.invariant-loop-point
invariant-loop-point l = record {
  within : l.point.prefix ≤ l.prefix;
  at : IsPointAt (walked_by l.self) (take l.point.prefix (bits_of l.self.width l.address)) l.point;
}

abbrev pub decreases-loop-point : goal.decreases-loop-point
decreases-loop-point l = l.prefix - l.point.prefix
