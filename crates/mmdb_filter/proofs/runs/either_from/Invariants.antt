use Rattle.std.proofs.Common.{◌≡◌, ◌+◌, ◌-◌, ◌≤◌, length, drop}
use Rattle.std.specs.List.{prefix_len}
use Rattle.mmdb_filter.specs.Runs.{is_neither}
use Rattle.mmdb_filter.proofs.runs.either_from.Given as goal

abbrev pub invariant-loop-at : goal.invariant-loop-at
invariant-loop-at l =
    (l.from + prefix_len (is_neither l.first l.second) (drop l.from l.bytes) ≡ l.at + prefix_len (is_neither l.first l.second) (drop l.at l.bytes)) × (l.at ≤ length l.bytes) × (l.from ≤ l.at)

abbrev pub decreases-loop-at : goal.decreases-loop-at
decreases-loop-at l = length l.bytes - l.at
