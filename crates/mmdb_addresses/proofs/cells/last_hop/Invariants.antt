use Rattle.std.proofs.Common.{◌≢◌, ◌<◌, ◌≤◌, ℕ, length, get_or}
use Rattle.mmdb_addresses.proofs.cells.last_hop.Given as goal

abbrev pub invariant-loop-at : goal.invariant-loop-at
invariant-loop-at l = record {
  within : l.at ≤ length l.cell;
  none : (k : ℕ) → l.at ≤ k → k < length l.cell → get_or l.cell k 0 ≢ 44;
}

abbrev pub decreases-loop-at : goal.decreases-loop-at
decreases-loop-at l = l.at
