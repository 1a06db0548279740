use Rattle.std.proofs.Common.{◌≡◌, ◌-◌, ◌≤◌, length}
use Rattle.mmdb_costs.proofs.Reading.{AreReadableBelow}
use Rattle.mmdb_costs.proofs.checked_records.check_each.Given as goal

abbrev pub invariant-loop-offset : goal.invariant-loop-offset
invariant-loop-offset l = record {
  same : l.costs ≡ l.initial.costs;
  within : l.next ≤ length l.offsets;
  below : AreReadableBelow l.section l.offsets l.next;
}

abbrev pub decreases-loop-offset : goal.decreases-loop-offset
decreases-loop-offset l = length l.offsets - l.next
