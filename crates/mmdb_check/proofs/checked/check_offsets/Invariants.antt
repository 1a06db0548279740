use Rattle.std.proofs.Common.{◌≡◌, ◌↔◌, ◌-◌, ◌≤◌, drop, false, length}
use Rattle.mmdb_check.specs.Checking.{CanAddAll}
use Rattle.mmdb_offsets.specs.OffsetSet.{holds, offsets_from, offsets_of}
use Rattle.mmdb_check.proofs.checked.check_offsets.Given as goal

abbrev pub invariant-loop-offset : goal.invariant-loop-offset
invariant-loop-offset l = record {
  section : l.c.section ≡ l.initial.c.section;
  going : l.c.failed ≡ false;
  within : l.next ≤ length l.offsets;
  same : CanAddAll l.initial.c.section (holds l.initial.c.good) (offsets_of l.offsets) ↔ CanAddAll l.initial.c.section (holds l.c.good) (offsets_from l.next (drop l.next l.offsets));
}

abbrev pub decreases-loop-offset : goal.decreases-loop-offset
decreases-loop-offset l = length l.offsets - l.next
