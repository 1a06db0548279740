use Rattle.std.proofs.Common.{◌-◌, ◌<◌, ◌≤◌}
use Rattle.mmdb_blocks.specs.Joining.{waiting_of}
use Rattle.mmdb_blocks.specs.Working.{IsKept, Takes}
use Rattle.mmdb_blocks.proofs.listed.push_range.Given as goal

abbrev pub invariant-loop-from : goal.invariant-loop-from
invariant-loop-from l = record {
  low : l.range.first ≤ l.from;
  high : l.from ≤ l.range.last;
  takes : IsKept l.fn.blocks.items (waiting_of l.fn.joiner)
      → Takes l.fn.blocks.items (waiting_of l.fn.joiner) l.blocks.items (waiting_of l.joiner) (λ address. (l.range.first ≤ address) × (address < l.from));
}

abbrev pub decreases-loop-from : goal.decreases-loop-from
decreases-loop-from l = l.range.last - l.from
