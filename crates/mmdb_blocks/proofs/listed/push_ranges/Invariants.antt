use Rattle.std.proofs.Common.{take}
use Rattle.mmdb_blocks.specs.Ranges.{IsAmong}
use Rattle.mmdb_blocks.specs.Joining.{waiting_of}
use Rattle.mmdb_blocks.specs.Working.{IsKept, Takes}
use Rattle.mmdb_blocks.proofs.listed.push_ranges.Given as goal

abbrev pub invariant-loop-range : goal.invariant-loop-range
invariant-loop-range l = IsKept l.fn.blocks.items (waiting_of l.fn.joiner)
    → Takes l.fn.blocks.items (waiting_of l.fn.joiner) l.blocks.items (waiting_of l.joiner) (λ address. IsAmong address (take l.range-index l.ranges))
