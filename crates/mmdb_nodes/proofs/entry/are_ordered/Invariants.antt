use Rattle.std.proofs.Common.{take}
use Rattle.mmdb_nodes.specs.Entries.{IsOrdered}
use Rattle.mmdb_nodes.proofs.entry.are_ordered.Given as goal

-- the entries so far are in order
abbrev pub invariant-loop-i : goal.invariant-loop-i
invariant-loop-i l = IsOrdered (take l.i l.entries)
