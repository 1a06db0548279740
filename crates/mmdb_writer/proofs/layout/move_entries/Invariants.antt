use Rattle.mmdb_writer.proofs.LayoutLemmas.{AreMovedTo}
use Rattle.mmdb_writer.proofs.layout.move_entries.Given as goal

-- those so far moved, and the others are as they were
abbrev pub invariant-loop-i : goal.invariant-loop-i
invariant-loop-i l = AreMovedTo l.moved l.i l.fn.entries.items l.entries.items
