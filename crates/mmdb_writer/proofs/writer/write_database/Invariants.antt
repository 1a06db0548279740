use Rattle.std.proofs.Common.{[], take}
use Rattle.mmdb_writer.specs.Making.{IsMadeOf}
use Rattle.mmdb_writer.proofs.writer.write_database.Given as goal

-- the values so far were added, and then the rows so far
abbrev pub invariant-loop-value : goal.invariant-loop-value
invariant-loop-value l = IsMadeOf (take l.value-index l.values) [] l.fn.options l.writer

abbrev pub invariant-loop-row : goal.invariant-loop-row
invariant-loop-row l = IsMadeOf l.values (take l.row-index l.rows) l.fn.options l.writer
