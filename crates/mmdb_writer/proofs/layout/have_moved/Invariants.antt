use Rattle.std.proofs.Common.{take}
use Rattle.std.specs.List.{AllByRecursion}
use Rattle.mmdb_writer.specs.Layout.{HasMoved}
use Rattle.mmdb_writer.proofs.layout.have_moved.Given as goal

-- those so far have
abbrev pub invariant-loop-offset : goal.invariant-loop-offset
invariant-loop-offset l = AllByRecursion (HasMoved l.moved) (take l.offset-index l.offsets)
