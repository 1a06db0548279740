use Rattle.std.proofs.Common.{◌≡◌, ◌≤◌, ◌⊎◌, ℕ, List, ◌++◌, length}
use Rattle.std.specs.Io.KnownBytes.{Appends}
use Rattle.mmdb_reader.specs.Enumeration.{items_to_come, database_walked}
use Rattle.mmdb_tool.specs.Lines.{lines_of}
use Rattle.mmdb_tool.specs.ListText.{chunk_bytes}
use Rattle.mmdb_tool.specs.declared.sink.Fault.TheVariants.{Free}
use Rattle.mmdb_tool.proofs.list.list_to.Given as goal

abbrev pub invariant-loop-item : goal.invariant-loop-item
invariant-loop-item g l = record {
  can : (goal.iterator-loop-item g).can_next l.item-iterator;
  ends : (goal.iterator-loop-item g).is_finite l.item-iterator;
  walked : database_walked l.item-iterator ≡ database_walked l.initial.item-iterator;
  written : (done : List ℕ) × (lines_of (database_walked l.initial.item-iterator) (items_to_come l.initial.item-iterator) ≡ done ++ (l.lines.items ++ lines_of (database_walked l.initial.item-iterator) (items_to_come l.item-iterator))) × Appends (g.W.Sink.held l.initial.sink) (g.W.Sink.held l.sink) done × ((l.sink ≡ l.initial.sink) ⊎ (chunk_bytes ≤ length done));
  fault : g.W.Sink.fault l.initial.sink ≡ Free → g.W.Sink.fault l.sink ≡ Free;
}
