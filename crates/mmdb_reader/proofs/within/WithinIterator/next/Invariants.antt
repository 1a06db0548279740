use Rattle.std.proofs.Common.{◌≡◌}
use Rattle.std.specs.Vec.{vec_capacity}
use Rattle.mmdb_reader.specs.File.{width}
use Rattle.mmdb_reader.specs.Working.{positions_left}
use Rattle.mmdb_reader.specs.Enumeration.{items_to_come}
use Rattle.mmdb_reader.proofs.within.WithinIterator.next.Given as goal

abbrev pub invariant-loop-position : goal.invariant-loop-position
invariant-loop-position g l = record {
  items : items_to_come l.self ≡ items_to_come l.fn.self;
  reader : l.self.walker.reader.now ≡ l.fn.self.walker.reader.now;
  reserved : vec_capacity l.self.stack ≡ vec_capacity l.fn.self.stack;
}

abbrev pub decreases-loop-position : goal.decreases-loop-position
decreases-loop-position g l = positions_left (width l.self.walker.reader.now) l.self.stack.items
