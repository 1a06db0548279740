use Rattle.std.proofs.Common.{◌≡◌, length}
use Rattle.mmdb_cmd_enrich.specs.Ahead.{AreFoundIn}
use Rattle.mmdb_cmd_enrich.proofs.layers.DatabasesAsk.find.Given as goal

abbrev pub invariant-loop-reader : goal.invariant-loop-reader
invariant-loop-reader g l = record {
  known : AreFoundIn l.fn.self.readers.now l.addresses l.room.leaves.items;
  count : length l.room.leaves.items ≡ l.reader-index;
}
