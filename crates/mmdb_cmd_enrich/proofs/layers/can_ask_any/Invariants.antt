use Rattle.std.proofs.Common.{drop}
use Rattle.mmdb_cmd_enrich.specs.Layers.{CanAskAny, CanAskNone}
use Rattle.mmdb_cmd_enrich.proofs.layers.can_ask_any.Given as goal

abbrev pub invariant-loop-reader : goal.invariant-loop-reader
invariant-loop-reader g l = record {
  any : CanAskAny (drop l.reader-index l.fn.readers) l.address → CanAskAny l.fn.readers l.address;
  none : CanAskNone (drop l.reader-index l.fn.readers) l.address → CanAskNone l.fn.readers l.address;
}
