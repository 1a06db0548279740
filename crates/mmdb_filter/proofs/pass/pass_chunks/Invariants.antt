use Rattle.std.proofs.Common.{◌≡◌, ◌≢◌, ◌<◌, ◌≤◌, [], length, OnSome}
use Rattle.std.specs.Io.KnownBytes.{IsAtEnd}
use Rattle.mmdb_filter.specs.declared.rows.RowPosition.TheVariants as spec_position
use Rattle.mmdb_filter.proofs.PassLaws.{Passing}
use Rattle.mmdb_filter.proofs.pass.pass_chunks.Given as goal

abbrev pub invariant-loop : goal.invariant-loop
invariant-loop g l = record {
  way : Passing l.rows l.fn.position l.fn.chunk.items l.fn.behind (g.R.Read.remaining l.fn.input) (g.W.Write.contents l.fn.out) l.now l.chunk.items (g.R.Read.remaining l.input) (g.W.Write.contents l.out);
  empty : l.ready.items ≡ [];
  none : l.held ≤ length l.chunk.items → l.fn.behind ≡ 0;
  ready : (l.fn.position ≢ spec_position.Ended → length l.fn.chunk.items < l.held → IsAtEnd (g.R.Read.remaining l.fn.input)) → l.now ≢ spec_position.Ended → length l.chunk.items < l.held → OnSome (g.R.Read.remaining l.fn.input) (IsAtEnd (g.R.Read.remaining l.input));
}
