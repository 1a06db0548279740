use Rattle.std.proofs.Common.{◌≡◌, ◌++◌, ℕ, List}
use Rattle.std.specs.Io.KnownBytes.{Keeps}
use Rattle.mmdb_filter.specs.Rows.{Leads}
use Rattle.mmdb_filter.proofs.chunk.read_live.Given as goal

abbrev pub invariant-loop : goal.invariant-loop
invariant-loop g l = record {
  leads : (bytes : List ℕ) × (l.chunk.items ≡ l.fn.chunk.items ++ bytes) × Leads l.rows l.fn.position (g.R.Read.remaining l.fn.input) bytes l.now (g.R.Read.remaining l.input);
  kept : Keeps (g.W.Write.contents l.fn.out) (g.W.Write.contents l.out);
}
