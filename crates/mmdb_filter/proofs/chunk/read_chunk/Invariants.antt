use Rattle.std.proofs.Common.{◌≡◌, ◌++◌, ℕ, List}
use Rattle.mmdb_filter.specs.Rows.{Leads}
use Rattle.mmdb_filter.proofs.chunk.read_chunk.Given as goal

abbrev pub invariant-loop : goal.invariant-loop
invariant-loop g l = (bytes : List ℕ) × (l.chunk.items ≡ l.fn.chunk.items ++ bytes) × Leads l.rows l.fn.position (g.R.Read.remaining l.fn.input) bytes l.now (g.R.Read.remaining l.input)
