use Rattle.std.specs.Io.KnownBytes.{Keeps}
use Rattle.mmdb_cmd_enrich.proofs.input.is_next.Given as goal

abbrev pub invariant-loop : goal.invariant-loop
invariant-loop g l = Keeps (g.I.Read.remaining l.fn.input) (g.I.Read.remaining l.input)
