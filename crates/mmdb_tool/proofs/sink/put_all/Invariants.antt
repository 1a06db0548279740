use Rattle.std.proofs.Common.{◌≡◌, ℕ, List, ◌++◌, length}
use Rattle.std.specs.Io.KnownBytes.{Appends}
use Rattle.mmdb_tool.specs.declared.sink.Fault.TheVariants.{Free}
use Rattle.mmdb_tool.proofs.sink.put_all.Given as goal

abbrev pub invariant-loop-rest : goal.invariant-loop-rest
invariant-loop-rest g l = record {
  written : (done : List ℕ) × (l.initial.rest ≡ done ++ l.rest) × Appends (g.W.Sink.held l.initial.sink) (g.W.Sink.held l.sink) done;
  fault : g.W.Sink.fault l.initial.sink ≡ Free → g.W.Sink.fault l.sink ≡ Free;
}

abbrev pub decreases-loop-rest : goal.decreases-loop-rest
decreases-loop-rest g l = length l.rest
