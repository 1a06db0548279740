use Rattle.std.proofs.Common.{◌≤◌, ◌<◌, length, take}
use Rattle.std.specs.Io.KnownBytes.{Consumes}
use Rattle.mmdb_reader.proofs.open.pass_same.Given as goal

abbrev pub invariant-loop : goal.invariant-loop
invariant-loop g l = record {
  within : l.passed ≤ length l.other;
  taken : Consumes (g.R.Read.remaining l.fn.file) (g.R.Read.remaining l.file) (take l.passed l.other);
  room : 0 < length l.chunk;
}
