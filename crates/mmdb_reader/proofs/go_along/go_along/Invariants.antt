use Rattle.std.proofs.Common.{◌≡◌, drop, false, IsSome}
use Rattle.mmdb_decode.specs.State.{decoded}
use Rattle.mmdb_decode.specs.Errors.{Kept}
use Rattle.mmdb_reader.specs.Selecting.{selected}
use Rattle.mmdb_reader.proofs.go_along.go_along.Given as goal

-- what is left of the path is the rest
abbrev pub invariant-loop-before : goal.invariant-loop-before
invariant-loop-before l = record {
  rest : decoded false (selected l.path) l.fn.d ≡ decoded false (selected (drop l.before l.path)) l.d;
  kept : Kept l.fn.d l.d;
  started : IsSome l.d.budget;
}
