use Rattle.std.proofs.Common.{◌≡◌, drop}
use Rattle.mmdb_reader.specs.Selecting.{meets_other_type}
use Rattle.mmdb_reader.proofs.go_along.meets_other_type.Given as goal

-- the rest of the path says as much
abbrev pub invariant-loop-before : goal.invariant-loop-before
invariant-loop-before l = meets_other_type l.path l.fn.d ≡ meets_other_type (drop l.before l.path) l.d
