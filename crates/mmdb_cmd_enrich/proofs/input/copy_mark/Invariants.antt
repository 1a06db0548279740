use Rattle.std.proofs.Common.{◌≡◌, ◌++◌, List, ℕ, Some, IfSome, take}
use Rattle.std.specs.Io.KnownBytes.{Appends}
use Rattle.mmdb_cmd_enrich.specs.Mark.{mark}
use Rattle.mmdb_cmd_enrich.proofs.input.copy_mark.Given as goal

abbrev pub invariant-loop-byte : goal.invariant-loop-byte
invariant-loop-byte g l =
    let done = take l.byte-index mark in
    IfSome (g.I.Read.remaining l.fn.input) (λ xs. (ys : List ℕ) × (g.I.Read.remaining l.input ≡ Some ys) × (xs ≡ done ++ ys) × Appends (g.O.Write.contents l.fn.out) (g.O.Write.contents l.out) done)
