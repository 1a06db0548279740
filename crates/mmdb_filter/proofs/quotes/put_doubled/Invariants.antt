use Rattle.std.proofs.Common.{◌≡◌, ◌++◌, drop}
use Rattle.mmdb_filter.specs.Cells.{doubled}
use Rattle.mmdb_filter.proofs.quotes.put_doubled.Given as goal

abbrev pub invariant-loop-at : goal.invariant-loop-at
invariant-loop-at l = l.out.items ++ doubled (drop l.at l.fn.value) ≡ l.fn.out.items ++ doubled l.fn.value
