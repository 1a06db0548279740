use Rattle.std.proofs.Common.{◌≡◌, drop}
use Rattle.mmdb_filter.specs.Cells.{is_special}
use Rattle.mmdb_filter.proofs.quotes.is_special.Given as goal

abbrev pub invariant-loop-at : goal.invariant-loop-at
invariant-loop-at l = is_special l.delimiter l.fn.value ≡ is_special l.delimiter (drop l.at l.fn.value)
