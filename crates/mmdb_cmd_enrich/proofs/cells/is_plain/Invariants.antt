use Rattle.std.proofs.Common.{◌≡◌, drop, ◌&&◌}
use Rattle.mmdb_cmd_enrich.specs.Cells.{is_plain}
use Rattle.mmdb_cmd_enrich.proofs.cells.is_plain.Given as goal

abbrev pub invariant-loop-at : goal.invariant-loop-at
invariant-loop-at l = is_plain l.delimiter l.fn.text ≡ l.plain && is_plain l.delimiter (drop l.at l.fn.text)
