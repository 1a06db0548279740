use Rattle.std.proofs.Common.{◌≡◌}
use Rattle.mmdb_filter.specs.Lines.{IsFiltered}
use Rattle.mmdb_cmd_enrich.proofs.lines.copy_rows.Given as goal

abbrev pub invariant-loop : goal.invariant-loop
invariant-loop g l = record {
  way : IsFiltered l.fn.passage.rows (g.A.Additions.adds l.additions) (g.I.Read.remaining l.fn.input.input.now) (g.I.Read.remaining l.input.input.now) (g.O.Write.contents l.fn.console.out.now.out.now) (g.O.Write.contents l.console.out.now.out.now) l.fn.passage.counts l.passage.counts;
  rows : l.passage.rows ≡ l.fn.passage.rows;
  reloads : l.passage.reloads ≡ l.fn.passage.reloads;
  fits : g.A.Additions.fits l.additions l.memory;
}
