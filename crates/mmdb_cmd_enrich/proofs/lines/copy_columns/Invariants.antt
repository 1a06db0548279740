use Rattle.std.proofs.Common.{◌≡◌, false}
use Rattle.mmdb_cmd_enrich.specs.Stretches.{AreAsked, IsEnriched}
use Rattle.mmdb_cmd_enrich.specs.Tasks.{AreCellsAsked}
use Rattle.mmdb_cmd_enrich.proofs.lines.copy_columns.Given as goal

abbrev pub invariant-loop : goal.invariant-loop
invariant-loop g l = record {
  way : IsEnriched l.fn.passage.rows (AreAsked l.fn.passage.reloads l.fn.databases.items (AreCellsAsked l.arguments l.columns)) (g.I.Read.remaining l.fn.input.input.now) (g.I.Read.remaining l.input.input.now) (g.O.Write.contents l.fn.console.out.now.out.now) (g.O.Write.contents l.console.out.now.out.now) l.fn.passage.counts l.passage.counts;
  rows : l.passage.rows ≡ l.fn.passage.rows;
  reloads : l.passage.reloads ≡ l.fn.passage.reloads;
  kept : l.fn.passage.reloads ≡ false → l.databases.items ≡ l.fn.databases.items;
}
