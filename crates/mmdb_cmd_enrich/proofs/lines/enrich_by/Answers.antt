use Rattle.mmdb_cmd_enrich.specs.Stretches.{additions_of}
use Rattle.mmdb_cmd_enrich.proofs.StretchLaws.{none_begun, on_any_err}
use Rattle.mmdb_cmd_enrich.proofs.lines.enrich_by.Goals as goal

pub returns-in_err-memory-clause-begun : goal.returns-in_err-memory-clause-begun
returns-in_err-memory-clause-begun g c =
    on_any_err c.from_residual.result
    (none_begun c.args.passage.now.rows (additions_of (g.W.Template.template c.args.enrichment.now.what) (g.D.Ask.databases c.args.enrichment.now.from)) (g.I.Read.remaining c.args.input.now.input.now) (g.O.Write.contents c.args.console.now.out.now.out.now))
