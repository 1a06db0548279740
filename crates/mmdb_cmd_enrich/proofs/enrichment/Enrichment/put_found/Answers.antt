use Rattle.std.proofs.lemmas.Result.{IfOk-weaker}
use Rattle.mmdb_cmd_enrich.proofs.enrichment.Enrichment.put_found.Goals as goal

pub returns-in-Some-clause-added : goal.returns-in-Some-clause-added
returns-in-Some-clause-added g c =
    let template = g.W.Template.template c.args.self.now.what in
    let dbs = g.D.Ask.databases c.args.self.now.from in
    let offsets = g.D.Found.FoundRecords.offsets c.args.found.now in
    let kept = c.in-Some.kept in
    let adds = c.in-Some.ensures.kept (record { template = template; databases = dbs }) offsets c.requires.fits.kept (c.keys.ensures dbs c.requires.of) c.args.network in
    IfOk-weaker c.put_at.result _ _
    (λ fares puts. (kept.cells.now, kept.outcome, adds, puts))
    c.put_at.ensures
