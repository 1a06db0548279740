use Rattle.std.proofs.Common.{None, sym}
use Rattle.mmdb_cmd_enrich.proofs.AddedLaws.{keys_met, kept_added}
use Rattle.mmdb_cmd_enrich.proofs.enrichment.Enrichment.put_kept.Goals as goal

pub returns-clause-added : goal.returns-clause-added
returns-clause-added g c address keys_are =
    let template = g.W.Template.template c.args.self.now.what in
    let dbs = g.D.Ask.databases c.args.self.now.from in
    let kept = c.in-Some.kept in
    let (can, offsets, have, are) = keys_met dbs address c.args.keys c.kept_of.result kept c.in-Some.is c.kept_of.ensures.none keys_are in
    let adds = c.in-Some.ensures.kept (record { template = template; databases = dbs }) offsets c.requires.fits.kept are None in
    kept_added template dbs c.args.has_comma address offsets kept.cells.now kept.outcome c.in_ok-outcome.outcome c.args.out.now.items c.put_at.new.out.items (sym c.if-not-shows_network.ensures) can have adds c.in_ok-outcome.ensures
