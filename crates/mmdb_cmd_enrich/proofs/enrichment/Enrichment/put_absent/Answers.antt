use Rattle.std.proofs.Common.{List, ℕ, sym, subst}
use Rattle.std.proofs.lemmas.Result.{IfOk-weaker}
use Rattle.mmdb_filter.specs.declared.counts.Outcome.TheVariants.{Absent}
use Rattle.mmdb_cmd_enrich.specs.Template.{IsNoneText}
use Rattle.mmdb_cmd_enrich.specs.Added.{PutsAt}
use Rattle.mmdb_cmd_enrich.proofs.AddedLaws.{absent_added, added_of_keys}
use Rattle.mmdb_cmd_enrich.proofs.enrichment.Enrichment.put_absent.Goals as goal

pub returns-clause-added : goal.returns-clause-added
returns-clause-added g c =
    let template = g.W.Template.template c.args.self.now.what in
    let dbs = g.D.Ask.databases c.args.self.now.from in
    let offsets = g.D.Found.FoundRecords.offsets c.args.found.now in
    let text = c.args.texts.now.none.items in
    let adds = absent_added template dbs offsets text c.requires.absent c.requires.fits.none c.args.network in
    IfOk-weaker c.put_text.result _ _
    (λ fares puts. (text, Absent, adds, subst (λ (t : List ℕ). PutsAt c.args.has_comma t Absent fares c.args.out.now.items c.put_text.new.out.items) c.as_slice.ensures.value puts))
    c.put_text.ensures

pub returns-clause-fits : goal.returns-clause-fits
returns-clause-fits g c =
    let template = g.W.Template.template c.args.self.now.what in
    let dbs = g.D.Ask.databases c.args.self.now.from in
    let offsets = g.D.Found.FoundRecords.offsets c.args.found.now in
    let here = subst (IsNoneText template) (sym c.as_slice-none.ensures.value) c.requires.fits.none in
    let adds = absent_added template dbs offsets c.as_slice-none.result.now c.requires.absent here in
    record {
      kept = c.keep.ensures (record { template = template; databases = dbs }) c.requires.fits.kept (added_of_keys template dbs offsets c.keys.result.all c.by_all.result c.as_slice-none.result.now Absent c.by_all.ensures (c.keys.ensures dbs c.requires.of).0 adds);
      none = c.requires.fits.none;
    }
