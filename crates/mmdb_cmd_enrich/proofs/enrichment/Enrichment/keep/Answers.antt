use Rattle.std.proofs.Common.{ℕ, List, Option, sym, subst}
use Rattle.mmdb_net.specs.declared.network.IpNetwork.{IpNetwork}
use Rattle.mmdb_cmd_enrich.specs.Added.{AddsAt}
use Rattle.mmdb_cmd_enrich.proofs.AddedLaws.{added_of_keys}
use Rattle.mmdb_cmd_enrich.proofs.enrichment.Enrichment.keep.Goals as goal

pub returns-clause-fits : goal.returns-clause-fits
returns-clause-fits g c =
    let template = g.W.Template.template c.args.self.now.what in
    let dbs = g.D.Ask.databases c.args.self.now.from in
    let offsets = g.D.Found.FoundRecords.offsets c.args.found.now in
    let adds = c.requires.made (sym c.if-not-is_kept.ensures) in
    let here : (shown : Option IpNetwork) → AddsAt template dbs shown offsets c.as_slice.result.now c.args.outcome = λ shown. subst (λ (t : List ℕ). AddsAt template dbs shown offsets t c.args.outcome) (sym c.as_slice.ensures.value) (adds shown) in
    record {
      kept = c.keep.ensures (record { template = template; databases = dbs }) c.requires.fits.kept (added_of_keys template dbs offsets c.keys.result.all c.by_all.result c.as_slice.result.now c.args.outcome c.by_all.ensures (c.keys.ensures dbs c.requires.of).0 here);
      none = c.requires.fits.none;
    }
