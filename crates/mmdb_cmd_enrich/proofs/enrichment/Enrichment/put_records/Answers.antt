use Rattle.std.proofs.Common.{List, ℕ, ◌≡◌, inr, subst, ap, ◌∙◌}
use Rattle.std.proofs.lemmas.Result.{IfOk-weaker}
use Rattle.mmdb_cmd_enrich.specs.Added.{PutsAt}
use Rattle.mmdb_cmd_enrich.specs.Layers.{first_read}
use Rattle.mmdb_cmd_enrich.specs.Records.{each_read}
use Rattle.mmdb_cmd_enrich.proofs.AddedLaws.{records_kept}
use Rattle.mmdb_cmd_enrich.proofs.FirstLaws.{text_read}
use Rattle.mmdb_cmd_enrich.proofs.enrichment.Enrichment.put_records.Goals as goal

pub keep-requires-clause-made : goal.keep-requires-clause-made
keep-requires-clause-made g c =
    let template = g.W.Template.template c.args.self.now.what in
    let dbs = g.D.Ask.databases c.args.self.now.from in
    let found = c.args.found.now in
    let offsets = g.D.Found.FoundRecords.offsets found in
    let text = c.put_text.new.text.items in
    let outcome = c.in_ok-outcome.outcome in
    let is = text_read template (g.D.Found.ReadAlong.reads found) (first_read dbs offsets) (g.D.Found.ReadRecords.each found) (each_read dbs offsets) c.args.network text outcome
    (g.met.D.Found.FoundRecords.reads_first found dbs c.requires.of) (g.met.D.Found.FoundRecords.reads_each found dbs c.requires.of) c.in_ok-outcome.ensures in
    records_kept template dbs c.args.network offsets text outcome c.requires.there is

pub returns-clause-added : goal.returns-clause-added
returns-clause-added g c =
    let template = g.W.Template.template c.args.self.now.what in
    let dbs = g.D.Ask.databases c.args.self.now.from in
    let found = c.args.found.now in
    let offsets = g.D.Found.FoundRecords.offsets found in
    let text = c.put_text.new.text.items in
    let outcome = c.in_ok-outcome.outcome in
    let is = text_read template (g.D.Found.ReadAlong.reads found) (first_read dbs offsets) (g.D.Found.ReadRecords.each found) (each_read dbs offsets) c.args.network text outcome
    (g.met.D.Found.FoundRecords.reads_first found dbs c.requires.of) (g.met.D.Found.FoundRecords.reads_each found dbs c.requires.of) c.in_ok-outcome.ensures in
    let same : c.as_slice.result.now ≡ text = c.as_slice.ensures.value ∙ ap (λ t. t.items) c.keep.ensures.same in
    let still : c.put_first.new.out.items ≡ c.args.out.now.items = c.in_ok-is_put.ensures.none c.if-is_put.false in
    IfOk-weaker c.put_at.result _ _
    (λ added puts. (
      text,
      outcome,
      inr (c.requires.there, is),
      subst (λ (old : List ℕ). PutsAt c.args.has_comma text outcome added old c.put_at.new.out.items) still
          (subst (λ (t : List ℕ). PutsAt c.args.has_comma t outcome added c.put_first.new.out.items c.put_at.new.out.items) same puts),
    ))
    c.put_at.ensures
