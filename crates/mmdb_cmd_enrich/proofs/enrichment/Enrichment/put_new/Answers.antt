use Rattle.std.proofs.Common.{sym, subst}
use Rattle.std.proofs.lemmas.Result.{IfOk-weaker}
use Rattle.mmdb_cmd_enrich.specs.Answered.{IsAnswered}
use Rattle.mmdb_cmd_enrich.proofs.AddedLaws.{found_added}
use Rattle.mmdb_cmd_enrich.proofs.enrichment.Enrichment.put_new.Goals as goal

pub returns-in-Some-clause-added : goal.returns-in-Some-clause-added
returns-in-Some-clause-added g c =
    let template = g.W.Template.template c.args.self.now.what in
    let dbs = g.D.Ask.databases c.args.self.now.from in
    let found = c.in-Some.found.now in
    let shows = g.D.Found.FoundRecords.shows in
    let offsets = g.D.Found.FoundRecords.offsets in
    let (can, of, have, is) = subst (IsAnswered g.D.Found.FoundRecords.is_of offsets shows dbs c.args.asked.address) (sym c.in-Some.ensures) c.ask.ensures.answered in
    IfOk-weaker c.put_whole.result _ _
    (λ fares puts. found_added template dbs c.args.has_comma c.args.asked.address (shows found) (offsets found) fares c.args.out.now.items c.put_whole.new.out.items can have is puts)
    c.put_whole.ensures.added
