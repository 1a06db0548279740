use Rattle.std.proofs.Common.{sym}
use Rattle.std.proofs.lemmas.Result.{IfOk-weaker}
use Rattle.mmdb_cmd_enrich.proofs.AddedLaws.{whole_alone, whole_after}
use Rattle.mmdb_cmd_enrich.proofs.enrichment.Enrichment.put_whole.Goals as goal

pub returns-then-not-shows_network-clause-added : goal.returns-then-not-shows_network-clause-added
returns-then-not-shows_network-clause-added g c =
    let template = g.W.Template.template c.args.self.now.what in
    let dbs = g.D.Ask.databases c.args.self.now.from in
    let found = c.args.found.now in
    let offsets = g.D.Found.FoundRecords.offsets found in
    IfOk-weaker c.put_answer.result _ _
    (λ fares puts. whole_alone template dbs c.args.has_comma (g.D.Found.FoundRecords.shows found) offsets fares c.args.out.now.items c.put_answer.new.out.items (sym c.if-not-shows_network.ensures) puts)
    c.put_answer.ensures.added

pub returns-clause-added : goal.returns-clause-added
returns-clause-added g c =
    let template = g.W.Template.template c.args.self.now.what in
    let dbs = g.D.Ask.databases c.args.self.now.from in
    let found = c.args.found.now in
    let offsets = g.D.Found.FoundRecords.offsets found in
    IfOk-weaker c.put_found.result _ _
    (λ fares puts. whole_after template dbs c.args.has_comma (g.D.Found.FoundRecords.shows found) c.shown_network-network.result offsets fares c.args.out.now.items c.put_front.new.out.items c.put_found.new.out.items (sym c.if-not-shows_network.ensures) c.shown_network-network.ensures c.in_ok-put_front.ensures puts)
    c.put_found.ensures.added
