use Rattle.mmdb_cmd_enrich.proofs.OneLaws.{one_answered, one_rejected}
use Rattle.mmdb_cmd_enrich.proofs.ask.OneDatabaseAsk.ask.Goals as goal

pub returns-in_default-clause-answered : goal.returns-in_default-clause-answered
returns-in_default-clause-answered g c =
    let why = c.in_default.ensures in
    one_rejected c.args.self.now.reader.now c.args.address.now c.asked_of-asked.result c.in_default.field-0 c.asked_of-asked.ensures why.no_other why.of_input.0 why.of_database.0

pub returns-clause-answered : goal.returns-clause-answered
returns-clause-answered g c =
    let is = c.in-Ok.ensures in
    one_answered c.args.self.now.reader.now c.args.address.now c.in-Ok.found (c.asked_of-asked.result, c.asked_of-asked.ensures, is.database, is.answered, is.shown)
