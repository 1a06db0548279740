use Rattle.mmdb_cmd_enrich.proofs.AheadLaws.{first_found}
use Rattle.mmdb_cmd_enrich.proofs.layers.next_leaf.Goals as goal

pub returns-in-len1-up-clause-found : goal.returns-in-len1-up-clause-found
returns-in-len1-up-clause-found c db dbs addresses address are number =
    c.at.ensures db addresses address (first_found db dbs addresses c.args.left.now.now _ c.in-len1-up.len_at_least are) number
