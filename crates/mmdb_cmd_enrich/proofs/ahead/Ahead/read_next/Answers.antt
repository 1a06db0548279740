use Rattle.mmdb_cmd_enrich.proofs.AheadLaws.{unnumbered}
use Rattle.mmdb_cmd_enrich.proofs.ahead.Ahead.read_next.Goals as goal

pub returns-in-None-clause-number : goal.returns-in-None-clause-number
returns-in-None-clause-number c = unnumbered _ _ c.address_alone.ensures.number
