use Rattle.mmdb_cmd_enrich.proofs.AheadLaws.{unnumbered}
use Rattle.mmdb_cmd_enrich.proofs.ahead.Ahead.read.Goals as goal

pub returns-else-has_next-clause-number : goal.returns-else-has_next-clause-number
returns-else-has_next-clause-number c = unnumbered _ _ c.address_alone.ensures.number
