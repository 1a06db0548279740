use Rattle.mmdb_reader.proofs.AliasedLookups.{goes_on_as_ipv4, aliases_end_as_ipv4}
use Rattle.mmdb_reader.proofs.laws.aliases_lead_to_ipv4.Goals as goal

pub returns : goal.returns
returns c = record { goes_on = goes_on_as_ipv4; ends = aliases_end_as_ipv4 }
