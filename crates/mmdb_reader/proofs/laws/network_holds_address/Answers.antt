use Rattle.mmdb_reader.proofs.NetworkLemmas.{ipv4_without_subtree}
use Rattle.mmdb_reader.proofs.laws.network_holds_address.Goals as goal

pub returns-clause-without_subtree : goal.returns-clause-without_subtree
returns-clause-without_subtree c = ipv4_without_subtree
