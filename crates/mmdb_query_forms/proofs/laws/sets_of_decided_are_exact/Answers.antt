use Rattle.mmdb_query_forms.proofs.DecidedLaws.{sets_of_decided_are_exact}
use Rattle.mmdb_query_forms.proofs.laws.sets_of_decided_are_exact.Goals as goal

pub returns : goal.returns
returns c = sets_of_decided_are_exact
