use Rattle.mmdb_check.proofs.LawLemmas.{not_again}
use Rattle.mmdb_check.proofs.laws.no_place_is_met_again.Goals as goal

pub returns : goal.returns
returns c = not_again
