use Rattle.mmdb_value.proofs.StandingLaws.{one_value_stands}
use Rattle.mmdb_value.proofs.laws.one_value_stands.Goals as goal

pub returns : goal.returns
returns c = one_value_stands
