use Rattle.mmdb_value.proofs.StandingLaws.{value_is_what_stands}
use Rattle.mmdb_value.proofs.laws.value_is_what_stands.Goals as goal

pub returns : goal.returns
returns c = value_is_what_stands
