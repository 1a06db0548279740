use Rattle.mmdb_value.proofs.StandingLaws.{answer_is_whole_value}
use Rattle.mmdb_value.proofs.laws.answer_is_whole_value.Goals as goal

pub returns : goal.returns
returns c = answer_is_whole_value
