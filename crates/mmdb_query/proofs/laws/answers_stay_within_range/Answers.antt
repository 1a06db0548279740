use Rattle.mmdb_query.proofs.PartLaws.{answers_stay}
use Rattle.mmdb_query.proofs.laws.answers_stay_within_range.Goals as goal

pub returns : goal.returns
returns c = answers_stay
