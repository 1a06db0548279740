use Rattle.mmdb_record.proofs.LimitLaws.{answer-is_within_limits}
use Rattle.mmdb_record.proofs.laws.answer_is_within_limits.Goals as goal

pub returns : goal.returns
returns g c = answer-is_within_limits
