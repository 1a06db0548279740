use Rattle.mmdb_record.proofs.LimitLaws.{reading-is_one}
use Rattle.mmdb_record.proofs.laws.same_offset_same_result.Goals as goal

pub returns : goal.returns
returns g c = reading-is_one g.T.Decode.meaning
