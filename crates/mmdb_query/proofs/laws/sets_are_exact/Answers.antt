use Rattle.mmdb_query.proofs.AnsweredLaws.{sets_are_exact}
use Rattle.mmdb_query.proofs.laws.sets_are_exact.Goals as goal

pub returns : goal.returns
returns g c = sets_are_exact g.C.Conditions.says g.C.Conditions.is_unread
