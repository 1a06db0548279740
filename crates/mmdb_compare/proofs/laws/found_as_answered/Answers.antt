use Rattle.mmdb_compare.proofs.AgreeLaws.{found_as_answered}
use Rattle.mmdb_compare.proofs.laws.found_as_answered.Goals as goal

pub returns : goal.returns
returns g c = found_as_answered c.args.found.now
