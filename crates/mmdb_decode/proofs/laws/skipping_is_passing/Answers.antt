use Rattle.mmdb_decode.proofs.PassingLaws.{skipping-is_passing}
use Rattle.mmdb_decode.proofs.laws.skipping_is_passing.Goals as goal

pub returns : goal.returns
returns c = skipping-is_passing
