use Rattle.mmdb_query.proofs.AscendLaws.{networks_ascend}
use Rattle.mmdb_query.proofs.laws.networks_ascend.Goals as goal

pub returns : goal.returns
returns c = networks_ascend
