use Rattle.mmdb_blocks.proofs.ListTextLaws.{kind-is-fewest}
use Rattle.mmdb_blocks.proofs.laws.kind_is_of_fewest.Goals as goal

pub returns : goal.returns
returns c = kind-is-fewest
