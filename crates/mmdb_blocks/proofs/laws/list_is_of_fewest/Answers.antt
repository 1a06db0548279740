use Rattle.mmdb_blocks.proofs.WholeListLaws.{whole-list}
use Rattle.mmdb_blocks.proofs.laws.list_is_of_fewest.Goals as goal

pub returns : goal.returns
returns c = whole-list
