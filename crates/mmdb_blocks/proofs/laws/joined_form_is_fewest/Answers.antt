use Rattle.mmdb_blocks.proofs.FewestLaws.{fewest}
use Rattle.mmdb_blocks.proofs.laws.joined_form_is_fewest.Goals as goal

pub returns : goal.returns
returns c = fewest
