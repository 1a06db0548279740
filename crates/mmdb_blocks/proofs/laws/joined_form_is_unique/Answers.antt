use Rattle.mmdb_blocks.proofs.UniqueLaws.{unique}
use Rattle.mmdb_blocks.proofs.laws.joined_form_is_unique.Goals as goal

pub returns : goal.returns
returns c = unique
