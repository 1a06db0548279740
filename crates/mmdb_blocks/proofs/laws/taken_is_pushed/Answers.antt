use Rattle.mmdb_blocks.proofs.ListTextLaws.{taken-pushed}
use Rattle.mmdb_blocks.proofs.laws.taken_is_pushed.Goals as goal

pub returns : goal.returns
returns c = taken-pushed
