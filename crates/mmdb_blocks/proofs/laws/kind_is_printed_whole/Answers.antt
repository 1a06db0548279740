use Rattle.mmdb_blocks.proofs.WholeListLaws.{whole-kind}
use Rattle.mmdb_blocks.proofs.laws.kind_is_printed_whole.Goals as goal

pub returns : goal.returns
returns c = whole-kind
