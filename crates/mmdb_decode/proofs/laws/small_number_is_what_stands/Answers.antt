use Rattle.mmdb_decode.proofs.SmallNumberLaws.{reads_small_numbers}
use Rattle.mmdb_decode.proofs.laws.small_number_is_what_stands.Goals as goal

pub returns : goal.returns
returns c = reads_small_numbers
