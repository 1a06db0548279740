use Rattle.mmdb_reader.proofs.Sources.{one_database}
use Rattle.mmdb_reader.proofs.laws.source_decides.Goals as goal

pub returns : goal.returns
returns c = one_database
