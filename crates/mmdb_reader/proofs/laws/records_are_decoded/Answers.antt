use Rattle.mmdb_reader.proofs.RecordLemmas.{records_are_decoded}
use Rattle.mmdb_reader.proofs.laws.records_are_decoded.Goals as goal

pub returns : goal.returns
returns c = records_are_decoded
