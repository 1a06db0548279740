use Rattle.mmdb_reader.proofs.EqualityLemmas.{metadata_decides}
use Rattle.mmdb_reader.proofs.laws.metadata_equal_where_same.Goals as goal

pub returns-clause-metadata : goal.returns-clause-metadata
returns-clause-metadata c = metadata_decides
