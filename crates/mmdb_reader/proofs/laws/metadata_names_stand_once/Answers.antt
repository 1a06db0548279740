use Rattle.mmdb_reader.proofs.MetadataNames.{metadata_names_stand_once}
use Rattle.mmdb_reader.proofs.laws.metadata_names_stand_once.Goals as goal

pub returns : goal.returns
returns c = metadata_names_stand_once
