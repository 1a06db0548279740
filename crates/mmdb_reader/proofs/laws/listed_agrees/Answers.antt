use Rattle.mmdb_reader.proofs.FindingLemmas.{listed_agrees}
use Rattle.mmdb_reader.proofs.laws.listed_agrees.Goals as goal

pub returns : goal.returns
returns c = listed_agrees
