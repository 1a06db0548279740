use Rattle.mmdb_reader.proofs.PartLemmas.{path_selects, path_leads_nowhere}
use Rattle.mmdb_reader.proofs.laws.path_selects.Goals as goal

pub returns-clause-part : goal.returns-clause-part
returns-clause-part c = path_selects

pub returns-clause-nowhere : goal.returns-clause-nowhere
returns-clause-nowhere c = path_leads_nowhere
