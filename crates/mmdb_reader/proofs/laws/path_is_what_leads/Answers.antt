use Rattle.mmdb_reader.proofs.WayLemmas.{selecting-is_leading, one_way_leads}
use Rattle.mmdb_reader.proofs.laws.path_is_what_leads.Goals as goal

pub returns-clause-same : goal.returns-clause-same
returns-clause-same c = selecting-is_leading

pub returns-clause-one : goal.returns-clause-one
returns-clause-one c = one_way_leads
