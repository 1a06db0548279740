use Rattle.mmdb_reader.proofs.AgreementLemmas.{items_agree}
use Rattle.mmdb_reader.proofs.laws.items_agree_with_lookups.Goals as goal

pub returns : goal.returns
returns c = items_agree
