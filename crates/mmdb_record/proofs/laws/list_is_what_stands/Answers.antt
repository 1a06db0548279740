use Rattle.mmdb_record.proofs.ContainerTrees.{lists_unfold}
use Rattle.mmdb_record.proofs.ListLaws.{reads_lists}
use Rattle.mmdb_record.proofs.OneLaws.{one_list_stands}
use Rattle.mmdb_record.proofs.laws.list_is_what_stands.Goals as goal

pub returns-clause-read : goal.returns-clause-read
returns-clause-read g c = reads_lists g.T.Decode.meaning

pub returns-clause-unfolds : goal.returns-clause-unfolds
returns-clause-unfolds g c = lists_unfold g.T.Decode.meaning

pub returns-clause-one : goal.returns-clause-one
returns-clause-one g c = one_list_stands g.T.Decode.meaning
