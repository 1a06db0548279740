use Rattle.mmdb_record.proofs.ContainerTrees.{scalars_unfold}
use Rattle.mmdb_record.proofs.laws.scalars_unfold.Goals as goal

pub returns : goal.returns
returns g c = scalars_unfold g.T.Decode.meaning
