use Rattle.mmdb_value.proofs.ValueTrees.{tree-Map}
use Rattle.mmdb_value.proofs.any_value.DecoderSourceTested.table.Goals as goal

pub returns : goal.returns
returns c = tree-Map c.args.all
