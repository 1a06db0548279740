use Rattle.mmdb_value.proofs.ValueTrees.{tree-Array}
use Rattle.mmdb_value.proofs.any_value.DecoderSourceTested.array.Goals as goal

pub returns : goal.returns
returns c = tree-Array c.args.all
