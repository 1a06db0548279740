use Rattle.mmdb_value.proofs.RawTrees.{tree-Array}
use Rattle.mmdb_value.proofs.raw_value.DecoderSourceUntested.array.Goals as goal

pub returns : goal.returns
returns c = tree-Array c.args.all
