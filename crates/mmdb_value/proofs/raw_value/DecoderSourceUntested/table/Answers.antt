use Rattle.mmdb_value.proofs.RawTrees.{tree-Map}
use Rattle.mmdb_value.proofs.raw_value.DecoderSourceUntested.table.Goals as goal

pub returns : goal.returns
returns c = tree-Map c.args.all
