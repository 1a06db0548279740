use Rattle.mmdb_filter.proofs.RunLaws.{marked}
use Rattle.mmdb_filter.proofs.runs.marks.Goals as goal

pub returns : goal.returns
returns c = marked c.args.first c.args.second c.args.bytes c.fits-bytes.0
