use Rattle.mmdb_blocks.proofs.RangeLaws.{both-ways}
use Rattle.mmdb_blocks.proofs.DeltaLaws.{begins-listed}
use Rattle.mmdb_blocks.proofs.delta.begins_with.Goals as goal

pub returns-in-Some : goal.returns-in-Some
returns-in-Some c = both-ways c.is_same.ensures (begins-listed c.args.block _ _ c.args.others.now c.in-Some.ensures.cases.0 c.requires.ascends c.requires.starts)
