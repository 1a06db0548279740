use Rattle.mmdb_blocks.proofs.RangeLaws.{both-ways, either-right, before-last}
use Rattle.mmdb_blocks.proofs.except.put_before.Goals as goal

pub returns-in_ok-put : goal.returns-in_ok-put
returns-in_ok-put c = λ a. both-ways (c.in_ok-put.ensures a) (either-right (before-last a c.args.first c.args.end c.if-first-end.true))
