use Rattle.mmdb_blocks.proofs.RangeLaws.{among-more}
use Rattle.mmdb_blocks.proofs.except.put.Goals as goal

pub returns : goal.returns
returns c = λ a. rw c.in_ok-push.ensures.items (among-more a c.args.left.now.items (record { first = c.args.first; last = c.args.last }))
