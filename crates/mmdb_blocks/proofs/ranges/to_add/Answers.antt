use Rattle.mmdb_blocks.proofs.RangeLaws.{among-reached, among-more}
use Rattle.mmdb_blocks.proofs.ranges.to_add.Goals as goal

pub returns-in-Some : goal.returns-in-Some
returns-in-Some c = λ a. among-reached a c.args.items.now.items c.take_reached.new.items.items c.args.range c.in-Some.joined c.in-Some.ensures

pub returns-in-None : goal.returns-in-None
returns-in-None c = λ a. rw c.in-None.ensures (among-more a c.args.items.now.items c.args.range)
