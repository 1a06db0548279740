use Rattle.mmdb_blocks.proofs.ranges.add.Goals as goal

pub returns : goal.returns
returns c = λ a. rw c.in_ok-push.ensures.items (c.to_add-joined.ensures a)
