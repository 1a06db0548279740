use Rattle.std.proofs.Common.{◌++◌}
use Rattle.mmdb_blocks.specs.Joining.{waiting_of, settled_of}
use Rattle.mmdb_blocks.proofs.ListedLaws.{takes-block}
use Rattle.mmdb_blocks.proofs.listed.push_block.Goals as goal

pub returns-in_ok-extend_from_slice-in-Ok : goal.returns-in_ok-extend_from_slice-in-Ok
returns-in_ok-extend_from_slice-in-Ok c = λ kept.
    let blocks = c.args.blocks.now.items in
    let waiting = waiting_of c.args.joiner.now in
    rw (c.in_ok-extend_from_slice-in-Ok.ensures.items, c.settled.ensures.all)
    (takes-block blocks waiting (blocks ++ settled_of c.push.new.self) (waiting_of c.push.new.self) c.args.block (c.in-Ok.ensures.ok (blocks ++ waiting) blocks kept))
