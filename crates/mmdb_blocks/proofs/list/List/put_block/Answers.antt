use Rattle.mmdb_blocks.specs.Lists.{page_of}
use Rattle.mmdb_blocks.proofs.ListLaws.{one-failed, two-failed, both-written, alone-taken, alone-part}
use Rattle.mmdb_blocks.proofs.list.List.put_block.Goals as goal
use Rattle.mmdb_blocks.proofs.list.List.put_block.Goals.{else-halves_all-via-then-halves_all+else-has_all, else-halves_all-via-else-halves_all}

pub returns-then-has_all-clause-failed : goal.returns-then-has_all-clause-failed
returns-then-has_all-clause-failed g c =
    two-failed c.put_halves.result (page_of c.args.self.now) c.args.kind _ _ _ _ (both-written c.args.self.now.syntax c.args.kind c.args.block c.if-halves_all.ensures c.if-has_all.ensures) c.put_halves.ensures.failed

pub returns-else-halves_all-clause-failed : goal.returns-else-halves_all-clause-failed
returns-else-halves_all-clause-failed g c =
    elim c.else-halves_all.branch [
      | else-halves_all-via-then-halves_all+else-has_all w ↦ (
          one-failed c.put_whole.result (page_of c.args.self.now) c.args.kind _ _ c.args.block _ (alone-part c.args.self.now.syntax c.args.kind c.args.block w.if-has_all.ensures) c.put_whole.ensures.failed)
      | else-halves_all-via-else-halves_all w ↦ (
          one-failed c.put_whole.result (page_of c.args.self.now) c.args.kind _ _ c.args.block _ (alone-taken c.args.self.now.syntax c.args.kind c.args.block w.if-halves_all.ensures) c.put_whole.ensures.failed)
    ]
