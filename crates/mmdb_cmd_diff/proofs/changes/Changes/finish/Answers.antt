use Rattle.std.proofs.lemmas.Result.{on_ok_weaker}
use Rattle.mmdb_blocks.specs.Joining.{waiting_of, settled_of}
use Rattle.mmdb_cmd_diff.proofs.Telling.{writes-none, told-finished}
use Rattle.mmdb_cmd_diff.proofs.changes.Changes.finish.Goals as goal

pub returns-then-is_none-clause-written : goal.returns-then-is_none-clause-written
returns-then-is_none-clause-written g c =
    writes-none c.args.pairs.now.layout.now c.args.self.now.run (waiting_of c.args.self.now.joiner) _ c.if-is_none.ensures

pub returns-clause-told : goal.returns-clause-told
returns-clause-told g c both h =
    on_ok_weaker c.put_settled-written.result
    (told-finished c.args.pairs.now.layout.now c.args.pairs.now.shown both c.args.self.now.run (waiting_of c.args.self.now.joiner) (settled_of c.finish.new.self) _ _ h c.finish.ensures.all c.finish.ensures.handed)
    c.put_settled-written.ensures.written
