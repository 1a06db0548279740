use Rattle.std.proofs.Common.{refl, ap}
use Rattle.std.proofs.lemmas.Result.{on_ok_weaker}
use Rattle.mmdb_cmd_diff.proofs.Telling.{writes-again}
use Rattle.mmdb_cmd_diff.proofs.changes.Changes.put_network.Goals as goal

pub returns-in-Err-clause-written : goal.returns-in-Err-clause-written
returns-in-Err-clause-written g c =
    on_ok_weaker c.try_network-in-Err.result
    (writes-again c.args.pairs.now.layout.now c.let_go.new.self.layout.now c.args.self.now.run c.try_network.new.self.run c.args.network _ _ _
    (ap (λ l. l.now) c.let_go.ensures.layout) c.try_network.ensures.run (c.in-Err.ensures.failed (c.if-is_memory.ensures refl)))
    c.try_network-in-Err.ensures.written
