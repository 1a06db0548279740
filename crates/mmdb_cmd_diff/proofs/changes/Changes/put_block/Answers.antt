use Rattle.std.proofs.lemmas.Result.{on_ok_weaker}
use Rattle.mmdb_cmd_diff.proofs.Telling.{writes-network}
use Rattle.mmdb_cmd_diff.proofs.changes.Changes.put_block.Goals as goal

pub returns-clause-written : goal.returns-clause-written
returns-clause-written g c =
    on_ok_weaker c.put_network.result (writes-network c.args.pairs.now.layout.now c.args.self.now.run c.args.block c.in_ok-network.network _ _ c.in_ok-network.ensures) c.put_network.ensures.written
