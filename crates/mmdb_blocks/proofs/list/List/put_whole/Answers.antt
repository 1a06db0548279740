use Rattle.mmdb_blocks.proofs.ListLaws.{text-of-block}
use Rattle.mmdb_blocks.proofs.list.List.put_whole.Goals as goal

pub returns-clause-written : goal.returns-clause-written
returns-clause-written g c =
    rw (← text-of-block c.args.kind c.args.block c.in_ok-network.network c.in_ok-network.ensures.network) c.put_network.ensures.written

pub returns-clause-failed : goal.returns-clause-failed
returns-clause-failed g c =
    rw (← text-of-block c.args.kind c.args.block c.in_ok-network.network c.in_ok-network.ensures.network) c.put_network.ensures.failed
