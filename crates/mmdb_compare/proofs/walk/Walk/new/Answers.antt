use Rattle.mmdb_net.specs.Network.{ip_of}
use Rattle.mmdb_compare.proofs.AgreeLaws.{can_be_asked}
use Rattle.mmdb_compare.proofs.ListedLaws.{begun}
use Rattle.mmdb_compare.proofs.walk.Walk.new.Goals as goal

pub returns-clause-left : goal.returns-clause-left
returns-clause-left g c =
    let e = c.in_ok-networks.ensures in
    let b = c.of_network-block.ensures in
    begun c.args.reader.now _ c.args.range c.default.result c.of_network-block.result _ c.default.ensures e.database e.listed b.block b.bits

pub returns-clause-asked : goal.returns-clause-asked
returns-clause-asked g c = can_be_asked c.args.reader.now (ip_of c.args.range) c.in_ok-networks.ensures.of_input.1
