use Rattle.std.proofs.lemmas.Result.{on_ok_weaker}
use Rattle.mmdb_query.specs.Had.{network_bits}
use Rattle.mmdb_query.proofs.SetLaws.{or_same, range_bits}
use Rattle.mmdb_query.proofs.addresses.add.Goals as goal

pub returns : goal.returns
returns c = on_ok_weaker c.add.result (λ adds address fits.
    or_same (adds address) (range_bits c.of_network-block.result c.last.result (network_bits c.args.network) address c.of_network-block.ensures.block c.last.ensures c.of_network-block.ensures.bits fits))
    c.add.ensures
