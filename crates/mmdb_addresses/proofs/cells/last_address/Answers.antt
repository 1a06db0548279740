use Rattle.std.proofs.Common.{subst}
use Rattle.mmdb_addresses.specs.Addresses.{Finds, IsAddressIn}
use Rattle.mmdb_addresses.specs.declared.readings.Reading.TheVariants.{First}
use Rattle.mmdb_addresses.proofs.cells.last_address.Goals as goal

pub returns : goal.returns
returns c = subst (λ w. Finds (IsAddressIn First w) c.first_address.result) c.last_hop.ensures c.first_address.ensures
