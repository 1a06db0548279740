use Rattle.std.proofs.Common.{◌∙◌}
use Rattle.mmdb_net.proofs.AddressLaws.{ipv4_bits-of, ipv6_bits-of}
use Rattle.mmdb_c.proofs.many.ip_of.Goals as goal

pub returns-then-address : goal.returns-then-address
returns-then-address c = (c.if-address.true, ipv6_bits-of c.from_bits.result c.ipv6_bits.result c.ipv6_bits.type_inv c.from_bits.ensures ∙ c.ipv6_bits.ensures)

pub returns-else-address : goal.returns-else-address
returns-else-address c = (c.if-address.false, ipv4_bits-of c.from_bits-else-address.result c.ipv4_bits.result c.ipv4_bits.type_inv c.from_bits-else-address.ensures ∙ c.ipv4_bits.ensures)
