-- Blocks of the addresses of both kinds.
use Rattle.std.proofs.Common.{◌↔◌, ℕ, true, false}
use Rattle.mmdb_blocks.specs.Blocks.{IsIn}
use Rattle.mmdb_blocks.specs.Ranges.{IsListed}
use Rattle.mmdb_query.specs.Lists.{ListsAddresses}
use Rattle.mmdb_query.specs.declared.address_blocks.AddressBlocks.{AddressBlocks}
use Rattle.mmdb_query.specs.declared.addresses.Addresses.{Addresses}

pub both_kinds : (blocks : AddressBlocks) (chosen also except : Addresses)
    → ((address : ℕ) → IsIn address blocks.ipv4.items ↔ IsListed address chosen.ipv4 also.ipv4 except.ipv4)
    → ((address : ℕ) → IsIn address blocks.ipv6.items ↔ IsListed address chosen.ipv6 also.ipv6 except.ipv6)
    → ListsAddresses chosen also except blocks
both_kinds blocks chosen also except v4 v6 true address = v4 address
both_kinds blocks chosen also except v4 v6 false address = v6 address
