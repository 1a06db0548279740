use Rattle.std.proofs.Common.{arith, ◌≤◌, ◌+◌, length, sym, subst}
use Rattle.mmdb_net.specs.declared.network.IpNetwork.TheVariants.{V4, V6}
use Rattle.mmdb_query.specs.Had.{network_bits}
use Rattle.mmdb_query.proofs.PartLaws.{deep_bits}
use Rattle.mmdb_query.proofs.part.depth_of.Goals as goal

pub returns-in-V4 : goal.returns-in-V4
returns-in-V4 c =
    let deep = deep_bits (V4 c.in-V4.network) in
    subst (λ n. length (network_bits n) ≤ 96 + c.prefix.result) (sym c.in-V4.is) (omega (arith, deep, c.prefix.ensures.value))

pub returns-in-V6 : goal.returns-in-V6
returns-in-V6 c =
    let deep = deep_bits (V6 c.in-V6.network) in
    subst (λ n. length (network_bits n) ≤ c.prefix-in-V6.result) (sym c.in-V6.is) (omega (arith, deep, c.prefix-in-V6.ensures.value))
