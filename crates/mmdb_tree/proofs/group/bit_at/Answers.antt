use Rattle.std.proofs.Common.{ℕ, ◌-◌, ◌/◌, ◌%◌, ◌^◌, nat_eq, ap, sym, ◌∙◌, arith}
use Rattle.std.specs.Net.Addr.{ipv4_bits, ipv6_bits}
use Rattle.mmdb_net.proofs.BitLaws.{length-bits_of, get_or-bits_of}
use Rattle.mmdb_tree.proofs.group.bit_at.Goals as goal

pub returns-in-V4 : goal.returns-in-V4
returns-in-V4 c =
    let n = ipv4_bits c.in-V4.v4 in
    rw c.in-V4.is (
      omega (arith, length-bits_of 32 n, c.if-index-lt32.true),
      ap (λ (k : ℕ). nat_eq (k / 2 ^ (31 - c.args.index) % 2) 1) c.to_bits.ensures ∙ sym (get_or-bits_of 32 n c.args.index _ c.if-index-lt32.true),
    )

pub returns-in-V4-2 : goal.returns-in-V4-2
returns-in-V4-2 c = rw c.in-V4-2.is (omega (arith, length-bits_of 32 (ipv4_bits c.in-V4-2.field-0), c.if-index-lt32.false))

pub returns-in-V6 : goal.returns-in-V6
returns-in-V6 c =
    let n = ipv6_bits c.in-V6.v6 in
    rw c.in-V6.is (
      omega (arith, length-bits_of 128 n, c.requires),
      ap (λ (k : ℕ). nat_eq (k / 2 ^ (127 - c.args.index) % 2) 1) c.to_bits-in-V6.ensures ∙ sym (get_or-bits_of 128 n c.args.index _ c.requires),
    )
