use Rattle.std.proofs.Common.{◌≡◌, ℕ, ◌+◌, ◌-◌, ◌/◌, ◌<◌, ◌^◌, false, ap, sym, ◌∙◌, arith}
use Rattle.std.specs.Net.Addr.{ipv4_bits, ipv6_bits}
use Rattle.mmdb_net.specs.Bits.{bit_of}
use Rattle.mmdb_net.proofs.BitLaws.{length-bits_of, get_or-bits_of, bit_of-shifted}
use Rattle.mmdb_tree.proofs.group.first_word.Goals as goal

pub returns-in-V4 : goal.returns-in-V4
returns-in-V4 c =
    let n = ipv4_bits c.in-V4.v4 in
    rw c.in-V4.is (λ k h. (omega (arith, length-bits_of 32 n, h), get_or-bits_of 32 n k false h ∙ ap (λ (m : ℕ). bit_of m (31 - k)) (sym c.to_bits.ensures)))

pub returns-in-V6 : goal.returns-in-V6
returns-in-V6 c =
    let n = ipv6_bits c.in-V6.v6 in
    rw c.in-V6.is (λ k h.
    let low : k < 128 = omega (arith, h) in
    let place : 128 - 1 - k ≡ 96 + (31 - k) = omega (arith, h) in (
      omega (arith, length-bits_of 128 n, h),
      get_or-bits_of 128 n k false low ∙ ap (bit_of n) place ∙ bit_of-shifted n 96 (31 - k) ∙ ap (λ (m : ℕ). bit_of (m / 2 ^ 96) (31 - k)) (sym c.to_bits-in-V6.ensures),
    ))
