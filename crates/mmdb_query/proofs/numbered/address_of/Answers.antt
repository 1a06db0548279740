use Rattle.std.proofs.Common.{ℕ, ◌<◌, ◌^◌, ap, sym, ◌∙◌, arith}
use Rattle.std.proofs.lemmas.Bool.{ne_eqb}
use Rattle.mmdb_net.specs.Bits.{bits_of}
use Rattle.mmdb_net.proofs.AddressLaws.{ipv4_bits-of, ipv6_bits-of}
use Rattle.mmdb_query.proofs.numbered.address_of.Goals as goal

pub returns-then-numbers-eq32-clause-bits : goal.returns-then-numbers-eq32-clause-bits
returns-then-numbers-eq32-clause-bits c =
    let small : c.args.numbers.first < 2 ^ 32 = omega (arith, c.requires.fits, ap (λ (w : ℕ). 2 ^ w) c.if-numbers-eq32.true) in
    ap (bits_of 32) (ipv4_bits-of c.from_bits.result c.args.numbers.first small c.from_bits.ensures) ∙ ap (λ (w : ℕ). bits_of w c.args.numbers.first) (sym c.if-numbers-eq32.true)

pub returns-else-numbers-eq32-clause-bits : goal.returns-else-numbers-eq32-clause-bits
returns-else-numbers-eq32-clause-bits c =
    let wide = c.requires.is_width (ne_eqb _ _ c.if-numbers-eq32.false) in
    ap (bits_of 128) (ipv6_bits-of c.from_bits-else-numbers-eq32.result c.args.numbers.first (omega arith) c.from_bits-else-numbers-eq32.ensures) ∙ ap (λ (w : ℕ). bits_of w c.args.numbers.first) (sym wide)
