use Rattle.std.proofs.Common.{ℕ, ◌<◌, ◌^◌, ap, arith}
use Rattle.std.proofs.lemmas.Bool.{ne_eqb}
use Rattle.mmdb_net.proofs.AddressLaws.{ipv4_bits-of, ipv6_bits-of}
use Rattle.mmdb_reader.proofs.NumberedLemmas.{short_block, long_block}
use Rattle.mmdb_reader.proofs.lookup_result.NumberedAddress.address.Goals as goal

pub returns-then-self-eq32-clause-block : goal.returns-then-self-eq32-clause-block
returns-then-self-eq32-clause-block c db prefix =
    let small : c.args.self.bits < 2 ^ 32 = omega (arith, c.requires.fits, ap (λ (w : ℕ). 2 ^ w) c.if-self-eq32.true) in
    short_block db c.args.self.width c.args.self.bits _ prefix c.if-self-eq32.true (ipv4_bits-of c.from_bits.result c.args.self.bits small c.from_bits.ensures)

pub returns-else-self-eq32-clause-block : goal.returns-else-self-eq32-clause-block
returns-else-self-eq32-clause-block c db prefix =
    long_block db c.args.self.width c.args.self.bits _ prefix (ne_eqb _ _ c.if-self-eq32.false) (ipv6_bits-of c.from_bits-else-self-eq32.result c.args.self.bits (omega arith) c.from_bits-else-self-eq32.ensures)
