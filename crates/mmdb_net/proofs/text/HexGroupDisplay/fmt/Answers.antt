use Rattle.std.proofs.Common.{rules, List, ℕ, subst, ap, get_or, arith}
use Rattle.std.specs.Fmt.{WritesOnOk}
use Rattle.mmdb_net.proofs.TextLaws.{hex_octets}
use Rattle.mmdb_net.proofs.text.HexGroupDisplay.fmt.Goals as goal

pub returns-clause-writes : goal.returns-clause-writes
returns-clause-writes g c =
    let P : List ℕ → Type 0 = λ bs. WritesOnOk g.W.Write.write_str_gives c.args.f.now c.write.result bs c.write.new.self in
    let octets = c.to_be_bytes.ensures in
    let high = ap (λ (xs : List ℕ). get_or xs 0 0) octets in
    let low = ap (λ (xs : List ℕ). get_or xs 1 0) octets in
    subst P (hex_octets c.args.self.now.0 _ _ (omega arith) high low) (search rules)
