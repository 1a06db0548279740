use Rattle.std.proofs.Common.{ℕ, ◌/◌, ◌<◌, ◌^◌, arith, refl, subst}
use Rattle.mmdb_net.specs.Bits.{bits_of}
use Rattle.mmdb_tree.specs.Descents.{Walks}
use Rattle.mmdb_tree.proofs.GroupLemmas.{Walks-entry}
use Rattle.mmdb_c.specs.Opened.{tree}
use Rattle.mmdb_c.proofs.db.Db.begin.Goals as goal

pub returns-then-self-eq6 : goal.returns-then-self-eq6
returns-then-self-eq6 c =
    let six = c.if-address.true in
    let t = tree c.args.self.now.file.now c.args.self.now.facts in
    let n = c.ipv6_bits.result in
    let leaf = c.entered.result in
    let below : n / 2 ^ 112 < 65536 = omega (arith, c.ipv6_bits.type_inv) in
    let P : ℕ → Type 0 = λ m. Walks t 0 (bits_of 128 m) leaf.taken leaf.number in
    record {
      ipv4 = λ four. absurd (cc);
      ipv6 = λ _ _. subst P c.ipv6_bits.ensures
          (Walks-entry t 0 n 112 128 c.args.self.now.ipv6_numbers.now c.args.self.now.ipv6_depths.now leaf refl (c.args.self.now.opened.ipv6_full c.if-self-eq6.true) below c.entered.ensures.number c.entered.ensures.taken);
    }

pub returns-then-self : goal.returns-then-self
returns-then-self c =
    let four = c.if-address.false in
    let facts = c.args.self.now.facts in
    let t = tree c.args.self.now.file.now facts in
    let n = c.ipv4_bits.result in
    let leaf = c.entered-then-self.result in
    let below : n / 2 ^ 16 < 65536 = omega (arith, c.ipv4_bits.type_inv) in
    let P : ℕ → Type 0 = λ m. Walks t facts.ipv4_start (bits_of 32 m) leaf.taken leaf.number in
    record {
      ipv4 = λ _ on. subst P c.ipv4_bits.ensures
          (Walks-entry t facts.ipv4_start n 16 32 c.args.self.now.ipv4_numbers.now c.args.self.now.ipv4_depths.now leaf refl (c.args.self.now.opened.ipv4_full on) below c.entered-then-self.ensures.number c.entered-then-self.ensures.taken);
      ipv6 = λ six. absurd (cc);
    }
