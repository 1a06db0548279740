use Rattle.std.proofs.Common.{ℕ, ◌/◌, ◌<◌, ap, arith, refl, subst}
use Rattle.mmdb_net.specs.Bits.{bits_of}
use Rattle.mmdb_tree.specs.Tree.{search_tree}
use Rattle.mmdb_tree.specs.Descents.{Descends}
use Rattle.mmdb_tree.proofs.DescentLemmas.{Descends-same}
use Rattle.mmdb_tree.proofs.TableLemmas.{Descends-on, Descends-off, depth-le}
use Rattle.mmdb_tree.proofs.nodes.Nodes.descend_ipv4.Goals as goal

pub returns-clause-reached : goal.returns-clause-reached
returns-clause-reached c start full =
    let tree = search_tree c.args.self.now.bytes.now c.args.self.now.node_count c.args.self.now.record_size in
    let below : c.args.bits / 65536 < 65536 = omega arith in
    let rest = Descends-same _ _ _ _ _ _ _ refl (ap (bits_of 16) c.from-2.ensures) c.descend-rest.ensures.reached in
    let whole = Descends-on tree start c.args.bits 16 c.args.numbers.now c.args.depths.now full below 32 _ _ refl c.if-number-self.false rest in
    let P : ℕ → Type 0 = λ t. Descends tree start (bits_of 32 c.args.bits) t c.descend-rest.result.number in
    subst P (omega (arith, c.from-3.ensures)) whole

pub returns-then-number-self-clause-reached : goal.returns-then-number-self-clause-reached
returns-then-number-self-clause-reached c start full =
    let tree = search_tree c.args.self.now.bytes.now c.args.self.now.node_count c.args.self.now.record_size in
    let below : c.args.bits / 65536 < 65536 = omega arith in
    Descends-off tree start c.args.bits 16 c.args.numbers.now c.args.depths.now full below 32 _ refl c.if-number-self.true c.from.ensures

pub returns-then-number-self-clause-read : goal.returns-then-number-self-clause-read
returns-then-number-self-clause-read c start full =
    let tree = search_tree c.args.self.now.bytes.now c.args.self.now.node_count c.args.self.now.record_size in
    let below : c.args.bits / 65536 < 65536 = omega arith in
    let few = depth-le tree start c.args.bits 16 c.args.numbers.now c.args.depths.now full below in
    omega (arith, few, c.from.ensures)
