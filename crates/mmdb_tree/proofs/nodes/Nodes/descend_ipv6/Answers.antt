use Rattle.std.proofs.Common.{◌≡◌, ℕ, subst, ◌+◌, ◌*◌, ◌/◌, ◌%◌, ◌<◌, ◌^◌, ap, sym, ◌∙◌, arith, refl}
use Rattle.mmdb_net.specs.Bits.{bits_of}
use Rattle.mmdb_net.proofs.BitLaws.{bits_of-split}
use Rattle.mmdb_tree.specs.Tree.{SearchTree, search_tree}
use Rattle.mmdb_tree.specs.Descents.{Descends}
use Rattle.mmdb_tree.proofs.DescentLemmas.{Descends-same, Descends-append, bits_of-low}
use Rattle.mmdb_tree.proofs.TableLemmas.{Descends-on, Descends-off, depth-le}
use Rattle.mmdb_tree.proofs.nodes.Nodes.descend_ipv6.Goals as goal

low_bits : (n : ℕ) → bits_of 64 (n % 2 ^ 64) ≡ bits_of 64 n
low_bits n = let whole : n ≡ n / 2 ^ 64 * 2 ^ 64 + n % 2 ^ 64 = omega arith in sym (ap (bits_of 64) whole ∙ bits_of-low 64 64 (n / 2 ^ 64) (n % 2 ^ 64) (omega arith))

-- the walk along the bits after the first sixteen, in two parts
Descends-split : (tree : SearchTree) (start n high middle low number : ℕ) → Descends tree start (bits_of 48 (n / 2 ^ 64)) high middle → Descends tree middle (bits_of 64 n) low number → Descends tree start (bits_of 112 n) (high + low) number
Descends-split tree start n high middle low number a b = rw (bits_of-split 48 64 112 n refl) (Descends-append tree start (bits_of 48 (n / 2 ^ 64)) (bits_of 64 n) high middle low number a b)

pub returns-clause-reached : goal.returns-clause-reached
returns-clause-reached c start full =
    let tree = search_tree c.args.self.now.bytes.now c.args.self.now.node_count c.args.self.now.record_size in
    let n = c.args.bits in
    let below : n / 2 ^ 112 < 65536 = omega arith in
    let low = Descends-same _ _ _ _ _ _ _ refl (low_bits n) c.descend-low.ensures.reached in
    let rest = Descends-split tree _ n _ _ _ _ c.descend-high.ensures.reached low in
    let whole = Descends-on tree start n 112 c.args.numbers.now c.args.depths.now full below 128 _ _ refl c.if-number-self.false rest in
    let P : ℕ → Type 0 = λ t. Descends tree start (bits_of 128 n) t c.descend-low.result.number in
    subst P (omega arith) whole

pub returns-then-number-self-clause-reached : goal.returns-then-number-self-clause-reached
returns-then-number-self-clause-reached c start full =
    let tree = search_tree c.args.self.now.bytes.now c.args.self.now.node_count c.args.self.now.record_size in
    let n = c.args.bits in
    let below : n / 2 ^ 112 < 65536 = omega arith in
    Descends-off tree start n 112 c.args.numbers.now c.args.depths.now full below 128 _ refl c.if-number-self.true c.from.ensures

pub returns-then-number-self-clause-read : goal.returns-then-number-self-clause-read
returns-then-number-self-clause-read c start full =
    let tree = search_tree c.args.self.now.bytes.now c.args.self.now.node_count c.args.self.now.record_size in
    let n = c.args.bits in
    let below : n / 2 ^ 112 < 65536 = omega arith in
    let few = depth-le tree start n 112 c.args.numbers.now c.args.depths.now full below in
    omega (arith, few, c.from.ensures)
