use Rattle.std.proofs.Common.{◌≡◌, ◌+◌, ◌-◌, ◌^◌, ◌≤◌, arith, sym, subst, ℕ}
use Rattle.std.proofs.Math.Pow.{pow_mono}
use Rattle.mmdb_tree.specs.Nodes.{tree_in}
use Rattle.mmdb_tree.proofs.LevelLemmas.{IsSpread, IsSpread-both, HasLevel-next}
use Rattle.mmdb_tree.proofs.nodes.Nodes.spread_level.Goals as goal

pub loop-left-preserved : goal.loop-left-preserved
loop-left-preserved c =
    let tree = tree_in c.args.self.now in
    let numbers = c.args.numbers.now in
    let depths = c.args.depths.now in
    let left = c.loop-left.left - 1 in
    let some = c.loop-left-test.true in
    let few = c.loop-left.invariant.few in
    let numbers_size = c.requires.numbers in
    let depths_size = c.requires.depths in
    let low : c.args.taken ≤ 15 = let less = c.requires.taken in omega (arith, less) in
    let most : 2 ^ c.args.taken ≤ 2 ^ 15 = pow_mono low in
    let next : left + 1 ≡ c.loop-left.left = omega (arith, some) in
    let P : ℕ → Type 0 = λ n. IsSpread tree c.args.taken n numbers depths c.loop-left.numbers c.loop-left.depths in
    record {
      spread = IsSpread-both tree c.args.taken left numbers depths c.loop-left.numbers c.loop-left.depths c.new-entry.result c.halves.result.0 c.halves.result.1 (omega (arith, some, few)) (omega (arith, most, numbers_size)) (omega (arith, most, depths_size))
          c.new-entry.ensures.0 c.new-entry.ensures.1 (subst P (sym next) c.loop-left.invariant.spread) c.halves.ensures.lower c.halves.ensures.upper;
      few = omega (arith, few);
    }

pub returns-clause-level : goal.returns-clause-level
returns-clause-level c = λ start is.
    let none : c.loop-left.left ≡ 0 = let past = c.loop-left-test.false in omega (arith, past) in
    let P : ℕ → Type 0 = λ n. IsSpread (tree_in c.args.self.now) c.args.taken n c.args.numbers.now c.args.depths.now c.loop-left.numbers c.loop-left.depths in
    HasLevel-next (tree_in c.args.self.now) start c.args.taken c.args.numbers.now c.args.depths.now c.loop-left.numbers c.loop-left.depths (subst P none c.loop-left.invariant.spread) is
