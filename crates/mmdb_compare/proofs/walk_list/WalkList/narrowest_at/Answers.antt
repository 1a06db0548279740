use Rattle.std.proofs.Common.{◌≡◌, ◌<◌, ◌≤◌, List, length, get_or, ap, arith, refl, subst, sym, ◌∙◌}
use Rattle.mmdb_blocks.specs.declared.block.Block.{Block}
use Rattle.mmdb_blocks.specs.Blocks.{IsBlock}
use Rattle.mmdb_compare.specs.Walks.{Standing}
use Rattle.mmdb_compare.proofs.TogetherLaws.{narrowest_more, narrowest_all}
use Rattle.mmdb_compare.proofs.walk_list.WalkList.narrowest_at.Goals as goal

pub loop-walk-preserved : goal.loop-walk-preserved
loop-walk-preserved g c =
    let walks = c.args.self.now.walks.items in
    let place = c.loop-walk.walk-index in
    let s = c.walk-item.result in
    let read = c.deref-walk-items.ensures.value in
    let many : length c.deref-walk-items.result.now ≡ length walks = ap length read in
    let lt : place < length walks = omega (arith, many, c.loop-walk-test.true) in
    let is : s ≡ get_or walks place s = c.walk-item.is ∙ ap (λ (xs : List Standing). get_or xs place s) read in
    let before = c.loop-walk.all in
    let after = c.and-all.result in
    let e = c.and-all.ensures in
    let value = c.block-in-loop-walk.ensures.value in
    let is_block = subst IsBlock value c.block-in-loop-walk.ensures.block in
    let prefix = ap (λ (b : Block). b.prefix) value in
    narrowest_more walks s place c.args.at before.block after.block before.are_even after.are_even c.loop-walk.invariant lt is (c.if-not-has_begun.ensures.0 refl) is_block e.block e.before (omega (arith, prefix, e.narrower)) e.even e.same (λ even. sym prefix ∙ e.one even)

pub returns-then-all-at : goal.returns-then-all-at
returns-then-all-at g c =
    let walks = c.args.self.now.walks.items in
    let place = c.loop-walk.walk-index in
    let many : length c.deref-walk-items.result.now ≡ length walks = ap length c.deref-walk-items.ensures.value in
    let le : length walks ≤ place = omega (arith, many, c.loop-walk-test.false) in
    let some : 0 < length walks = grind (arith, c.is_empty.ensures, c.if-is_empty.false) in
    narrowest_all walks place c.args.at c.loop-walk.all.block c.loop-walk.all.are_even c.loop-walk.invariant le some c.if-all-at.true
