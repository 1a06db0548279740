use Rattle.std.proofs.Common.{◌≡◌, ◌<◌, List, length, get_or, ap, arith, ◌∙◌}
use Rattle.mmdb_compare.specs.Walks.{Standing}
use Rattle.mmdb_compare.proofs.TogetherLaws.{more_here}
use Rattle.mmdb_compare.proofs.walk_list.WalkList.each_at.Goals as goal

pub loop-walk-preserved : goal.loop-walk-preserved
loop-walk-preserved g c =
    let walks = c.args.self.now.walks.items in
    let place = c.loop-walk.walk-index in
    let s = c.walk-item.result in
    let read = c.deref-walk-items.ensures.value in
    let many : length c.deref-walk-items.result.now ≡ length walks = ap length read in
    let lt : place < length walks = omega (arith, many, c.loop-walk-test.true) in
    let is : s ≡ get_or walks place s = c.walk-item.is ∙ ap (λ (xs : List Standing). get_or xs place s) read in
    more_here walks s place c.args.at c.loop-walk.all c.and-all.result c.at.result c.loop-walk.invariant c.at.ensures lt is c.and-all.ensures.last c.and-all.ensures.known c.and-all.ensures.some
