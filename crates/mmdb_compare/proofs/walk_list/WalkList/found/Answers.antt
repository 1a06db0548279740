use Rattle.std.proofs.Common.{◌≡◌, ◌<◌, List, length, get_or, ap, arith, ◌∙◌}
use Rattle.mmdb_compare.specs.Found.{numbered_ip}
use Rattle.mmdb_compare.specs.Walks.{Standing}
use Rattle.mmdb_compare.proofs.FoundLaws.{found_more}
use Rattle.mmdb_compare.proofs.walk_list.WalkList.found.Goals as goal

pub loop-walk-preserved : goal.loop-walk-preserved
loop-walk-preserved g c =
    let walks = c.args.self.now.walks.items in
    let place = c.loop-walk.walk-index in
    let s = c.walk-item.result in
    let read = c.deref-walk-items.ensures.value in
    let many : length c.deref-walk-items.result.now ≡ length walks = ap length read in
    let lt : place < length walks = omega (arith, many, c.loop-walk-test.true) in
    let is : s ≡ get_or walks place s = c.walk-item.is ∙ ap (λ (xs : List Standing). get_or xs place s) read in
    found_more (numbered_ip c.args.address) walks s place c.args.at c.loop-walk.all.items c.push.new.self.items c.found_from.result c.loop-walk.invariant lt is c.found_from.ensures c.in_ok-push.ensures.items
