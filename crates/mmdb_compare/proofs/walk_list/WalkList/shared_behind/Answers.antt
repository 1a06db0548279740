use Rattle.std.proofs.Common.{◌≡◌, ◌<◌, ◌≤◌, List, length, get_or, take, ap, arith, refl, subst, sym, ◌∙◌}
use Rattle.std.proofs.lemmas.List.{take_all}
use Rattle.std.proofs.lemmas.List.Elements.{All-more, All-same}
use Rattle.mmdb_compare.specs.Walks.{Standing}
use Rattle.mmdb_compare.specs.WalkList.{IsAtBlock}
use Rattle.mmdb_compare.proofs.walk_list.WalkList.shared_behind.Goals as goal

pub loop-walk-preserved : goal.loop-walk-preserved
loop-walk-preserved g c =
    let walks = c.args.self.now.walks.items in
    let place = c.loop-walk.walk-index in
    let s = c.walk-item.result in
    let read = c.deref-walk-items.ensures.value in
    let many : length c.deref-walk-items.result.now ≡ length walks = ap length read in
    let lt : place < length walks = omega (arith, many, c.loop-walk-test.true) in
    let is : s ≡ get_or walks place s = c.walk-item.is ∙ ap (λ (xs : List Standing). get_or xs place s) read in
    let block = c.block-block.result in
    All-more (IsAtBlock block) walks place s lt c.loop-walk.invariant (subst (IsAtBlock block) is (c.if-not-is_at.ensures.0 refl))

pub returns-then-at-block : goal.returns-then-at-block
returns-then-at-block g c =
    let walks = c.args.self.now.walks.items in
    let place = c.loop-walk.walk-index in
    let many : length c.deref-walk-items.result.now ≡ length walks = ap length c.deref-walk-items.ensures.value in
    let le : length walks ≤ place = omega (arith, many, c.loop-walk-test.false) in
    let some : 0 < length walks = grind (arith, c.is_empty.ensures, c.if-is_empty.false) in
    let block = c.block-block.result in
    record {
      is_block = c.block-block.ensures.block;
      behind = omega (arith, c.if-at-block.true);
      some = some;
      each = All-same (IsAtBlock block) walks (take place walks) (sym (take_all place walks le)) c.loop-walk.invariant;
    }
