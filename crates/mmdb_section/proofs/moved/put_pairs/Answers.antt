use Rattle.std.proofs.Common.{◌≡◌, ℕ, suc, ◌-◌, [], refl, sym, subst, arith, append-nil}
use Rattle.mmdb_section.specs.Encoding.{Appends}
use Rattle.mmdb_section.specs.MovedWorking.{MovesPart}
use Rattle.mmdb_section.proofs.MovedLemmas.{MovesFirstPairs, IsKeyThenValue, no_pairs_first, all_pairs_first, key_then_value}
use Rattle.mmdb_section.proofs.StandLemmas.{both}
use Rattle.mmdb_section.proofs.moved.put_pairs.Goals as goal

pub loop-left-init : goal.loop-left-init
loop-left-init c = record { more = []; grown = sym (append-nil c.args.out.now.items); is = no_pairs_first c.args.section.now c.args.moved.now c.args.from c.args.count }

pub loop-left-preserved : goal.loop-left-preserved
loop-left-preserved c =
    let s = c.args.section.now in
    let m = c.args.moved.now in
    let at = c.loop-left.at in
    let mid = c.in_ok-value.value in
    let end = c.in_ok-at.at in
    let n : ℕ = c.loop-left.left - 1 in
    let left : c.loop-left.left ≡ suc (c.loop-left.left - 1) = omega (arith, c.loop-left-test.true) in
    let before = subst (λ (k : ℕ). Appends (MovesFirstPairs s m c.args.from c.args.count at k) c.args.out.now.items c.loop-left.out.items) left c.loop-left.invariant in
    let pair = both (MovesPart s m at mid) (MovesPart s m mid end) (IsKeyThenValue s m at mid end) _ _ _ (λ ys zs key value. (ys, zs, refl, key, value)) c.in_ok-value.ensures c.in_ok-at.ensures in
    both (MovesFirstPairs s m c.args.from c.args.count at (suc n)) (IsKeyThenValue s m at mid end) (MovesFirstPairs s m c.args.from c.args.count end n) _ _ _
    (λ xs ws first p. key_then_value s m c.args.from c.args.count at n mid end xs ws first p) before pair

pub returns : goal.returns
returns c =
    let s = c.args.section.now in
    let m = c.args.moved.now in
    let at = c.loop-left.at in
    let none : c.loop-left.left ≡ 0 = omega (arith, c.loop-left-test.false) in
    let all = subst (λ (k : ℕ). Appends (MovesFirstPairs s m c.args.from c.args.count at k) c.args.out.now.items c.loop-left.out.items) none c.loop-left.invariant in
    record { more = all.more; grown = all.grown; is = all_pairs_first s m c.args.from c.args.count at all.more all.is }
