use Rattle.std.proofs.Common.{◌≡◌, ℕ, suc, ◌-◌, [], sym, subst, arith, append-nil}
use Rattle.mmdb_section.specs.Encoding.{Appends}
use Rattle.mmdb_section.specs.MovedWorking.{MovesPart}
use Rattle.mmdb_section.proofs.MovedLemmas.{MovesFirst, none_first, next_first, all_first}
use Rattle.mmdb_section.proofs.StandLemmas.{both}
use Rattle.mmdb_section.proofs.moved.put_parts.Goals as goal

pub loop-left-init : goal.loop-left-init
loop-left-init c = record { more = []; grown = sym (append-nil c.args.out.now.items); is = none_first c.args.section.now c.args.moved.now c.args.from c.args.count }

pub loop-left-preserved : goal.loop-left-preserved
loop-left-preserved c =
    let s = c.args.section.now in
    let m = c.args.moved.now in
    let at = c.loop-left.at in
    let n : ℕ = c.loop-left.left - 1 in
    let left : c.loop-left.left ≡ suc (c.loop-left.left - 1) = omega (arith, c.loop-left-test.true) in
    let before = subst (λ (k : ℕ). Appends (MovesFirst s m c.args.from c.args.count at k) c.args.out.now.items c.loop-left.out.items) left c.loop-left.invariant in
    both (MovesFirst s m c.args.from c.args.count at (suc n)) (MovesPart s m at c.in_ok-at.at) (MovesFirst s m c.args.from c.args.count c.in_ok-at.at n) _ _ _
    (λ xs zs. next_first s m c.args.from c.args.count at n c.in_ok-at.at xs zs) before c.in_ok-at.ensures

pub returns : goal.returns
returns c =
    let s = c.args.section.now in
    let m = c.args.moved.now in
    let at = c.loop-left.at in
    let none : c.loop-left.left ≡ 0 = omega (arith, c.loop-left-test.false) in
    let all = subst (λ (k : ℕ). Appends (MovesFirst s m c.args.from c.args.count at k) c.args.out.now.items c.loop-left.out.items) none c.loop-left.invariant in
    record { more = all.more; grown = all.grown; is = all_first s m c.args.from c.args.count at all.more all.is }
