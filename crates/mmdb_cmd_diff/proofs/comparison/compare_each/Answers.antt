use Rattle.std.proofs.Common.{rules, ◌≡◌, ◌∙◌, ◌⊎◌, ◌+◌, drop, Some, None, IfSome, refl, sym, ap, subst, arith}
use Rattle.std.specs.Prelude.{slice_get}
use Rattle.std.specs.Option.{ForSome}
use Rattle.mmdb_cmd_diff.specs.Alike.{IsOfAlike}
use Rattle.mmdb_cmd_diff.specs.Comparing.{untold, untold_by}
use Rattle.mmdb_cmd_diff.specs.Lines.{Tells}
use Rattle.mmdb_cmd_diff.specs.Showing.{Showing}
use Rattle.mmdb_cmd_diff.specs.Walked.{both_of}
use Rattle.mmdb_cmd_diff.specs.declared.changes.Changes.{Changes}
use Rattle.mmdb_cmd_diff.specs.declared.comparison.Waiting.{Waiting}
use Rattle.mmdb_cmd_diff.proofs.Gathering.{compared-as, drop-all, each-compared, each-end, each-known, ends-with, marked-alike, marked-last, out-alike, ready-kept, same-refl, same-trans, there-of, told-as, waiting-at}
use Rattle.mmdb_cmd_diff.proofs.Telling.{tells-same}
use Rattle.mmdb_cmd_diff.proofs.comparison.compare_each.Goals as goal

pub loop-index-init : goal.loop-index-init
loop-index-init g c =
    let now = c.args.so_far.now in
    record {
      same = same-refl now;
      waiting = refl;
      told = λ left compared so. tells-same now.pairs.layout.now now.pairs.shown (both_of left) (untold_by left now) _ _ (λ is_ipv4 address h. h);
      ready = λ left compared so. so.ready;
    }

pub loop-index-preserved-then-known-index : goal.loop-index-preserved-then-known-index
loop-index-preserved-then-known-index g c =
    let first = c.args.so_far.now in
    let showing = first.pairs.shown in
    let now = c.loop-index.so_far in
    let next = c.keep_last.new.self in
    let kept = c.loop-index.invariant in
    let i = c.loop-index.index in
    let stretches = first.waiting.stretches.items in
    let pairs = first.waiting.offsets.items in
    let marked = c.known_of-known.ensures i c.if-known-index.true in
    record {
      same = same-trans first now next kept.same c.keep_last.ensures.same;
      waiting = c.keep_last.ensures.waiting ∙ kept.waiting;
      told = λ left compared so.
          let (s, at, there) = marked-alike left showing first.pairs.kept stretches pairs i so.waiting so.ready.kept marked in
          subst (λ (k : Changes). Tells first.pairs.layout.now showing (both_of left) (untold_by left first) (untold first.kinds showing (both_of left) k (drop (i + 1) stretches))
          (g.O.Write.contents c.args.out.now) (g.O.Write.contents c.loop-index.out)) (sym c.keep_last.ensures.changes)
          (each-known first.pairs.layout.now first.kinds showing (both_of left) (untold_by left first) now.changes now.changes stretches i s at _ _ (g.O.Write.contents c.loop-index.out)
          (out-alike first.kinds showing (both_of left) s.part _ _ (there-of left s.part there.0 there.1) there.2) (kept.told left compared so));
      ready = λ left compared so.
          let ready = kept.ready left compared so in
          let one = subst (λ (z : Showing). IfSome (slice_get now.waiting.offsets.items i) (λ p. ForSome p (IsOfAlike z))) (sym kept.same.shown)
          (subst (λ (w : Waiting). IfSome (slice_get w.offsets.items i) (λ p. ForSome p (IsOfAlike showing))) (sym kept.waiting) (marked-last showing first.pairs.kept pairs i so.ready.kept marked)) in
          ready-kept (both_of left) now next c.keep_last.ensures.same.shown (c.keep_last.ensures.kept ready.kept one) c.keep_last.ensures.changes ready;
    }

pub returns-in_default-clause-told : goal.returns-in_default-clause-told
returns-in_default-clause-told g c left compared so =
    let first = c.args.so_far.now in
    let kept = c.loop-index.invariant in
    let i = c.loop-index.index in
    let stretches = first.waiting.stretches.items in
    let nothing = subst (λ (w : Waiting). (slice_get w.stretches.items i ≡ None) ⊎ (slice_get w.offsets.items i ≡ None)) kept.waiting c.in_default.ensures.none in
    each-end first.pairs.layout.now first.kinds first.pairs.shown (both_of left) (untold_by left first) c.loop-index.so_far.changes (drop i stretches) _ _
    (ends-with left stretches first.waiting.offsets.items i so.waiting nothing) (kept.told left compared so)

pub loop-index-preserved : goal.loop-index-preserved
loop-index-preserved g c =
    let first = c.args.so_far.now in
    let showing = first.pairs.shown in
    let now = c.loop-index.so_far in
    let next = c.compare_stretch.new.so_far in
    let kept = c.loop-index.invariant in
    let i = c.loop-index.index in
    let stretches = first.waiting.stretches.items in
    let s = c.in-Some.stretch in
    let p = c.in-Some.offsets in
    let at : slice_get now.waiting.stretches.items i ≡ Some s = search rules in
    let with_pair : slice_get now.waiting.offsets.items i ≡ Some p = search rules in
    let there = subst (λ (w : Waiting). slice_get w.stretches.items i ≡ Some s) kept.waiting at in
    let pair_there = subst (λ (w : Waiting). slice_get w.offsets.items i ≡ Some p) kept.waiting with_pair in
    record {
      same = same-trans first now next kept.same c.compare_stretch.ensures.same;
      waiting = c.compare_stretch.ensures.waiting ∙ kept.waiting;
      told = λ left compared so.
          let waits = waiting-at left stretches first.waiting.offsets.items i s p so.waiting there pair_there in
          let compared_now = compared-as showing.sections now.pairs.shown.sections _ _ left (ap (λ z. z.sections) kept.same.shown) refl compared in
          let step = c.in_ok-compare_stretch.ensures.told left compared_now waits (kept.ready left compared so) in
          each-compared first.pairs.layout.now first.kinds showing (both_of left) (untold_by left first) now.changes next.changes stretches i s there _ _ _ (kept.told left compared so)
          (told-as (both_of left) (record first { changes = now.changes }) now s.part next.changes _ _
          (record { shown = kept.same.shown; layout = kept.same.layout; kinds = kept.same.kinds }) refl step);
      ready = λ left compared so.
          let waits = waiting-at left stretches first.waiting.offsets.items i s p so.waiting there pair_there in
          let compared_now = compared-as showing.sections now.pairs.shown.sections _ _ left (ap (λ z. z.sections) kept.same.shown) refl compared in
          c.in_ok-compare_stretch.ensures.ready left compared_now waits (kept.ready left compared so);
    }

pub returns-clause-told : goal.returns-clause-told
returns-clause-told g c left compared so =
    let first = c.args.so_far.now in
    let kept = c.loop-index.invariant in
    let stretches = first.waiting.stretches.items in
    let few = so.few in
    let over = c.loop-index-test.false in
    each-end first.pairs.layout.now first.kinds first.pairs.shown (both_of left) (untold_by left first) c.loop-index.so_far.changes (drop c.loop-index.index stretches) _ _
    (drop-all stretches c.loop-index.index (omega (arith, few, over))) (kept.told left compared so)
