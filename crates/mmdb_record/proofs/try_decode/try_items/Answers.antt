use Rattle.std.proofs.Common.{map, ◌-◌}
use Rattle.std.proofs.lemmas.Result.{err_from_is_err_and}
use Rattle.mmdb_decode.specs.Errors.{Kept}
use Rattle.mmdb_decode.specs.State.{decoded}
use Rattle.mmdb_decode.proofs.Lists.{list_done, list_goes_on, list_stops, same_items}
use Rattle.mmdb_decode.proofs.StepLaws.{declines_weaker, kept_decoded, kept_trans, given_up_kept, still_begun}
use Rattle.mmdb_record.proofs.try_decode.try_items.Goals as goal

pub returns-in_err-try_decode-clause-err : goal.returns-in_err-try_decode-clause-err
returns-in_err-try_decode-clause-err g c = let p = err_from_is_err_and c.from_residual.result c.from_residual.ensures.1 in rw (p.1, p.2) (declines_weaker g.T.Decode.free c.in_err-try_decode.field-0.0 (decoded g.T.Decode.starts g.T.Decode.meaning c.next_item.new.self) _ (list_stops g.T.Decode.starts g.T.Decode.meaning _ (map g.T.Decode.datum c.loop-alloc.out.items) c.loop-alloc.items.remaining c.next_item.new.items.remaining c.loop-alloc.d c.next_item.new.self c.loop-alloc.invariant.values c.loop-alloc-test.ensures.taken c.loop-alloc-test.ensures.same (rw c.loop-alloc-test.ensures.same c.loop-alloc.invariant.started)) c.in_err-try_decode.ensures.err)

pub loop-alloc-preserved : goal.loop-alloc-preserved
loop-alloc-preserved g c =
    let kept : Kept c.loop-alloc.d c.try_decode.new.d = rw (← c.loop-alloc-test.ensures.same) (kept_decoded g.T.Decode.starts g.T.Decode.meaning c.next_item.new.self c.try_decode.new.d (g.T.Decode.datum c.in_ok-try_decode.field-0) c.in_ok-try_decode.ensures.ok) in
    record {
      values = list_goes_on g.T.Decode.datum g.T.Decode.starts g.T.Decode.meaning _ c.loop-alloc.out.items _ c.in_ok-try_decode.field-0 c.loop-alloc.items.remaining c.next_item.new.items.remaining c.loop-alloc.d c.next_item.new.self c.try_decode.new.d c.loop-alloc.invariant.values c.loop-alloc-test.ensures.taken c.loop-alloc-test.ensures.same (rw c.loop-alloc-test.ensures.same c.loop-alloc.invariant.started) c.in_ok-try_decode.ensures.ok c.in_ok-push.ensures.items;
      kept = kept_trans c.args.d.now c.loop-alloc.d c.try_decode.new.d c.loop-alloc.invariant.kept kept;
      started = still_begun c.loop-alloc.d.budget c.try_decode.new.d.budget kept.charges c.loop-alloc.invariant.started;
      same = same_items c.args.items.now c.loop-alloc.items c.next_item.new.items (c.loop-alloc.items.remaining - 1) c.loop-alloc.invariant.same c.loop-alloc-test.ensures.rest;
    }

pub returns-clause-ok : goal.returns-clause-ok
returns-clause-ok g c = list_done g.T.Decode.meaning _ (map g.T.Decode.datum c.loop-alloc.out.items) c.loop-alloc.items.remaining c.loop-alloc.d c.next_item.new.self c.loop-alloc.invariant.values c.loop-alloc-test.ensures.taken c.loop-alloc-test.ensures.same c.loop-alloc-test.ensures.within

pub returns-in_err-push-clause-given_up : goal.returns-in_err-push-clause-given_up
returns-in_err-push-clause-given_up g c =
    let p = err_from_is_err_and c.from_residual-in_err-push.result c.from_residual-in_err-push.ensures.1 in
    let kept : Kept c.loop-alloc.d c.try_decode.new.d = rw (← c.loop-alloc-test.ensures.same) (kept_decoded g.T.Decode.starts g.T.Decode.meaning c.next_item.new.self c.try_decode.new.d (g.T.Decode.datum c.in_ok-try_decode.field-0) c.in_ok-try_decode.ensures.ok) in
    rw p.1 (given_up_kept c.args.d.now c.try_decode.new.d (kept_trans c.args.d.now c.loop-alloc.d c.try_decode.new.d c.loop-alloc.invariant.kept kept))
