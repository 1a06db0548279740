use Rattle.std.proofs.Common.{map, ◌-◌}
use Rattle.std.proofs.lemmas.Result.{err_from_is_err_and}
use Rattle.mmdb_decode.specs.Errors.{Kept}
use Rattle.mmdb_decode.specs.State.{decoded}
use Rattle.mmdb_decode.proofs.Lists.{list_done, list_goes_on, list_stops, same_items}
use Rattle.mmdb_decode.proofs.StepLaws.{fails_weaker, kept_trans, still_begun}
use Rattle.mmdb_record.proofs.decode.read_items.Goals as goal

pub returns-in_err-decode-clause-err : goal.returns-in_err-decode-clause-err
returns-in_err-decode-clause-err g c = let p = err_from_is_err_and c.from_residual.result c.from_residual.ensures.1 in rw (p.1, p.2) (λ e. fails_weaker g.T.Decode.free c.in_err-decode.field-0.0 (decoded g.T.Decode.starts g.T.Decode.meaning c.next_item.new.self) _ (list_stops g.T.Decode.starts g.T.Decode.meaning _ (map g.T.Decode.datum c.loop-alloc.out.items) c.loop-alloc.items.remaining c.next_item.new.items.remaining c.loop-alloc.d c.next_item.new.self (c.loop-alloc.invariant.values e) c.loop-alloc-test.ensures.taken c.loop-alloc-test.ensures.same (rw c.loop-alloc-test.ensures.same c.loop-alloc.invariant.started)) (c.in_err-decode.ensures.err e))

pub loop-alloc-preserved : goal.loop-alloc-preserved
loop-alloc-preserved g c =
    let kept : Kept c.loop-alloc.d c.decode.new.d = rw (← c.loop-alloc-test.ensures.same) c.in_ok-decode.ensures.kept in
    record {
      values = λ e. list_goes_on g.T.Decode.datum g.T.Decode.starts g.T.Decode.meaning _ c.loop-alloc.out.items _ c.in_ok-decode.field-0 c.loop-alloc.items.remaining c.next_item.new.items.remaining c.loop-alloc.d c.next_item.new.self c.decode.new.d (c.loop-alloc.invariant.values e) c.loop-alloc-test.ensures.taken c.loop-alloc-test.ensures.same (rw c.loop-alloc-test.ensures.same c.loop-alloc.invariant.started) (c.in_ok-decode.ensures.ok e) c.in_ok-push.ensures.items;
      kept = kept_trans c.args.d.now c.loop-alloc.d c.decode.new.d c.loop-alloc.invariant.kept kept;
      started = still_begun c.loop-alloc.d.budget c.decode.new.d.budget kept.charges c.loop-alloc.invariant.started;
      same = same_items c.args.items.now c.loop-alloc.items c.next_item.new.items (c.loop-alloc.items.remaining - 1) c.loop-alloc.invariant.same c.loop-alloc-test.ensures.rest;
    }

pub returns-clause-ok : goal.returns-clause-ok
returns-clause-ok g c = λ e. list_done g.T.Decode.meaning _ (map g.T.Decode.datum c.loop-alloc.out.items) c.loop-alloc.items.remaining c.loop-alloc.d c.next_item.new.self (c.loop-alloc.invariant.values e) c.loop-alloc-test.ensures.taken c.loop-alloc-test.ensures.same c.loop-alloc-test.ensures.within
