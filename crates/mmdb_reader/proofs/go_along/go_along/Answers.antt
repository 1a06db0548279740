use Rattle.std.proofs.Common.{◌≡◌, ◌+◌, drop, true, false, Some}
use Rattle.mmdb_decode.specs.Errors.{Kept}
use Rattle.mmdb_decode.specs.State.{decoded}
use Rattle.mmdb_decode.proofs.StepLaws.{kept_decoded, kept_trans, given_up_trans, still_begun}
use Rattle.mmdb_reader.specs.Selecting.{at_step}
use Rattle.mmdb_reader.proofs.PathLemmas.{along_done, along_goes_on, along_ends, along_stops, step_at, next_step, no_more_steps}
use Rattle.mmdb_reader.proofs.go_along.go_along.Goals as goal

pub returns-in-Ok-false-clause-taken : goal.returns-in-Ok-false-clause-taken
returns-in-Ok-false-clause-taken c =
    let gone : decoded true (at_step (step_at c.args.path.now c.loop-before.before)) c.loop-before.d ≡ Some (false, c.go.new.d) = rw c.in-Ok-false.field-0-test at c.in-Ok-false.ensures in
    along_ends _ (drop c.loop-before.before c.args.path.now) (drop (c.loop-before.before + 1) c.args.path.now) (step_at c.args.path.now c.loop-before.before) c.loop-before.d c.go.new.d c.loop-before.invariant.rest (next_step c.args.path.now c.loop-before.before c.loop-before-test.true) c.loop-before.invariant.started gone c.values_bounded.ensures

pub returns-in-Err-clause-taken : goal.returns-in-Err-clause-taken
returns-in-Err-clause-taken c = (given_up_trans c.args.d.now c.loop-before.d c.go.new.d c.loop-before.invariant.kept c.in-Err.ensures.0, along_stops _ (drop c.loop-before.before c.args.path.now) (drop (c.loop-before.before + 1) c.args.path.now) (step_at c.args.path.now c.loop-before.before) c.loop-before.d c.loop-before.invariant.rest (next_step c.args.path.now c.loop-before.before c.loop-before-test.true) c.loop-before.invariant.started c.in-Err.ensures.1)

pub loop-before-preserved : goal.loop-before-preserved
loop-before-preserved c =
    let gone : decoded true (at_step (step_at c.args.path.now c.loop-before.before)) c.loop-before.d ≡ Some (true, c.go.new.d) = rw c.in-Ok-true.field-0-test at c.in-Ok-true.ensures in
    let kept : Kept c.loop-before.d c.go.new.d = kept_decoded true (at_step (step_at c.args.path.now c.loop-before.before)) c.loop-before.d c.go.new.d true gone in
    record {
      rest = along_goes_on _ (drop c.loop-before.before c.args.path.now) (drop (c.loop-before.before + 1) c.args.path.now) (step_at c.args.path.now c.loop-before.before) c.loop-before.d c.go.new.d c.loop-before.invariant.rest (next_step c.args.path.now c.loop-before.before c.loop-before-test.true) c.loop-before.invariant.started gone;
      kept = kept_trans c.args.d.now c.loop-before.d c.go.new.d c.loop-before.invariant.kept kept;
      started = still_begun c.loop-before.d.budget c.go.new.d.budget kept.charges c.loop-before.invariant.started;
    }

pub returns-clause-taken : goal.returns-clause-taken
returns-clause-taken c = along_done _ (drop c.loop-before.before c.args.path.now) c.loop-before.d c.loop-before.invariant.rest (no_more_steps c.args.path.now c.loop-before.before c.loop-before-test.false) c.values_bounded-2.ensures
