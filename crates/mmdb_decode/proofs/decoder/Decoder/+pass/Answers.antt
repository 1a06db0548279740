use Rattle.std.proofs.Common.{◌-◌, ◌∙◌, false, sym, arith}
use Rattle.std.proofs.lemmas.Result.{err_from_is_err_and}
use Rattle.mmdb_decode.specs.Skipping.{skip_within}
use Rattle.mmdb_decode.proofs.StepLaws.{nothing_taken, kept_decoded, kept_trans, given_up_trans}
use Rattle.mmdb_decode.proofs.SkipLaws.{skip_headless, skip_deep, inline_kept, plain_takes, parts_no, parts_are, pass_goes_on, pass_stops, pass_done}
use Rattle.mmdb_decode.proofs.decoder.Decoder.+pass.Goals as goal

pub returns-in_err-header : goal.returns-in_err-header
returns-in_err-header t c = let p = err_from_is_err_and c.from_residual.result c.from_residual.ensures.1 in rw p.1 (nothing_taken _ _ (skip_headless c.args.nested c.args.self.now (sym c.in_err-header.ensures.value)))

pub returns-in_default : goal.returns-in_default
returns-in_default t c = plain_takes c.args.nested c.args.self.now c.pass_scalar.new.self c.in_ok-header.header c.pass_scalar.result c.stays_within.ensures (sym c.in_ok-header.ensures.value) (sym c.in_default.ensures.value) c.pass_scalar.ensures

pub returns-then-nested-eq0 : goal.returns-then-nested-eq0
returns-then-nested-eq0 t c = nothing_taken _ _ (rw c.if-nested-eq0.true (skip_deep c.args.self.now c.in_ok-header.header c.in-Some.parts (sym c.in_ok-header.ensures.value) (sym c.in-Some.ensures.value)))

pub returns-in_err-enter_inline : goal.returns-in_err-enter_inline
returns-in_err-enter_inline t c = let p = err_from_is_err_and c.from_residual-in_err-enter_inline.result c.from_residual-in_err-enter_inline.ensures.1 in rw p.1 (c.in_err-enter_inline.ensures.0, parts_no c.args.nested (c.args.nested - 1) c.args.self.now c.in_ok-header.header c.in-Some.parts (omega (arith, c.if-nested-eq0.false)) (sym c.in_ok-header.ensures.value) (sym c.in-Some.ensures.value) c.in_err-enter_inline.ensures.1)

pub loop-left-init : goal.loop-left-init
loop-left-init t c =
    let inner = c.args.nested - 1 in
    let entered = inline_kept c.args.self.now c.enter_inline.new.self c.in_ok-header.header c.in-Some.parts c.in_ok-enter_inline.ensures in
    record {
      rest = parts_are c.args.nested inner c.args.self.now c.enter_inline.new.self c.in_ok-header.header c.in-Some.parts (omega (arith, c.if-nested-eq0.false)) (sym c.in_ok-header.ensures.value) (sym c.in-Some.ensures.value) c.in_ok-enter_inline.ensures ∙ c.pass_short-left.ensures.passed.rest inner;
      kept = kept_trans c.args.self.now c.enter_inline.new.self c.pass_short-left.new.self entered c.pass_short-left.ensures.passed.kept;
    }

pub returns-in_err-pass : goal.returns-in_err-pass
returns-in_err-pass t c =
    let p = err_from_is_err_and c.from_residual-in_err-pass.result c.from_residual-in_err-pass.ensures.1 in
    rw p.1 (given_up_trans c.args.self.now c.loop-left.self c.pass.new.self c.loop-left.invariant.kept c.in_err-pass.ensures.0, pass_stops (skip_within (c.args.nested - 1)) _ c.loop-left.left (c.loop-left.left - 1) c.loop-left.self c.loop-left.invariant.rest (omega (arith, c.loop-left-test.true)) c.in_err-pass.ensures.1)

pub loop-left-preserved : goal.loop-left-preserved
loop-left-preserved t c =
    let inner = c.args.nested - 1 in
    let passed = kept_decoded false (skip_within inner) c.loop-left.self c.pass.new.self tt c.in_ok-pass.ensures in
    let shorts = c.pass_short-left-in-loop-left in
    record {
      rest = pass_goes_on (skip_within inner) _ c.loop-left.left (c.loop-left.left - 1) c.loop-left.self c.pass.new.self c.loop-left.invariant.rest (omega (arith, c.loop-left-test.true)) c.in_ok-pass.ensures ∙ shorts.ensures.passed.rest inner;
      kept = kept_trans c.args.self.now c.loop-left.self shorts.new.self c.loop-left.invariant.kept (kept_trans c.loop-left.self c.pass.new.self shorts.new.self passed shorts.ensures.passed.kept);
    }

pub returns : goal.returns
returns t c = pass_done (skip_within (c.args.nested - 1)) _ c.loop-left.left c.loop-left.self c.loop-left.invariant.rest (omega (arith, c.loop-left-test.false)) c.stays_within-2.ensures
