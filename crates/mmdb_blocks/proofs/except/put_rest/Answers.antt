use Rattle.std.proofs.Common.{◌+◌, arith}
use Rattle.mmdb_blocks.proofs.RangeLaws.{both-ways, either-right, up-to, up-to-free, put-up-to, among-after, among-begins, among-first, reaches-first}
use Rattle.mmdb_blocks.proofs.except.put_rest.Goals as goal

pub returns-in_default : goal.returns-in_default
returns-in_default c =
    let i = c.loop-other.invariant in record {
      begins = c.skip-rest.ensures.begins;
      later = λ a le. both-ways (c.skip-rest.ensures.same a (omega (arith, i.high, le))) (i.same a (omega (arith, i.high, le)));
      left = λ a. both-ways
          (put-up-to a c.args.first c.loop-other.from (c.args.last + 1) (c.args.last + 1) i.low (omega (arith, i.high)) (omega arith)
          (λ ge lt t. absurd (omega (arith, lt, among-after a c.args.last c.skip-rest.result.now c.skip-rest.ensures.begins c.in_default.ensures ((c.skip-rest.ensures.same a ge).1 ((i.same a ge).1 t)))))
          (λ ge _ lt. absurd (omega (arith, ge, lt)))
          (both-ways (c.in_ok-put.ensures a) (either-right (up-to a c.loop-other.from c.args.last)))
          (i.left a))
          (either-right (up-to-free a c.args.first c.args.last));
    }

pub returns-then-other-last : goal.returns-then-other-last
returns-then-other-last c =
    let i = c.loop-other.invariant in
    let within = c.in-Some.ensures in
    let other = c.in-Some.other in
    let reached = reaches-first c.loop-other.from other c.skip-rest.result.now within.1 c.skip-rest.ensures.reaches in record {
      begins = c.skip-rest.ensures.begins;
      later = λ a le. both-ways (c.skip-rest.ensures.same a (omega (arith, i.high, le))) (i.same a (omega (arith, i.high, le)));
      left = λ a. both-ways
          (put-up-to a c.args.first c.loop-other.from other.first (c.args.last + 1) i.low (omega (arith, i.high)) (omega (arith, within.0))
          (λ ge lt t. absurd (omega (arith, lt, among-begins a other c.skip-rest.result.now c.skip-rest.ensures.begins within.1 ((c.skip-rest.ensures.same a ge).1 ((i.same a ge).1 t)))))
          (λ ge from lt. (i.same a from).0 ((c.skip-rest.ensures.same a from).0 (among-first a other c.skip-rest.result.now within.1 (ge, omega (arith, lt, c.if-other-last.true)))))
          (c.in_ok-put_before.ensures a)
          (i.left a))
          (either-right (up-to-free a c.args.first c.args.last));
    }

pub loop-other-preserved : goal.loop-other-preserved
loop-other-preserved c =
    let i = c.loop-other.invariant in
    let within = c.in-Some.ensures in
    let other = c.in-Some.other in
    let reached = reaches-first c.loop-other.from other c.skip-rest.result.now within.1 c.skip-rest.ensures.reaches in record {
      begins = c.skip-rest.ensures.begins;
      low = omega (arith, i.low, reached.0);
      high = omega (arith, c.if-other-last.false);
      same = λ a le. both-ways (c.skip-rest.ensures.same a (omega (arith, le, reached.0))) (i.same a (omega (arith, le, reached.0)));
      left = λ a.
          put-up-to a c.args.first c.loop-other.from other.first (other.last + 1) i.low (omega (arith, reached.0)) (omega (arith, reached.1))
          (λ ge lt t. absurd (omega (arith, lt, among-begins a other c.skip-rest.result.now c.skip-rest.ensures.begins within.1 ((c.skip-rest.ensures.same a ge).1 ((i.same a ge).1 t)))))
          (λ ge from lt. (i.same a from).0 ((c.skip-rest.ensures.same a from).0 (among-first a other c.skip-rest.result.now within.1 (ge, omega (arith, lt)))))
          (c.in_ok-put_before.ensures a)
          (i.left a);
    }
