use Rattle.std.proofs.Common.{◌<◌, ◌⊎◌, inl, inr}
use Rattle.mmdb_blocks.proofs.RangeLaws.{begins-behind, same-behind}
use Rattle.mmdb_blocks.proofs.except.skip.Goals.{else-range-from-via-then-range-from+else-range, else-range-from-via-else-range-from}
use Rattle.mmdb_blocks.proofs.except.skip.Goals as goal

pub loop-range-preserved : goal.loop-range-preserved
loop-range-preserved c =
    let x = c.in-Some.range.now in
    let passed : (x.last < c.args.from) ⊎ (x.last < x.first) = elim c.else-range-from.branch [
      | else-range-from-via-then-range-from+else-range w ↦ inr w.if-range.false
      | else-range-from-via-else-range-from w ↦ inl w.if-range-from.false
    ] in
    record {
      begins = begins-behind x c.in-Some.behind.now c.loop-range.rest.now c.in-Some.ensures.cases.0 c.loop-range.invariant.begins;
      same = λ a le. same-behind a c.args.from x c.in-Some.behind.now c.loop-range.rest.now c.args.others.now le c.in-Some.ensures.cases.0 passed (c.loop-range.invariant.same a le);
    }
