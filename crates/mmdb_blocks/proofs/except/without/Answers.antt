use Rattle.std.proofs.Common.{◌↔◌, List, subst, arith}
use Rattle.std.proofs.lemmas.List.{take_all}
use Rattle.mmdb_blocks.specs.Ranges.{IsAmong}
use Rattle.mmdb_blocks.specs.declared.ranges.BlockRange.{BlockRange}
use Rattle.mmdb_blocks.proofs.RangeLaws.{both-ways, both-same, either-none, other-way, among-taken, more-without}
use Rattle.mmdb_blocks.proofs.except.without.Goals as goal

pub loop-range-preserved-then-range : goal.loop-range-preserved-then-range
loop-range-preserved-then-range c =
    let i = c.loop-range.invariant in
    record {
      begins = i.begins;
      same = i.same;
      left = λ a. both-ways (i.left a)
          (both-same (other-way (both-ways
          (among-taken a c.args.ranges.now c.loop-range.range-index (record { first = 0; last = 0 }) c.loop-range-test.true)
          (either-none (λ h. absurd (omega (arith, h.0, h.1, c.if-range.true)))))));
    }

pub loop-range-preserved : goal.loop-range-preserved
loop-range-preserved c =
    let i = c.loop-range.invariant in
    let h = c.in_ok-rest.ensures in
    record {
      begins = h.begins;
      same = λ a le. both-ways (h.later a le) (i.same a (omega (arith, le, c.if-range.false, c.if-range-floor.false)));
      left = λ a. both-ways (h.left a)
          (both-ways
          (more-without a _ _ (i.left a) (λ ge. i.same a (omega (arith, ge, c.if-range-floor.false))))
          (both-same (other-way (among-taken a c.args.ranges.now c.loop-range.range-index (record { first = 0; last = 0 }) c.loop-range-test.true))));
    }

pub returns : goal.returns
returns c = λ a.
    let P : List BlockRange → Type 0 = λ ys. IsAmong a c.loop-range.left.items ↔ (IsAmong a ys × ¬ IsAmong a c.args.others.now) in
    subst P (take_all c.loop-range.range-index c.args.ranges.now c.loop-range-test.false) (c.loop-range.invariant.left a)
