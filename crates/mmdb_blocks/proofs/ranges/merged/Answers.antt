use Rattle.std.proofs.Common.{◌↔◌, List, subst}
use Rattle.std.proofs.lemmas.List.{take_all}
use Rattle.mmdb_blocks.specs.Ranges.{IsAmong}
use Rattle.mmdb_blocks.specs.declared.ranges.BlockRange.{BlockRange}
use Rattle.mmdb_blocks.proofs.RangeLaws.{both-ways, either-same, other-way, among-taken}
use Rattle.mmdb_blocks.proofs.ranges.merged.Goals as goal

pub loop-range-preserved : goal.loop-range-preserved
loop-range-preserved c = λ a.
    both-ways (c.in_ok-add.ensures a)
    (both-ways (either-same (c.loop-range.invariant a)) (other-way (among-taken a c.args.ranges.now c.loop-range.range-index (record { first = 0; last = 0 }) c.loop-range-test.true)))

pub returns : goal.returns
returns c = λ a.
    let P : List BlockRange → Type 0 = λ ys. IsAmong a c.loop-range.items.items ↔ IsAmong a ys in
    subst P (take_all c.loop-range.range-index c.args.ranges.now c.loop-range-test.false) (c.loop-range.invariant a)
