use Rattle.std.proofs.Common.{List, subst}
use Rattle.std.proofs.lemmas.List.{take_all}
use Rattle.mmdb_blocks.specs.Joining.{waiting_of}
use Rattle.mmdb_blocks.specs.Ranges.{IsAmong}
use Rattle.mmdb_blocks.specs.Working.{Takes}
use Rattle.mmdb_blocks.specs.declared.ranges.BlockRange.{BlockRange}
use Rattle.mmdb_blocks.proofs.RangeLaws.{other-way, among-taken}
use Rattle.mmdb_blocks.proofs.ListedLaws.{takes-both}
use Rattle.mmdb_blocks.proofs.listed.push_ranges.Goals as goal

pub loop-range-preserved : goal.loop-range-preserved
loop-range-preserved c = λ kept.
    let taken = c.loop-range.invariant kept in
    takes-both _ _ _ _ _ _ _ _ _ taken (c.in_ok-push_range.ensures taken.kept)
    (λ a. other-way (among-taken a c.args.ranges.now c.loop-range.range-index (record { first = 0; last = 0 }) c.loop-range-test.true))

pub returns : goal.returns
returns c = λ kept.
    let P : List BlockRange → Type 0 = λ ys. Takes c.args.blocks.now.items (waiting_of c.args.joiner.now) c.loop-range.blocks.items (waiting_of c.loop-range.joiner) (λ a. IsAmong a ys) in
    subst P (take_all c.loop-range.range-index c.args.ranges.now c.loop-range-test.false) (c.loop-range.invariant kept)
