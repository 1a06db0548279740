use Rattle.std.proofs.Common.{◌≡◌, ◌+◌, ◌≤◌, arith}
use Rattle.mmdb_blocks.specs.Blocks.{end}
use Rattle.mmdb_blocks.proofs.RangeLaws.{both-ways, other-way, up-to}
use Rattle.mmdb_blocks.proofs.ListedLaws.{takes-both, next-block}
use Rattle.mmdb_blocks.proofs.listed.push_range.Goals as goal

pub returns-then-last-range : goal.returns-then-last-range
returns-then-last-range c = λ kept.
    let i = c.loop-from.invariant in
    let b = c.largest-block.result in
    let taken = i.takes kept in
    let ends : end b ≡ c.args.range.last + 1 = omega (arith, c.largest-block.ensures.within, c.last-last.ensures, c.if-last-range.true) in
    takes-both _ _ _ _ _ _ _ _ _ taken (c.in_ok-push_block.ensures taken.kept)
    (λ a. both-ways (next-block a c.args.range.first c.loop-from.from (c.args.range.last + 1) b c.largest-block.ensures.first ends i.low (omega (arith, i.high))) (other-way (up-to a c.args.range.first c.args.range.last)))

pub loop-from-preserved : goal.loop-from-preserved
loop-from-preserved c =
    let i = c.loop-from.invariant in
    let b = c.largest-block.result in
    let from : c.loop-from.from ≤ c.last-last.result + 1 = omega (arith, c.last-last.ensures, c.largest-block.ensures.first) in
    record {
      low = omega (arith, i.low, from);
      high = omega (arith, c.if-last-range.false);
      takes = λ kept.
          let taken = i.takes kept in
          let ends : end b ≡ c.last-last.result + 1 = omega (arith, c.last-last.ensures) in
          takes-both _ _ _ _ _ _ _ _ _ taken (c.in_ok-push_block.ensures taken.kept)
          (λ a. next-block a c.args.range.first c.loop-from.from (c.last-last.result + 1) b c.largest-block.ensures.first ends i.low from);
    }
