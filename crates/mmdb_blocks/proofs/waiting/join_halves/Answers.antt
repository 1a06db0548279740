use Rattle.std.proofs.Common.{◌∙◌}
use Rattle.mmdb_blocks.proofs.JoinLaws.{takes-ready, takes-block, takes-pending}
use Rattle.mmdb_blocks.proofs.waiting.join_halves.Goals as goal

pub loop-larger-preserved : goal.loop-larger-preserved
loop-larger-preserved c =
    let before = c.loop-larger.invariant in
    let taken = c.in-Some.ensures.none in
    let old = c.loop-larger.waiting.items in
    let new = c.take_half.new.waiting.items in (
      takes-ready old new c.loop-larger.joined c.in-Some.larger before.0 taken,
      takes-block old new c.loop-larger.joined c.in-Some.larger before.0 taken,
      c.in-Some.ensures.capacity ∙ before.2,
      λ pushed handed h. takes-pending pushed handed old new c.loop-larger.joined c.in-Some.larger before.0 taken (before.3 pushed handed h),
    )

pub returns-clause-pending : goal.returns-clause-pending
returns-clause-pending c = λ pushed handed h. rw c.in_default.ensures.none (c.loop-larger.invariant.3 pushed handed h)
