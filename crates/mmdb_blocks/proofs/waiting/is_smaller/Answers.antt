use Rattle.std.proofs.Common.{◌<◌, ltb-true, lt-ltb}
use Rattle.mmdb_blocks.proofs.JoinLaws.{at-end-of, from-end-of}
use Rattle.mmdb_blocks.proofs.waiting.is_smaller.Goals as goal

pub returns-in-Some : goal.returns-in-Some
returns-in-Some c = (
  λ t. at-end-of (λ last. last.prefix < c.args.block.prefix) c.args.waiting.now c.in-Some.last c.in-Some.ensures (ltb-true _ _ t),
  λ h. lt-ltb _ _ (from-end-of (λ last. last.prefix < c.args.block.prefix) c.args.waiting.now c.in-Some.last c.in-Some.ensures h),
)
