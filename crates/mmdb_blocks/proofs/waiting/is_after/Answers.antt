use Rattle.std.proofs.Common.{◌≤◌, arith, ltb-true, lt-ltb}
use Rattle.mmdb_blocks.specs.Blocks.{end}
use Rattle.mmdb_blocks.proofs.JoinLaws.{at-end-of, from-end-of}
use Rattle.mmdb_blocks.proofs.waiting.is_after.Goals as goal

pub returns-in-Some : goal.returns-in-Some
returns-in-Some c = (
  λ t. at-end-of (λ last. end last ≤ c.args.block.first) c.args.waiting.now c.in-Some.last c.in-Some.ensures (omega (arith, ltb-true _ _ t, c.last.ensures)),
  λ h. lt-ltb _ _ (omega (arith, c.last.ensures, from-end-of (λ last. end last ≤ c.args.block.first) c.args.waiting.now c.in-Some.last c.in-Some.ensures h)),
)
