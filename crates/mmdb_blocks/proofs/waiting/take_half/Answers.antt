use Rattle.std.proofs.lemmas.Bool.{false≢true}
use Rattle.mmdb_blocks.specs.Working.{IsNoHalf}
use Rattle.mmdb_blocks.proofs.JoinLaws.{at-end-same}
use Rattle.mmdb_blocks.proofs.waiting.take_half.Goals as goal

pub returns-then-not-is_left_half-clause-apart : goal.returns-then-not-is_left_half-clause-apart
returns-then-not-is_left_half-clause-apart c =
    at-end-same (λ left. IsNoHalf left c.args.right) c.args.waiting.now.items c.deref.result.now c.in_ok-left.left c.deref.ensures.value c.in_ok-left.ensures (λ h. absurd (false≢true (c.if-not-is_left_half.ensures.1 h)))
