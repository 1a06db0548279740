use Rattle.std.proofs.Common.{arith}
use Rattle.mmdb_blocks.proofs.block.Block.is_left_half.Goals as goal

pub returns-then-is_before : goal.returns-then-is_before
returns-then-is_before c = (
  λ t. record { prefix = omega arith; is_half = (c.is_left.ensures.0 t).0; aligned = (c.is_left.ensures.0 t).1; next = c.is_before.ensures.0 c.if-is_before.true },
  λ h. c.is_left.ensures.1 (h.is_half, h.aligned),
)
