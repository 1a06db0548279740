use Rattle.std.proofs.Common.{◌-◌, arith, eqb-true, eq-eqb, ltb-true, lt-ltb}
use Rattle.std.proofs.lemmas.Nat.{pow_pos}
use Rattle.mmdb_blocks.proofs.block.Block.is_before.Goals as goal

pub returns-then-right-gt0 : goal.returns-then-right-gt0
returns-then-right-gt0 c = (
  λ t. omega (arith, eqb-true _ _ t, c.last.ensures, c.if-right-gt0.true),
  λ h. eq-eqb _ _ (omega (arith, h, c.last.ensures)),
)

pub returns-else-right-gt0 : goal.returns-else-right-gt0
returns-else-right-gt0 c = (
  λ t. absurd (omega (arith, ltb-true 0 c.args.right.first t, c.if-right-gt0.false)),
  λ h. lt-ltb 0 c.args.right.first (omega (arith, h, pow_pos (128 - c.args.self.now.prefix))),
)
