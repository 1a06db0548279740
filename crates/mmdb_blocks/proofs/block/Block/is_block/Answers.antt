use Rattle.std.proofs.Common.{◌-◌, sym, ◌∙◌, arith, eqb-true, eq-eqb}
use Rattle.mmdb_blocks.proofs.NumberLaws.{masked}
use Rattle.mmdb_blocks.proofs.block.Block.is_block.Goals as goal

pub returns-then-self-le128 : goal.returns-then-self-le128
returns-then-self-le128 c =
    let same = masked c.args.self.now.first c.bits_after.result (128 - c.args.self.now.prefix) c.bits_after.ensures in (
      λ t. record { prefix = c.if-self-le128.true; first = omega arith; aligned = sym same ∙ eqb-true _ _ t },
      λ h. eq-eqb _ _ (same ∙ h.aligned),
    )
