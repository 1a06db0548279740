use Rattle.std.proofs.Common.{◌-◌, sym, ◌∙◌, eqb-true, eq-eqb}
use Rattle.mmdb_blocks.proofs.NumberLaws.{masked}
use Rattle.mmdb_blocks.proofs.block.Block.is_left.Goals as goal

pub returns-then-self-gt0 : goal.returns-then-self-gt0
returns-then-self-gt0 c =
    let same = masked c.args.self.now.first c.bits_after.result (128 - (c.args.self.now.prefix - 1)) c.bits_after.ensures in (
      λ t. (c.if-self-gt0.true, sym same ∙ eqb-true _ _ t),
      λ h. eq-eqb _ _ (same ∙ h.1),
    )
