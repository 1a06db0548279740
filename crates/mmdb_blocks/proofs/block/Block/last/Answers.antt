use Rattle.std.proofs.Common.{◌-◌, refl, arith}
use Rattle.mmdb_blocks.proofs.NumberLaws.{nested}
use Rattle.mmdb_blocks.proofs.block.Block.last.Goals as goal

pub overflow_add-result : goal.overflow_add-result
overflow_add-result c =
    omega (arith, c.bits_after.ensures, nested c.args.self.now.first 0 (128 - c.args.self.now.prefix) 128 (omega arith) c.requires.aligned refl (omega (arith, c.requires.first)))
