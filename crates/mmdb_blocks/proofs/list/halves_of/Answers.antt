use Rattle.std.proofs.Common.{arith}
use Rattle.mmdb_blocks.proofs.ListLaws.{upper-fits}
use Rattle.mmdb_blocks.proofs.list.halves_of.Goals as goal

pub overflow_add-upper : goal.overflow_add-upper
overflow_add-upper c = omega (arith, upper-fits c.args.block c.requires.block c.requires.prefix)
