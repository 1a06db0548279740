use Rattle.std.proofs.Common.{refl}
use Rattle.mmdb_writer.proofs.MakingLemmas.{made_empty}
use Rattle.mmdb_writer.proofs.writer.Writer.new.Goals as goal

pub returns-clause-made : goal.returns-clause-made
returns-clause-made c = made_empty c.args.options _ refl c.new.ensures.bytes c.new.ensures.added c.new-2.ensures.items c.new-3.ensures.items
