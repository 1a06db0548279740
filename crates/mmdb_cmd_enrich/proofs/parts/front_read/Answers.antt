use Rattle.std.proofs.Common.{arith, false, refl}
use Rattle.mmdb_cmd_enrich.proofs.PartLaws.{front_reads}
use Rattle.mmdb_cmd_enrich.proofs.parts.front_read.Goals as goal

pub returns : goal.returns
returns c =
    front_reads c.args.rows c.args.reading c.in-Lines.delimiter c.args.column false c.args.row.now c.word_part.result c.in-Lines.is c.in-First.is (omega arith) refl c.word_part.ensures
