use Rattle.std.proofs.Common.{[], ◌∷◌, Some, arith, sym}
use Rattle.mmdb_cmd_enrich.proofs.RecordLaws.{none_here}
use Rattle.mmdb_cmd_enrich.proofs.found.read_alone.Goals as goal

pub returns-then-number-gt0 : goal.returns-then-number-gt0
returns-then-number-gt0 g c = sym (none_here (Some c.args.found.now ∷ []) c.args.number c.args.path.now (omega arith))
