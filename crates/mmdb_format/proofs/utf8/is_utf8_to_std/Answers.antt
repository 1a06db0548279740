use Rattle.mmdb_format.proofs.Texts.{utf8_is, utf8_is_not}
use Rattle.mmdb_format.proofs.utf8.is_utf8_to_std.Goals as goal

pub returns-in-Ok : goal.returns-in-Ok
returns-in-Ok c = utf8_is c.args.bytes.now c.in-Ok.ensures.cases.1

pub returns-in-Err : goal.returns-in-Err
returns-in-Err c = utf8_is_not c.args.bytes.now c.in-Err.ensures.cases.0
