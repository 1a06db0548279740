use Rattle.std.proofs.Common.{rules, refl, inr}
use Rattle.mmdb_cmd_show.proofs.AskedLaws.{not_apart}
use Rattle.mmdb_cmd_show.proofs.databases.value_in.Goals as goal

pub returns-in-Err : goal.returns-in-Err
returns-in-Err c = record { value = tt; unread = (refl, inr (c.if-is_passed.ensures, not_apart c.in-Err.error (search rules) c.in-Err.ensures.unread)) }
