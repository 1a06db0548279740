use Rattle.std.proofs.Common.{inr}
use Rattle.mmdb_filter.specs.Lines.{most_seen}
use Rattle.mmdb_cmd_enrich.proofs.object_member.ObjectMember.line_read.Goals as goal

pub returns-in-Err : goal.returns-in-Err
unfolding most_seen
returns-in-Err c = inr c.if-text-gt-MOST_SEEN.true
