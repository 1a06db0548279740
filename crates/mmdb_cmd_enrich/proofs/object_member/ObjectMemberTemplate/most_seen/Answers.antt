use Rattle.std.proofs.Common.{sym, ap}
use Rattle.mmdb_filter.specs.Lines.{most_seen}
use Rattle.mmdb_cmd_enrich.specs.Objects.{object_most}
use Rattle.mmdb_cmd_enrich.proofs.object_member.ObjectMemberTemplate.most_seen.Goals as goal

pub returns-else-self-clause-most : goal.returns-else-self-clause-most
unfolding most_seen
returns-else-self-clause-most c = sym (ap object_most c.if-self.false)
