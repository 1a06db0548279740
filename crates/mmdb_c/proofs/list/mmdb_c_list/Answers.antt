use Rattle.mmdb_c.proofs.ListLemmas.{has_some}
use Rattle.mmdb_c.proofs.list.mmdb_c_list.Goals as goal

pub returns-in-Ok-clause-some : goal.returns-in-Ok-clause-some
returns-in-Ok-clause-some c = λ _. has_some c.args.section.now c.args.offset c.in-Ok.filled.parts c.in-Ok.filled.next c.args.out.now c.put.new.out c.in-Ok.ensures.listed
