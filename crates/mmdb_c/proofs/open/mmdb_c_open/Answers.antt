use Rattle.mmdb_c.proofs.OpenedLemmas.{IsOfFile-of}
use Rattle.mmdb_c.proofs.open.mmdb_c_open.Goals as goal

pub returns-clause-is_of : goal.returns-clause-is_of
returns-clause-is_of c = λ _.
    IsOfFile-of c.args.file.now _ _ c.source_decides.ensures c.in-Ok.ensures.accepted.is (c.facts_of.ensures c.args.file.now c.in-Ok.ensures.accepted)
