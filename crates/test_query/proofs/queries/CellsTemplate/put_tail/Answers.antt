use Rattle.test_query.proofs.queries.CellsTemplate.put_tail.Goals as goal

pub returns-in-Ok-clause-tail : goal.returns-in-Ok-clause-tail
returns-in-Ok-clause-tail g c = (c.as_slice.result.now, tt, c.in-Ok.ensures.items)
