use Rattle.mmdb_cmd_enrich.proofs.found.WholeRecordReadAlong.outline_along.Goals as goal

pub returns : goal.returns
returns g c = c.value_of.ensures _ c.outline_along.ensures
