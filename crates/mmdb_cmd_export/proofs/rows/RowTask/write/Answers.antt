use Rattle.mmdb_cmd_export.proofs.rows.RowTask.write.Goals as goal

pub write_part-requires : goal.write_part-requires
write_part-requires g c = c.in_ok-rows.ensures.fits (g.W.Walk.sections c.args.walk) c.requires
