use Rattle.std.proofs.lemmas.Result.{err_from_is_err_and}
use Rattle.mmdb_record.specs.Records.{record_at}
use Rattle.mmdb_record.proofs.RecordLaws.{whole_ok, whole_err, whole_unread}
use Rattle.mmdb_record.proofs.record.read_record.Goals as goal

pub returns-in_err-fields-clause-err : goal.returns-in_err-fields-clause-err
returns-in_err-fields-clause-err g c = let p = err_from_is_err_and c.from_residual.result c.from_residual.ensures.1 in rw (p.1, p.2) (whole_unread g.R.Record.free c.in_err-fields.field-0.0 g.R.Record.whole (record_at g.R.Record.fields g.R.Record.none) c.args.d.now c.in_err-fields.ensures.err)

pub returns-clause-ok : goal.returns-clause-ok
returns-clause-ok g c = whole_ok g.R.Record.whole g.R.Record.whole_datum (record_at g.R.Record.fields g.R.Record.none) c.args.d.now c.read_map.new.d (g.R.Record.datum c.in_ok-fields.fields) c.finish.result c.in_ok-fields.ensures.ok c.finish.ensures.ok

pub returns-clause-err : goal.returns-clause-err
returns-clause-err g c = whole_err g.R.Record.free g.R.Record.whole (record_at g.R.Record.fields g.R.Record.none) c.args.d.now c.read_map.new.d (g.R.Record.datum c.in_ok-fields.fields) c.finish.result c.in_ok-fields.ensures.ok c.finish.ensures.err
