use Rattle.std.proofs.Common.{true}
use Rattle.mmdb_record.specs.Tables.{data_of, record_of}
use Rattle.mmdb_decode.proofs.StepLaws.{kept_decoded}
use Rattle.mmdb_record.proofs.fields.read_into.Goals as goal

pub go_to-requires : goal.go_to-requires
go_to-requires g c = (kept_decoded true (record_of g.R.Fields.table) c.args.d.now c.read_map_into.new.d (data_of g.R.Fields.table c.read_map_into.new.fields) (rw c.again-here.ensures at c.in-Ok.ensures.read.ok)).section
