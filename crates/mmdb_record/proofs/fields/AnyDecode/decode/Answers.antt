use Rattle.std.proofs.Common.{true}
use Rattle.mmdb_decode.specs.State.{decoded}
use Rattle.mmdb_record.specs.Tables.{data_of, record_of}
use Rattle.mmdb_decode.proofs.StepLaws.{kept_decoded, fails_as}
use Rattle.mmdb_record.proofs.fields.AnyDecode.decode.Goals as goal

pub returns-in-Ok-clause-kept : goal.returns-in-Ok-clause-kept
returns-in-Ok-clause-kept g c = kept_decoded true (record_of g.R.Fields.table) c.args.d.now c.read_into.new.d (data_of g.R.Fields.table c.read_into.new.fields) c.in-Ok.ensures.read.ok

pub returns-in-Err-clause-err : goal.returns-in-Err-clause-err
returns-in-Err-clause-err g c = λ _. fails_as g.R.Fields.free c.in-Err.rejected c.error_of.result (decoded true (record_of g.R.Fields.table) c.args.d.now) c.error_of.ensures c.in-Err.ensures.read.err
