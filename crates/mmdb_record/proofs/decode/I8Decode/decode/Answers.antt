use Rattle.std.proofs.Common.{true}
use Rattle.mmdb_decode.proofs.StepLaws.{kept_decoded}
use Rattle.mmdb_record.proofs.decode.I8Decode.decode.Goals as goal

pub returns-clause-kept : goal.returns-clause-kept
returns-clause-kept c = kept_decoded true _ c.args.d.now c.read_between.new.d c.in_ok-read_between.field-0 c.in_ok-read_between.ensures.read
