use Rattle.std.proofs.Common.{true, false}
use Rattle.mmdb_decode.specs.Scalars.{bool_at}
use Rattle.mmdb_decode.proofs.StepLaws.{kept_reads}
use Rattle.mmdb_record.proofs.decode.BoolDecode.decode.Goals as goal

pub returns-clause-kept : goal.returns-clause-kept
returns-clause-kept c = kept_reads (λ v. v) true false bool_at _ _ _ c.read_bool.ensures
