use Rattle.std.proofs.Common.{true, false}
use Rattle.mmdb_decode.specs.Scalars.{u64_at}
use Rattle.mmdb_decode.proofs.StepLaws.{kept_reads}
use Rattle.mmdb_record.proofs.decode.U64Decode.decode.Goals as goal

pub returns-clause-kept : goal.returns-clause-kept
returns-clause-kept c = kept_reads (λ v. v) true false u64_at _ _ _ c.read_u64.ensures
