use Rattle.std.proofs.Common.{true, false}
use Rattle.mmdb_decode.specs.Scalars.{float_at}
use Rattle.mmdb_decode.proofs.StepLaws.{kept_reads}
use Rattle.mmdb_record.proofs.decode.FloatDecode.decode.Goals as goal

pub returns-clause-kept : goal.returns-clause-kept
returns-clause-kept c = kept_reads (λ v. v.bits) true false float_at _ _ _ c.read_float.ensures
