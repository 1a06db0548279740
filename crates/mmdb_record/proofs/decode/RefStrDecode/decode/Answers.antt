use Rattle.std.proofs.Common.{true, false}
use Rattle.mmdb_decode.specs.Scalars.{text_at}
use Rattle.mmdb_decode.proofs.StepLaws.{kept_reads}
use Rattle.mmdb_record.proofs.decode.RefStrDecode.decode.Goals as goal

pub returns-clause-kept : goal.returns-clause-kept
returns-clause-kept c = kept_reads (λ v. v.now) true false text_at _ _ _ c.read_str.ensures
