use Rattle.std.proofs.Common.{sym}
use Rattle.mmdb_decode.proofs.SkipLaws.{scalar_skipped}
use Rattle.mmdb_decode.specs.Skipping.{most_nested}
use Rattle.mmdb_decode.proofs.decoder.try_reads.passed_scalar.Goals as goal

pub returns-in-Ok-passed_end : goal.returns-in-Ok-passed_end
returns-in-Ok-passed_end c = λ levels. scalar_skipped most_nested c.args.section.now c.args.offset levels c.in-Ok-passed_end.next c.in-Ok.header (sym c.in-Ok.ensures.value) (sym c.in-None.ensures.value) (sym c.in-Ok-passed_end.ensures)
