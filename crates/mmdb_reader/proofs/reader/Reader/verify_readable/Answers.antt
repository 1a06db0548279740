use Rattle.mmdb_reader.specs.Whole.{HasReadableRecords}
use Rattle.mmdb_reader.proofs.Sources.{apart}
use Rattle.mmdb_reader.proofs.RecordLemmas.{apart_as, held_good, held_readable}
use Rattle.mmdb_reader.proofs.reader.Reader.verify_readable.Goals as goal

pub check_records-requires : goal.check_records-requires
check_records-requires g c = held_good c.args.self.now c.data_section.result.now c.args.set.now c.data_section.ensures c.requires.offsets c.requires.whole

pub returns-in-Ok-clause-ok : goal.returns-in-Ok-clause-ok
returns-in-Ok-clause-ok g c = (held_readable c.args.self.now c.data_section.result.now c.args.set.now c.data_section.ensures c.requires.offsets).0 c.in-Ok.ensures.ok

pub returns-in-Err-clause-err : goal.returns-in-Err-clause-err
returns-in-Err-clause-err g c =
    let both = held_readable c.args.self.now c.data_section.result.now c.args.set.now c.data_section.ensures c.requires.offsets in
    apart_as c.counted_from_start.result c.in-Err.error _ c.counted_from_start.ensures (apart c.in-Err.error _ _ (λ no all. no (both.1 all)) c.in-Err.ensures.err)
