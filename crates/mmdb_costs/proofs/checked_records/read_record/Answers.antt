use Rattle.std.proofs.Common.{refl}
use Rattle.mmdb_value.specs.Values.{value_tree}
use Rattle.mmdb_costs.proofs.Reading.{read_readable, unread_apart}
use Rattle.mmdb_costs.proofs.checked_records.read_record.Goals as goal

pub returns-in-Ok-clause-ok : goal.returns-in-Ok-clause-ok
returns-in-Ok-clause-ok c = read_readable c.args.section.now c.args.offset c.new-decoder.result c.decode.new.d (value_tree c.in-Ok.value) c.new-decoder.ensures (c.in-Ok.ensures.ok refl)

pub returns-in-Err-clause-err : goal.returns-in-Err-clause-err
returns-in-Err-clause-err c = unread_apart c.args.section.now c.args.offset c.new-decoder.result c.in-Err.error c.new-decoder.ensures (c.in-Err.ensures.err refl)
