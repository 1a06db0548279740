use Rattle.std.proofs.Common.{[], refl, arith}
use Rattle.mmdb_json.proofs.Containers.{record_appended}
use Rattle.mmdb_json.proofs.record_texts.RecordTexts.lay_out_as.Goals as goal

pub returns-clause-laid_out : goal.returns-clause-laid_out
returns-clause-laid_out c = λ _.
    record_appended c.args.self.now c.args.offset c.in-Some.field-0 c.from-most_levels.result _ c.put_value.new.budget c.args.draft.now c.put_value.new.out [] _ c.in-Some.ensures.value (omega arith) c.requires refl refl refl
