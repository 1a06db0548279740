use Rattle.std.proofs.Common.{refl}
use Rattle.mmdb_reader.specs.File.{data_section}
use Rattle.mmdb_reader.specs.Found.{section_of_record, place_of_record}
use Rattle.mmdb_value.specs.Values.{value_tree}
use Rattle.mmdb_cmd_diff.proofs.Showing.{shown_at}
use Rattle.mmdb_cmd_diff.proofs.differences.record_text_at.Goals as goal

pub returns : goal.returns
returns c =
    shown_at (data_section c.args.database.now) (section_of_record c.stored_record.result) c.args.offset c.in-Some.offset (place_of_record c.stored_record.result)
    (value_tree c.in_ok-record.record) c.in_ok-text.field-0.items c.stored_record.ensures.section c.stored_record.ensures.place c.in-Some.is (c.in_ok-record.ensures.ok refl) c.in_ok-text.ensures
