use Rattle.mmdb_record.specs.Tables.{fields_of, no_parts, whole_of, record_of}
use Rattle.mmdb_record.proofs.RecordStandingLaws.{reads_whole_records, known_names_stand_once}
use Rattle.mmdb_record.proofs.FieldNameLaws.{field_names_stand_once}
use Rattle.mmdb_record.proofs.OneLaws.{one_record_stands}
use Rattle.mmdb_record.proofs.laws.table_is_what_stands.Goals as goal

pub returns-clause-read : goal.returns-clause-read
unfolding record_of
returns-clause-read g c = reads_whole_records (fields_of g.R.Fields.table) (no_parts g.R.Fields.table) (whole_of g.R.Fields.table)

pub returns-clause-known_names : goal.returns-clause-known_names
returns-clause-known_names g c = known_names_stand_once (fields_of g.R.Fields.table) (no_parts g.R.Fields.table)

pub returns-clause-field_names : goal.returns-clause-field_names
returns-clause-field_names g c = field_names_stand_once g.R.Fields.table

pub returns-clause-one : goal.returns-clause-one
returns-clause-one g c = one_record_stands (fields_of g.R.Fields.table) (no_parts g.R.Fields.table)
