use Rattle.mmdb_record.proofs.RecordStandingLaws.{reads_records, reads_whole_records, known_names_stand_once}
use Rattle.mmdb_record.proofs.OneLaws.{one_record_stands}
use Rattle.mmdb_record.proofs.laws.record_is_what_stands.Goals as goal

pub returns-clause-read : goal.returns-clause-read
returns-clause-read g c = reads_records g.R.Record.fields g.R.Record.none

pub returns-clause-known_names : goal.returns-clause-known_names
returns-clause-known_names g c = known_names_stand_once g.R.Record.fields g.R.Record.none

pub returns-clause-whole : goal.returns-clause-whole
returns-clause-whole g c = reads_whole_records g.R.Record.fields g.R.Record.none g.R.Record.whole

pub returns-clause-one : goal.returns-clause-one
returns-clause-one g c = one_record_stands g.R.Record.fields g.R.Record.none
