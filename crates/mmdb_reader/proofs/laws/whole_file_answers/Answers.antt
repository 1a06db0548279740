use Rattle.mmdb_reader.proofs.AliasedLookups.{lookups_succeed, answered_offsets_are_walked, whole_files_answer}
use Rattle.mmdb_reader.proofs.laws.whole_file_answers.Goals as goal

pub returns : goal.returns
returns c = record { lookups = lookups_succeed; offsets = answered_offsets_are_walked; whole = whole_files_answer }
