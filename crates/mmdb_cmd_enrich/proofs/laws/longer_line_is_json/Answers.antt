use Rattle.mmdb_cmd_enrich.proofs.GainLaws.{longer_text, longer_row}
use Rattle.mmdb_cmd_enrich.proofs.laws.longer_line_is_json.Goals as goal

pub returns-clause-text : goal.returns-clause-text
returns-clause-text c = longer_text

pub returns-clause-row : goal.returns-clause-row
returns-clause-row c = longer_row
