use Rattle.std.proofs.Common.{rules}
use Rattle.mmdb_reader.specs.File.{data_section}
use Rattle.mmdb_reader.specs.Found.{database_asked, offset_found}
use Rattle.mmdb_found.proofs.FoundLaws.{json_along}
use Rattle.mmdb_found.proofs.found.found_json.Goals as goal

pub returns-in-Some-clause-json : goal.returns-in-Some-clause-json
returns-in-Some-clause-json g c = json_along c.args.path.now (data_section (database_asked c.args.found.now)) (offset_found c.args.found.now) c.in_ok-value.value c.in-Some.value c.in_ok-compact-in-Some.field-0.items c.in_ok-value.ensures.ok (search rules) c.in_ok-compact-in-Some.ensures
