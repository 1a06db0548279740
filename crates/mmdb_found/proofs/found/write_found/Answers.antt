use Rattle.std.proofs.Common.{rules}
use Rattle.mmdb_reader.specs.File.{data_section}
use Rattle.mmdb_reader.specs.Found.{database_asked, offset_found}
use Rattle.mmdb_found.proofs.FoundLaws.{writes_along}
use Rattle.mmdb_found.proofs.found.write_found.Goals as goal

pub returns-in-Some-clause-written : goal.returns-in-Some-clause-written
returns-in-Some-clause-written g c = writes_along c.args.path.now (data_section (database_asked c.args.found.now)) (offset_found c.args.found.now) c.in_ok-value.value c.in-Some.value (g.W.TokenSink.tokens c.args.out.now) (g.W.TokenSink.tokens c.write_value.new.out) c.in_ok-value.ensures.ok (search rules) c.in_ok-write_value-in-Some.ensures.shown
