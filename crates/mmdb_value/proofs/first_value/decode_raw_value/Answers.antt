use Rattle.std.proofs.Common.{false}
use Rattle.mmdb_value.specs.RawValues.{raw_tree}
use Rattle.mmdb_value.proofs.StandingLaws.{decoded_whole, rejected_whole}
use Rattle.mmdb_value.proofs.first_value.decode_raw_value.Goals as goal

pub returns-clause-ok : goal.returns-clause-ok
returns-clause-ok c = decoded_whole false raw_tree c.args.section.now c.decode.result c.decode.ensures.ok

pub returns-clause-err : goal.returns-clause-err
returns-clause-err c = rejected_whole false c.args.section.now c.decode.result c.decode.ensures.err
