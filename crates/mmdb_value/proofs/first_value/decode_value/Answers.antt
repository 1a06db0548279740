use Rattle.std.proofs.Common.{true}
use Rattle.mmdb_value.specs.Values.{value_tree}
use Rattle.mmdb_value.proofs.StandingLaws.{decoded_whole, rejected_whole}
use Rattle.mmdb_value.proofs.first_value.decode_value.Goals as goal

pub returns-clause-ok : goal.returns-clause-ok
returns-clause-ok c = decoded_whole true value_tree c.args.section.now c.decode.result c.decode.ensures.ok

pub returns-clause-err : goal.returns-clause-err
returns-clause-err c = rejected_whole true c.args.section.now c.decode.result c.decode.ensures.err
