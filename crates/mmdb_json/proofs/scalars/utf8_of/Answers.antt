use Rattle.mmdb_json.proofs.ScalarTexts.{utf8_result}
use Rattle.mmdb_json.proofs.scalars.utf8_of.Goals as goal

pub returns-else-bytes-lt-LONG-clause-utf8 : goal.returns-else-bytes-lt-LONG-clause-utf8
returns-else-bytes-lt-LONG-clause-utf8 c = utf8_result c.from_utf8.result c.args.bytes.now c.ok-else-bytes-lt-LONG.result _ _ c.from_utf8.ensures.cases c.ok-else-bytes-lt-LONG.ensures.value
