use Rattle.mmdb_addresses.proofs.WordLaws.{no_port}
use Rattle.mmdb_addresses.proofs.words.address_with_port.Goals as goal

pub returns-in-Err : goal.returns-in-Err
returns-in-Err c = no_port c.args.word.now c.end_of-colon.result c.end_of-colon.ensures.end c.in-Err.ensures
