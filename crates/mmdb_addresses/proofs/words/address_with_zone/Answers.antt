use Rattle.mmdb_addresses.proofs.WordLaws.{no_zone}
use Rattle.mmdb_addresses.proofs.words.address_with_zone.Goals as goal

pub returns-in-Err : goal.returns-in-Err
returns-in-Err c = no_zone c.args.word.now c.end_of-percent.result c.end_of-percent.ensures.end c.in-Err.ensures
