use Rattle.mmdb_addresses.specs.Words.{HasZone, HasBrackets}
use Rattle.mmdb_addresses.proofs.FindLaws.{finds_second}
use Rattle.mmdb_addresses.proofs.words.dressed_address.Goals as goal

pub returns-in-None : goal.returns-in-None
returns-in-None c = finds_second (HasZone c.args.word.now) (HasBrackets c.args.word.now) c.address_in_brackets.result c.in-None.ensures c.address_in_brackets.ensures
