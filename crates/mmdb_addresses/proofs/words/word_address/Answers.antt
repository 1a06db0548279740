use Rattle.std.proofs.Common.{◌⊎◌}
use Rattle.mmdb_addresses.specs.Rows.{IsPlain}
use Rattle.mmdb_addresses.specs.Words.{HasZone, HasBrackets}
use Rattle.mmdb_addresses.proofs.FindLaws.{finds_second}
use Rattle.mmdb_addresses.proofs.words.word_address.Goals as goal

pub returns-in-None : goal.returns-in-None
returns-in-None c =
    finds_second (IsPlain c.args.word.now) (λ address. HasZone c.args.word.now address ⊎ HasBrackets c.args.word.now address) c.dressed_address.result c.in-None.ensures c.dressed_address.ensures
