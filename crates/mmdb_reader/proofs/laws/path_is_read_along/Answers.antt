use Rattle.mmdb_reader.proofs.WayLemmas.{answers-are_read_along}
use Rattle.mmdb_reader.proofs.laws.path_is_read_along.Goals as goal

pub returns : goal.returns
returns g c = answers-are_read_along g.T.Decode.meaning
