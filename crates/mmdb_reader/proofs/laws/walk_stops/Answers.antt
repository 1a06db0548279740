use Rattle.mmdb_reader.proofs.StopLemmas.{stops_are_exact}
use Rattle.mmdb_reader.proofs.WholeLemmas.{offsets_are_exact}
use Rattle.mmdb_reader.proofs.laws.walk_stops.Goals as goal

pub returns : goal.returns
returns c = record { stops = stops_are_exact; offsets = offsets_are_exact }
