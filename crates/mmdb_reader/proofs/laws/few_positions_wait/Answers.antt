use Rattle.std.proofs.Common.{◌+◌, arith}
use Rattle.mmdb_tree.proofs.Narrow.{few-wait, cut-first}
use Rattle.mmdb_reader.specs.Stops.{walked_tree, stops, most_stops}
use Rattle.mmdb_reader.proofs.PositionLemmas.{width-le}
use Rattle.mmdb_reader.proofs.laws.few_positions_wait.Goals as goal

pub returns-clause-wait : goal.returns-clause-wait
returns-clause-wait c = λ db n less. let wait = few-wait (walked_tree db) n less in omega (arith, wait, width-le db)

pub returns-clause-stops : goal.returns-clause-stops
returns-clause-stops c = λ db. cut-first (most_stops db + 1) (stops db)
