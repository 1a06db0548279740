use Rattle.mmdb_reader.proofs.LawLemmas.{leaves_are_disjoint, each_address_has_one_leaf}
use Rattle.mmdb_reader.proofs.laws.leaves_partition.Goals as goal

pub returns : goal.returns
returns c = record { disjoint = leaves_are_disjoint; covering = each_address_has_one_leaf }
