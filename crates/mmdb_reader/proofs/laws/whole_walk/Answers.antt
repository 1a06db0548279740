use Rattle.mmdb_reader.proofs.ListingLemmas.{whole_walk_lists_all}
use Rattle.mmdb_reader.proofs.laws.whole_walk.Goals as goal

pub returns : goal.returns
returns c = whole_walk_lists_all
