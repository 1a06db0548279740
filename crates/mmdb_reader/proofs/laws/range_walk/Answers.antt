use Rattle.mmdb_reader.proofs.ListingLemmas.{range_walk_lists, listings_are_unique}
use Rattle.mmdb_reader.proofs.laws.range_walk.Goals as goal

pub returns-clause-listing : goal.returns-clause-listing
returns-clause-listing c = range_walk_lists

pub returns-clause-unique : goal.returns-clause-unique
returns-clause-unique c = listings_are_unique
