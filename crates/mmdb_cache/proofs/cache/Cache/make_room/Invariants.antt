use Rattle.mmdb_cache.specs.Cache.{AreOfBefore}
use Rattle.mmdb_cache.proofs.cache.Cache.make_room.Given as goal

abbrev pub invariant-loop : goal.invariant-loop
invariant-loop g l = AreOfBefore l.fn.self l.self
