use Rattle.std.specs.List.{All}
use Rattle.mmdb_cache.specs.Cache.{IsNone}
use Rattle.mmdb_cache.proofs.cache.empty_places.Given as goal

abbrev pub invariant-loop : goal.invariant-loop
invariant-loop g l = All IsNone l.places.items
